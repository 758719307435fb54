-- Textures and frame buffers by index.
use Rattle.std.specs.Prelude.{◌≡◌, ℕ, is_some, true, ◌+◌, ◌-◌, ◌*◌, ◌/◌, ◌%◌, Bool, false, not, ◌&&◌, ◌||◌, ◌==◌, nat_lt, if◌then◌else◌, List, [], ◌∷◌, length, map, Option, Some, None, option_map, option_and_then, IfSome}
use Rattle.gfx_model.specs.Number.{map_from}
use Rattle.gfx_model.specs.Words.{texture_kind, frame_buffer_kind, greatest, Format, rgba8, d24s8, is_format}
use Rattle.gfx_model.specs.Raster.{Rect, contains, Texels, texel_at}
use Rattle.gfx_model.specs.Resources.{TexelSource, Refusal, bad_range, bad_size, is_size, source_fits, same_sides}
use Rattle.gfx_model.specs.World.{Blit}
use Rattle.store_model.specs.Slots.{at, no_slots, emptied_at, changed_at}

-- the texels of a texture, or only its sides while they are taken out
pub data Held : Type 0 where
  here : Texels → Held
  taken : (width height : ℕ) → Held

-- width and height, also of texels that are taken out
abbrev pub sides_of : Held → ℕ × ℕ
sides_of (here t) = (t.width, t.height)
sides_of (taken width height) = (width, height)

-- the texels, unless they are taken out
abbrev pub texels_in : Held → Option Texels
texels_in (here t) = Some t
texels_in (taken width height) = None

-- a texture
pub record TextureSlot : Type 0 where
  pub format : Format
  pub held : Held

-- the indices of a frame buffer's textures
pub record TargetSlot : Type 0 where
  pub color : ℕ
  pub depth : Option ℕ

-- a row of slots for textures and one for frame buffers
pub record Textures : Type 0 where
  pub textures : List (Option TextureSlot)
  pub targets : List (Option TargetSlot)

-- no things: a slot for each index that a texture and a frame buffer can have
abbrev pub no_textures : Textures
no_textures = record { textures = no_slots (greatest texture_kind); targets = no_slots (greatest frame_buffer_kind) }

-- the texels of a texture, unless they are taken out
abbrev pub slot_texels : TextureSlot → Option Texels
slot_texels s = texels_in s.held

-- the texels of a texture of a row; none where it is not there or is taken out
abbrev pub texels_in_row : List (Option TextureSlot) → ℕ → Option Texels
texels_in_row textures i = option_and_then slot_texels (at textures i)

-- the texels of a texture; none where it is not there or is taken out
abbrev pub texels_at : Textures → ℕ → Option Texels
texels_at h i = texels_in_row h.textures i

-- ---- creates and updates

-- a new texture, whose texels are here
abbrev pub new_texture : Format → Texels → TextureSlot
new_texture format texels = record { format = format; held = here texels }

-- what a create is refused for
abbrev pub create_refusals : ℕ → ℕ → TexelSource → List (Bool × Refusal)
create_refusals width height source = (not (is_size width && is_size height && source_fits width height source), bad_size) ∷ []

-- what an update of a rectangle is refused for, in the order of testing
abbrev pub update_refusals : Texels → Rect → List ℕ → List (Bool × Refusal)
update_refusals t r bytes =
    (nat_lt t.width (r.x + r.w) || nat_lt t.height (r.y + r.h), bad_range)
    ∷ (not (length bytes == 4 * (r.w * r.h)), bad_size) ∷ []

-- texels changed where they are here
abbrev pub changed_held : (Texels → Texels) → Held → Held
changed_held change (here t) = here (change t)
changed_held change (taken width height) = taken width height

-- a texture with its texels changed where they are here
abbrev pub with_texels_here : (Texels → Texels) → TextureSlot → TextureSlot
with_texels_here change s = record s { held = changed_held change s.held }

-- the textures with the texels of one changed
abbrev pub changed_texels : (Texels → Texels) → ℕ → Textures → Textures
changed_texels change i h = record h { textures = changed_at (with_texels_here change) i h.textures }

-- ---- frame buffers

-- the sides of a texture; none where it has not that format
abbrev pub slot_sides : Format → TextureSlot → Option (ℕ × ℕ)
slot_sides f s = if is_format f s.format then Some (sides_of s.held) else None

-- the sides of a texture of a format; none where there is none of that format
abbrev pub sides_at : Format → List (Option TextureSlot) → ℕ → Option (ℕ × ℕ)
sides_at f textures i = option_and_then (slot_sides f) (at textures i)

-- a colour texture of format rgba8, and where a depth texture is given one of format d24s8 and of the same size
abbrev pub can_attach_at : List (Option TextureSlot) → ℕ → Option ℕ → Bool
can_attach_at textures color None = is_some (sides_at rgba8 textures color)
can_attach_at textures color (Some depth) = same_sides (sides_at rgba8 textures color) (sides_at d24s8 textures depth)

-- each frame buffer's textures are there, with their formats and one size
abbrev pub AllAttached : List (Option TextureSlot) → List (Option TargetSlot) → Type 0
AllAttached textures targets = (i : ℕ) (t : TargetSlot) → at targets i ≡ Some t → can_attach_at textures t.color t.depth ≡ true

-- what holds of each store: a slot for each index, and each frame buffer's textures are there
pub record IsTextures (h : Textures) : Type 0 where
  pub textures : length h.textures ≡ greatest texture_kind
  pub targets : length h.targets ≡ greatest frame_buffer_kind
  pub attached : AllAttached h.textures h.targets

-- whether a depth texture, if there is one, has that index
abbrev pub is_index : ℕ → Option ℕ → Bool
is_index i None = false
is_index i (Some j) = i == j

-- whether a frame buffer holds a texture
abbrev pub holds : ℕ → TargetSlot → Bool
holds i t = (i == t.color) || is_index i t.depth

-- whether a slot's frame buffer, if there is one, holds a texture
abbrev pub slot_holds : ℕ → Option TargetSlot → Bool
slot_holds i None = false
slot_holds i (Some t) = holds i t

-- a frame buffer where the answer is no
abbrev pub unless_held : Bool → TargetSlot → Option TargetSlot
unless_held true t = None
unless_held false t = Some t

-- a frame buffer, unless it holds a texture
abbrev pub unless_holding : ℕ → Option TargetSlot → Option TargetSlot
unless_holding i None = None
unless_holding i (Some t) = unless_held (holds i t) t

-- the textures without one, and the frame buffers without those that held it
abbrev pub destroyed : ℕ → Textures → Textures
destroyed i h = record { textures = emptied_at i h.textures; targets = map (unless_holding i) h.targets }

-- ---- textures that are taken out

-- the colour's texels with the depth's; none where the depth's are not here
abbrev pub with_depth : Option Texels → Texels → Option (Texels × Option Texels)
with_depth None c = None
with_depth (Some d) c = Some (c, Some d)

-- the texels of a colour texture and, where one is given, of a depth texture; none where some of them are not here
abbrev pub attached_texels : List (Option TextureSlot) → ℕ → Option ℕ → Option (Texels × Option Texels)
attached_texels textures color None = option_map (λ c. (c, None)) (texels_in_row textures color)
attached_texels textures color (Some depth) = option_and_then (with_depth (texels_in_row textures depth)) (texels_in_row textures color)

-- the texels of a frame buffer's textures; none where it is not there or some of them are taken out
abbrev pub target_texels : Textures → ℕ → Option (Texels × Option Texels)
target_texels h i = option_and_then (λ t. attached_texels h.textures t.color t.depth) (at h.targets i)

-- texels of such sides, taken out
abbrev pub held_out : ℕ × ℕ → Held
held_out sides = taken sides.0 sides.1

-- a texture whose texels are taken out
abbrev pub slot_out : TextureSlot → TextureSlot
slot_out s = record s { held = held_out (sides_of s.held) }

-- a texture with these texels
abbrev pub slot_with : Texels → TextureSlot → TextureSlot
slot_with t s = record s { held = here t }

-- the textures without the texels of a depth texture, where one is given
abbrev pub depth_out : Option ℕ → List (Option TextureSlot) → List (Option TextureSlot)
depth_out None textures = textures
depth_out (Some depth) textures = changed_at slot_out depth textures

-- the textures with the texels of a depth texture put back, where one is given
abbrev pub depth_back : Option ℕ → Option Texels → List (Option TextureSlot) → List (Option TextureSlot)
depth_back (Some depth) (Some d) textures = changed_at (slot_with d) depth textures
depth_back _ _ textures = textures

-- the textures without the texels of a frame buffer's
abbrev pub attached_out : TargetSlot → List (Option TextureSlot) → List (Option TextureSlot)
attached_out t textures = depth_out t.depth (changed_at slot_out t.color textures)

-- the textures without the texels of a frame buffer's, where there is one and its texels are found
abbrev pub out_for : Option (Texels × Option Texels) → Option TargetSlot → Textures → Textures
out_for (Some p) (Some t) h = record h { textures = attached_out t h.textures }
out_for _ _ h = h

-- the textures without the texels of a frame buffer's, where all of them are here
abbrev pub target_out : ℕ → Textures → Textures
target_out i h = out_for (target_texels h i) (at h.targets i) h

-- the textures with the texels of a frame buffer's put back
abbrev pub attached_back : TargetSlot → Texels → Option Texels → List (Option TextureSlot) → List (Option TextureSlot)
attached_back t color depth textures = depth_back t.depth depth (changed_at (slot_with color) t.color textures)

-- the textures with the texels put back of a frame buffer, if there is one
abbrev pub back_for : Option TargetSlot → Texels → Option Texels → Textures → Textures
back_for None color depth h = h
back_for (Some t) color depth h = record h { textures = attached_back t color depth h.textures }

-- the textures with the texels of the frame buffer of an index put back
abbrev pub target_back : ℕ → Texels → Option Texels → Textures → Textures
target_back i color depth h = back_for (at h.targets i) color depth h

-- the textures with the texels of a depth texture changed, where one is given
abbrev pub changed_depth : Option ℕ → (Texels → Texels) → Textures → Textures
changed_depth None change h = h
changed_depth (Some depth) change h = changed_texels change depth h

-- the textures with the texels changed of a frame buffer's textures, if there is one
abbrev pub changed_for : Option TargetSlot → (color depth : Texels → Texels) → Textures → Textures
changed_for None color depth h = h
changed_for (Some t) color depth h = changed_depth t.depth depth (changed_texels color t.color h)

-- the textures with the texels changed of the textures of an index's frame buffer
abbrev pub changed_target : ℕ → (color depth : Texels → Texels) → Textures → Textures
changed_target i color depth h = changed_for (at h.targets i) color depth h

-- the sides of a texture that is taken out
abbrev pub out_sides : Held → Option (ℕ × ℕ)
out_sides (here t) = None
out_sides (taken width height) = Some (width, height)

-- the sides of a texture of a row that is taken out; none where it is not there or is here
abbrev pub out_at : List (Option TextureSlot) → ℕ → Option (ℕ × ℕ)
out_at textures i = option_and_then (λ s. out_sides s.held) (at textures i)

-- whether the textures of a frame buffer are taken out and have such sides, and a depth texture just where it has one
abbrev pub IsOut : List (Option TextureSlot) → TargetSlot → ℕ × ℕ → Option (ℕ × ℕ) → Type 0
IsOut textures t color depth = (out_at textures t.color ≡ Some color) × (depth ≡ option_and_then (out_at textures) t.depth) × (is_some depth ≡ is_some t.depth)

-- the same of the frame buffer of an index, if there is one
abbrev pub IsOutAt : Textures → ℕ → ℕ × ℕ → Option (ℕ × ℕ) → Type 0
IsOutAt h i color depth = IfSome (at h.targets i) (λ t. IsOut h.textures t color depth)

-- ---- blits

-- a region of w by h texels, copied from a place of the source to a place of the destination
pub record Region : Type 0 where
  pub dx : ℕ
  pub dy : ℕ
  pub sx : ℕ
  pub sy : ℕ
  pub w : ℕ
  pub h : ℕ

-- whether a texel of the destination is written: it lies in the region, and its source texel in the source
abbrev pub region_covers : Region → Texels → ℕ → ℕ → Bool
region_covers r source x y =
    contains (record { x = r.dx; y = r.dy; w = r.w; h = r.h }) x y
    && nat_lt (r.sx + (x - r.dx)) source.width && nat_lt (r.sy + (y - r.dy)) source.height

-- the destination with the region, cut to both, the source as it was before
abbrev pub copied_region : Region → Texels → Texels → Texels
copied_region r source d = record d {
  texels = map_from (λ i old. let x = i % d.width in let y = i / d.width in if region_covers r source x y then texel_at source (r.sx + (x - r.dx)) (r.sy + (y - r.dy)) else old) 0 d.texels;
}

-- the region of a blit
abbrev pub region_of : Blit → Region
region_of b = record { dx = b.dx; dy = b.dy; sx = b.sx; sy = b.sy; w = b.w; h = b.h }
