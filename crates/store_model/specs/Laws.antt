-- The laws of rows, frame buffers and named uniforms.
use Rattle.std.specs.Prelude.{◌≡◌, ◌≢◌, ℕ, List, false, Option, Some, None, option_map}
use Rattle.gfx_model.specs.Words.{UniformKind}
use Rattle.gfx_model.specs.Raster.{Texels}
use Rattle.gfx_model.specs.World.{Blit, blitted}
use Rattle.store_model.specs.Slots.{at}
use Rattle.store_model.specs.Buffers.{UniformSlot, newest_slot, IsNewest, HasNoneNamed}
use Rattle.store_model.specs.Textures.{Textures, TargetSlot, IsTextures, slot_holds, texels_at, target_texels, target_out, target_back, changed_target, copied_region, region_of}

-- texels that are taken out of a frame buffer's textures and put back leave the textures as they were
abbrev pub PutBackLaw : Type 0
PutBackLaw = (h : Textures) (i : ℕ) (color : Texels) (depth : Option Texels) → IsTextures h → target_texels h i ≡ Some (color, depth)
    → target_back i color depth (target_out i h) ≡ h

-- texels that are taken out and put back changed are changed in their place
abbrev pub PutChangedLaw : Type 0
PutChangedLaw = (h : Textures) (i : ℕ) (color : Texels) (depth : Option Texels) (f g : Texels → Texels) → IsTextures h → target_texels h i ≡ Some (color, depth)
    → target_back i (f color) (option_map g depth) (target_out i h) ≡ changed_target i f g h

-- the texels of other textures stay while those of a frame buffer are taken out
abbrev pub OthersStayLaw : Type 0
OthersStayLaw = (h : Textures) (i j : ℕ) → slot_holds j (at h.targets i) ≡ false → texels_at (target_out i h) j ≡ texels_at h j

-- the colour texture and the depth texture of a frame buffer are two textures
abbrev pub TwoTexturesLaw : Type 0
TwoTexturesLaw = (h : Textures) (i : ℕ) (t : TargetSlot) (depth : ℕ) → IsTextures h → at h.targets i ≡ Some t → t.depth ≡ Some depth → depth ≢ t.color

-- where a slot has the newest of a name and a kind, that is the one that is looked up
abbrev pub NewestLaw : Type 0
NewestLaw = (name : List ℕ) (kind : UniformKind) (slots : List (Option UniformSlot)) (i : ℕ) → IsNewest name kind slots i → newest_slot name kind slots ≡ at slots i

-- where no slot has the name and the kind, none is looked up
abbrev pub NoneNamedLaw : Type 0
NoneNamedLaw = (name : List ℕ) (kind : UniformKind) (slots : List (Option UniformSlot)) → HasNoneNamed name kind slots → newest_slot name kind slots ≡ None

-- a blit copies its region
abbrev pub BlitLaw : Type 0
BlitLaw = (b : Blit) (source destination : Texels) → blitted b source destination ≡ copied_region (region_of b) source destination
