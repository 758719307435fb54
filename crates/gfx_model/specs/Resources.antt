-- The calls of the API thread on things and views: index books, serials, refusals and effects.
use Rattle.std.specs.Prelude.{ℕ, ◌+◌, ◌-◌, ◌*◌, ◌%◌, pos, Bool, true, false, not, ◌&&◌, ◌||◌, ◌==◌, nat_le, nat_lt, if◌then◌else◌, List, [], ◌∷◌, ◌++◌, map, length, filter, replicate, sum_by, Option, Some, None, Result, Ok, Err, slice_index_or, slice_set, option_map, bytes_eq, is_some, is_none}
use Rattle.std.specs.List.{range_with_len, list_any, find}
use Rattle.gfx_model.specs.Number.{is_without_repeat}
use Rattle.gfx_model.specs.Words.{Kind, layout_kind, vertex_buffer_kind, index_buffer_kind, texture_kind, frame_buffer_kind, program_kind, uniform_kind, all_kinds, kind_number, is_kind, greatest, Format, rgba8, is_rgba8, is_format, ProgramKind, UniformKind, vec4, int, vec4_value, int_value, UniformValue, value_kind, is_uniform_kind, Info, plain, texture_info, uniform_info, Handle, free_word, live_word, dying_word, is_live_in}
use Rattle.gfx_model.specs.Vertex.{Color, Layout}
use Rattle.gfx_model.specs.Raster.{Affine, Rect, Texels}
use Rattle.gfx_model.specs.Views.{View, Views, Clear, ViewMode, ViewChange, rect_change, scissor_change, clear_change, mode_change, transform_change, plain_change, view_after, new_views, view_count, set_view}
use Rattle.gfx_model.specs.World.{Content, layout_content, vertex_content, index_content, texture_content, frame_buffer_content, program_content, uniform_content, Change, create_thing, update_bytes, update_texels, texel_in}

-- ---- refusals

-- why a call is refused
pub data Refusal : Type 0 where
  full : Refusal
  stale : (word : ℕ) → Refusal
  bad_range : Refusal
  bad_size : Refusal
  not_blit_destination : Refusal
  wrong_kind : Refusal
  attached : (holder : Handle) → Refusal
  room_full : Refusal
  bytes_full : Refusal
  bad_view : Refusal
  no_encoder : Refusal
  serials_spent : Refusal
  frames_spent : Refusal
  texels_full : Refusal
  bad_state : Refusal

-- the first refusal of a list whose test holds
abbrev pub first_refusal : List (Bool × Refusal) → Option Refusal
first_refusal [] = None
first_refusal (c ∷ rest) = if c.0 then Some c.1 else first_refusal rest

-- a value, or the refusal in its place
abbrev pub or_refusal : {A : Type 0} → A → Option Refusal → Result A Refusal
or_refusal x None = Ok x
or_refusal x (Some r) = Err r

-- ---- index books

-- the indices of a kind that can be given, the next one first, and those of destroyed things, each with its frame of death
pub record Book : Type 0 where
  pub free : List ℕ
  pub waiting : List (ℕ × ℕ)

-- a new book gives 0, 1, 2 and so on
abbrev pub new_book : ℕ → Book
new_book count = record { free = range_with_len 0 count; waiting = [] }

-- numbers put on a stack one after the other
abbrev pub pushed_on : List ℕ → List ℕ → List ℕ
pushed_on [] stack = stack
pushed_on (n ∷ ns) stack = pushed_on ns (n ∷ stack)

-- whether a death lies so far back that a frame gives its index again: no frame that is out can name it
abbrev pub is_over : ℕ → ℕ → ℕ → Bool
is_over latency frame death = nat_le (death + 1 + latency) frame

-- the book at the start of a frame: the indices of deaths that are over go on the stack in the order of their destroys
abbrev pub book_at_start : ℕ → ℕ → Book → Book
book_at_start latency frame b = record {
  free = pushed_on (map (λ w. w.0) (filter (λ w. is_over latency frame w.1) b.waiting)) b.free;
  waiting = filter (λ w. not (is_over latency frame w.1)) b.waiting;
}

-- ---- things and the state of the calls

-- a thing that is live, or dead and waiting until its index is given back
pub record Thing : Type 0 where
  pub handle : Handle
  pub birth : ℕ
  pub death : Option ℕ
  pub content : Content
  pub references : ℕ

-- the state of the API thread's calls: the books by kind, the things in the order of their births, the next serial and the views
pub record Resources : Type 0 where
  pub latency : ℕ
  pub frame : ℕ
  pub books : List Book
  pub things : List Thing
  pub next_serial : ℕ
  pub views : Views

-- nothing is made; a number of views, frames that may be out, the first frame's number and the first serial
abbrev pub opening : (view_count latency frame serial : ℕ) → Resources
opening view_count latency frame serial = record {
  latency = latency;
  frame = frame;
  books = map (λ k. new_book (greatest k)) all_kinds;
  things = [];
  next_serial = serial;
  views = new_views view_count;
}

-- whether a thing stands at an index of a kind
abbrev pub is_at : Kind → ℕ → Thing → Bool
is_at k index t = is_kind t.handle.kind k && (t.handle.index == index)

-- whether a thing was not destroyed
abbrev pub is_live : Thing → Bool
is_live t = is_none t.death

-- the place word of a serial that lives, or that dies in a frame
abbrev pub word_of_death : ℕ → Option ℕ → ℕ
word_of_death serial None = live_word serial
word_of_death serial (Some death) = dying_word serial death

-- the place word of the thing that is found at a place
abbrev pub word_of_thing : Option Thing → ℕ
word_of_thing None = free_word
word_of_thing (Some t) = word_of_death t.handle.serial t.death

-- the word of a handle's place
abbrev pub word_of : Resources → Handle → ℕ
word_of r h = word_of_thing (find (is_at h.kind h.index) r.things)

-- whether a handle's place has its serial live
abbrev pub is_live_handle : Resources → Handle → Bool
is_live_handle r h = is_live_in (word_of r h) h.serial

-- the book of a kind
abbrev pub book_of : Resources → Kind → Book
book_of r k = slice_index_or r.books (kind_number k) (record { free = []; waiting = [] })

-- the state with another book of a kind
abbrev pub with_book : Kind → Book → Resources → Resources
with_book k b r = record r { books = slice_set r.books (kind_number k) b }

-- the state with other things
abbrev pub with_things : List Thing → Resources → Resources
with_things things r = record r { things = things }

-- the state with other views
abbrev pub with_views : Views → Resources → Resources
with_views vs r = record r { views = vs }

-- whether a content is a uniform of a name
abbrev pub has_name : List ℕ → Content → Bool
has_name name (uniform_content n v) = bytes_eq n name
has_name name _ = false

-- the live uniform of a name, if there is one
abbrev pub named_uniform : Resources → List ℕ → Option Thing
named_uniform r name = find (λ t. is_live t && has_name name t.content) r.things

-- the kind of a uniform's value
abbrev pub uniform_kind_in : Content → UniformKind
uniform_kind_in (uniform_content n v) = value_kind v
uniform_kind_in _ = int

-- whether a content is a frame buffer that holds the texture of a serial
abbrev pub holds_texture : ℕ → Content → Bool
holds_texture serial (frame_buffer_content color None) = color == serial
holds_texture serial (frame_buffer_content color (Some depth)) = (color == serial) || (depth == serial)
holds_texture serial _ = false

-- the live frame buffers that hold a handle's texture
abbrev pub holders : Resources → Handle → List Handle
holders r h = map (λ t. t.handle) (filter (λ t. is_live t && holds_texture h.serial t.content) r.things)

-- of two handles the one of lesser index
abbrev pub lesser_index : Handle → Option Handle → Option Handle
lesser_index h None = Some h
lesser_index h (Some g) = if nat_le h.index g.index then Some h else Some g

-- the handle of least index, if there is one
abbrev pub least_index : List Handle → Option Handle
least_index [] = None
least_index (h ∷ hs) = lesser_index h (least_index hs)

-- how many texels a content has
abbrev pub texel_count : Content → ℕ
texel_count (texture_content f t) = t.width * t.height
texel_count _ = 0

-- how many bytes a buffer's content has
abbrev pub byte_count : Content → ℕ
byte_count (vertex_content l bytes) = length bytes
byte_count (index_content bytes) = length bytes
byte_count _ = 0

-- ---- calls

-- where a new texture's texels come from: one texel for all, or bytes of four a texel
pub data TexelSource : Type 0 where
  fill_source : Color → TexelSource
  bytes_source : List ℕ → TexelSource

-- the calls on things and views
pub data ResourceCall : Type 0 where
  create_layout : Layout → ResourceCall
  create_vertex_buffer : (layout : Handle) → (bytes : List ℕ) → ResourceCall
  create_index_buffer : (bytes : List ℕ) → ResourceCall
  create_texture : (width height : ℕ) → Format → (blit_destination : Bool) → TexelSource → ResourceCall
  create_frame_buffer : (color : Handle) → (depth : Option Handle) → ResourceCall
  create_program : ProgramKind → ResourceCall
  create_uniform : (name : List ℕ) → UniformKind → ResourceCall
  update_buffer : (buffer : Handle) → (offset : ℕ) → (bytes : List ℕ) → ResourceCall
  update_texture : (texture : Handle) → Rect → (bytes : List ℕ) → ResourceCall
  destroy : Handle → ResourceCall
  change_view : (view : ℕ) → ViewChange → ResourceCall
  set_view_target : (view : ℕ) → Option Handle → ResourceCall
  set_view_order : List ℕ → ResourceCall

-- the calls that change a view, by their names
abbrev pub set_view_rect : (view : ℕ) → Rect → ResourceCall
set_view_rect v rect = change_view v (rect_change rect)

abbrev pub set_view_scissor : (view : ℕ) → Rect → ResourceCall
set_view_scissor v rect = change_view v (scissor_change rect)

abbrev pub set_view_clear : (view : ℕ) → Clear → ResourceCall
set_view_clear v c = change_view v (clear_change c)

abbrev pub set_view_mode : (view : ℕ) → ViewMode → ResourceCall
set_view_mode v m = change_view v (mode_change m)

abbrev pub set_view_transform : (view : ℕ) → Affine → ResourceCall
set_view_transform v t = change_view v (transform_change t)

abbrev pub reset_view : (view : ℕ) → ResourceCall
reset_view v = change_view v plain_change

-- ---- which call is refused

-- the last serial that is given
abbrev pub greatest_serial : ℕ
greatest_serial = 4294967295

-- how many references a uniform can have
abbrev pub greatest_references : ℕ
greatest_references = 65535

-- how many texels all textures that are live or waiting can have
abbrev pub greatest_texels : ℕ
greatest_texels = 33554432

-- how many bytes a buffer can have
abbrev pub greatest_bytes : ℕ
greatest_bytes = 524288

-- no index of a kind is left
abbrev pub lacks_index : Resources → Kind → Bool × Refusal
lacks_index r k = (length (book_of r k).free == 0, full)

-- no serial is left
abbrev pub lacks_serial : Resources → Bool × Refusal
lacks_serial r = (nat_lt greatest_serial r.next_serial, serials_spent)

-- a handle is of another kind
abbrev pub is_not_kind : Kind → Handle → Bool × Refusal
is_not_kind k h = (not (is_kind h.kind k), wrong_kind)

-- the place's word does not have the serial live
abbrev pub is_not_live : Resources → Handle → Bool × Refusal
is_not_live r h = (not (is_live_handle r h), stale (word_of r h))

-- there is no view of that number
abbrev pub is_no_view : Resources → ℕ → Bool × Refusal
is_no_view r v = (nat_le (view_count r.views) v, bad_view)

-- whether a texture's side is within its range
abbrev pub is_size : ℕ → Bool
is_size n = nat_le 1 n && nat_le n 2048

-- whether a source has as many texels as the sides say
abbrev pub source_fits : ℕ → ℕ → TexelSource → Bool
source_fits width height (fill_source c) = true
source_fits width height (bytes_source bytes) = length bytes == 4 * (width * height)

-- the sides of a texture of a format; none for any other handle
abbrev pub sides_in : Format → Info → Option (ℕ × ℕ)
sides_in f (texture_info g d width height) = if is_format f g then Some (width, height) else None
sides_in f _ = None

-- the sides that a handle tells of a texture of a format; none for any other handle
abbrev pub texture_sides : Format → Handle → Option (ℕ × ℕ)
texture_sides f h = if is_kind h.kind texture_kind then sides_in f h.info else None

-- whether there are two pairs of sides and they are equal
abbrev pub same_sides : Option (ℕ × ℕ) → Option (ℕ × ℕ) → Bool
same_sides (Some a) (Some b) = (a.0 == b.0) && (a.1 == b.1)
same_sides _ _ = false

-- a colour texture of format rgba8, and where a depth texture is given one of format d24s8 and of the same size
abbrev pub can_attach : Handle → Option Handle → Bool
can_attach color None = is_some (texture_sides rgba8 color)
can_attach color (Some depth) = same_sides (texture_sides rgba8 color) (texture_sides Rattle.gfx_model.specs.Words.d24s8 depth)

-- a handle, if one is given, is not live
abbrev pub not_live_option : Resources → Option Handle → List (Bool × Refusal)
not_live_option r None = []
not_live_option r (Some h) = is_not_live r h ∷ []

-- whether a handle is of a vertex or index buffer
abbrev pub is_buffer : Handle → Bool
is_buffer h = is_kind h.kind vertex_buffer_kind || is_kind h.kind index_buffer_kind

-- how many bytes the thing of a handle's place holds
abbrev pub bytes_of_thing : Option Thing → ℕ
bytes_of_thing None = 0
bytes_of_thing (Some t) = byte_count t.content

-- how many bytes the buffer at a handle's place holds
abbrev pub held_bytes : Resources → Handle → ℕ
held_bytes r h = bytes_of_thing (find (is_at h.kind h.index) r.things)

-- whether a rectangle passes a side of a handle's texture
abbrev pub passes_side : Rect → Info → Bool
passes_side rect (texture_info f d width height) = nat_lt width (rect.x + rect.w) || nat_lt height (rect.y + rect.h)
passes_side rect _ = true

-- a holder, if there is one, keeps its texture from being destroyed
abbrev pub attached_by : Option Handle → List (Bool × Refusal)
attached_by None = []
attached_by (Some h) = (true, attached h) ∷ []

-- a new uniform needs an index and a serial; one that is live needs a reference
abbrev pub uniform_refusals : Resources → UniformKind → Option Thing → List (Bool × Refusal)
uniform_refusals r k None = lacks_index r uniform_kind ∷ lacks_serial r ∷ []
uniform_refusals r k (Some t) =
    (not (is_uniform_kind k (uniform_kind_in t.content)), wrong_kind)
    ∷ (nat_le greatest_references t.references, full) ∷ []

-- the conditions of a change of a view: flags to clear that there are not, and a depth that is too great
abbrev pub change_refusals : ViewChange → List (Bool × Refusal)
change_refusals (clear_change c) = (nat_lt 7 c.flags || nat_lt 16777215 c.depth, bad_state) ∷ []
change_refusals c = []

-- what a call is refused for, in the order in which it is tested
abbrev pub refusals : Resources → ResourceCall → List (Bool × Refusal)
refusals r (create_layout l) = lacks_index r layout_kind ∷ lacks_serial r ∷ []
refusals r (create_vertex_buffer l bytes) =
    (not (nat_le 1 (length bytes) && nat_le (length bytes) greatest_bytes), bad_size)
    ∷ is_not_kind layout_kind l ∷ is_not_live r l ∷ lacks_index r vertex_buffer_kind ∷ lacks_serial r ∷ []
refusals r (create_index_buffer bytes) =
    (not (nat_le 1 (length bytes) && nat_le (length bytes) greatest_bytes && (length bytes % 2 == 0)), bad_size)
    ∷ lacks_index r index_buffer_kind ∷ lacks_serial r ∷ []
refusals r (create_texture width height f d source) =
    (not (is_size width && is_size height && source_fits width height source), bad_size)
    ∷ lacks_index r texture_kind
    ∷ (nat_lt greatest_texels (sum_by (λ t. texel_count t.content) r.things + width * height), texels_full)
    ∷ lacks_serial r ∷ []
refusals r (create_frame_buffer color depth) =
    ((not (can_attach color depth), wrong_kind) ∷ is_not_live r color ∷ not_live_option r depth)
    ++ lacks_index r frame_buffer_kind ∷ lacks_serial r ∷ []
refusals r (create_program k) = lacks_index r program_kind ∷ lacks_serial r ∷ []
refusals r (create_uniform name k) =
    (not (nat_le 1 (length name) && nat_le (length name) 32), bad_size) ∷ uniform_refusals r k (named_uniform r name)
refusals r (update_buffer h offset bytes) =
    (not (is_buffer h), wrong_kind) ∷ is_not_live r h ∷ (nat_lt (held_bytes r h) (offset + length bytes), bad_range) ∷ []
refusals r (update_texture h rect bytes) =
    is_not_kind texture_kind h ∷ is_not_live r h ∷ (passes_side rect h.info, bad_range)
    ∷ (not (length bytes == 4 * (rect.w * rect.h)), bad_size) ∷ []
refusals r (destroy h) = is_not_live r h ∷ (if is_kind h.kind texture_kind then attached_by (least_index (holders r h)) else [])
refusals r (change_view v c) = is_no_view r v ∷ change_refusals c
refusals r (set_view_target v None) = is_no_view r v ∷ []
refusals r (set_view_target v (Some h)) = is_no_view r v ∷ is_not_kind frame_buffer_kind h ∷ is_not_live r h ∷ []
refusals r (set_view_order ids) =
    (list_any (λ v. nat_le (view_count r.views) v) ids, bad_view)
    ∷ (nat_lt (view_count r.views) (length ids) || not (is_without_repeat ids), bad_range) ∷ []

-- the refusal of a call, if it is refused
abbrev pub refusal_of : Resources → ResourceCall → Option Refusal
refusal_of r c = first_refusal (refusals r c)

-- ---- what an accepted call does

-- the state after, the handle of a create, and what the call does to the world
pub record Effect : Type 0 where
  pub after : Resources
  pub made : Option Handle
  pub changes : List Change

-- an effect on the state alone
abbrev pub no_change : Resources → Effect
no_change r = record { after = r; made = None; changes = [] }

-- an effect that changes one view's settings
abbrev pub changed_views : Resources → ℕ → (View → View) → Effect
changed_views r v f = no_change (with_views (set_view r.views v f) r)

-- the views with another order
abbrev pub with_order : List ℕ → Views → Views
with_order ids vs = record vs { order = ids }

-- the next index of a stack
abbrev pub top_index : List ℕ → ℕ
top_index [] = 0
top_index (i ∷ rest) = i

-- a stack without its next index
abbrev pub without_top : List ℕ → List ℕ
without_top [] = []
without_top (i ∷ rest) = rest

-- a book whose next index was given
abbrev pub without_top_index : Book → Book
without_top_index b = record b { free = without_top b.free }

-- the state with one serial given
abbrev pub with_next_serial : Resources → Resources
with_next_serial r = record r { next_serial = r.next_serial + 1 }

-- a new thing has the top index of its kind's stack and the next serial
abbrev pub make : Kind → Info → Content → Resources → Effect
make k info content r =
    let h : Handle = record { kind = k; index = top_index (book_of r k).free; serial = r.next_serial; info = info } in
    let thing : Thing = record { handle = h; birth = r.frame; death = None; content = content; references = 1 } in
    record {
      after = with_next_serial (with_book k (without_top_index (book_of r k)) (with_things (r.things ++ thing ∷ []) r));
      made = Some h;
      changes = create_thing r.next_serial content ∷ [];
    }

-- the texels of a new texture
abbrev pub texels_from : ℕ → ℕ → TexelSource → Texels
texels_from width height (fill_source c) = record { width = width; height = height; texels = replicate (width * height) c }
texels_from width height (bytes_source bytes) = record { width = width; height = height; texels = map (texel_in bytes) (range_with_len 0 (width * height)) }

-- the value of a new uniform
abbrev pub zero_value : UniformKind → UniformValue
zero_value vec4 = vec4_value (pos 0 ∷ pos 0 ∷ pos 0 ∷ pos 0 ∷ [])
zero_value int = int_value (pos 0)

-- the things with the one of a serial changed
abbrev pub change_of_serial : (Thing → Thing) → ℕ → List Thing → List Thing
change_of_serial f serial [] = []
change_of_serial f serial (t ∷ rest) = if t.handle.serial == serial then f t ∷ rest else t ∷ change_of_serial f serial rest

-- a thing with its references changed
abbrev pub with_references : (ℕ → ℕ) → Thing → Thing
with_references f t = record t { references = f t.references }

-- a thing that dies in a frame
abbrev pub with_death : ℕ → Thing → Thing
with_death frame t = record t { death = Some frame }

-- the state with the thing of a serial changed
abbrev pub on_thing : (Thing → Thing) → ℕ → Resources → Resources
on_thing f serial r = with_things (change_of_serial f serial r.things) r

-- a layout of nothing
abbrev pub no_layout : Layout
no_layout = record { attributes = []; stride = 0 }

-- the layout that a content is; the layout of nothing for any other
abbrev pub layout_of_content : Content → Layout
layout_of_content (layout_content l) = l
layout_of_content _ = no_layout

-- the layout that a vertex buffer keeps a copy of
abbrev pub layout_in : Option Thing → Layout
layout_in (Some t) = layout_of_content t.content
layout_in None = no_layout

-- the layout at a handle's place
abbrev pub layout_of_handle : Resources → Handle → Layout
layout_of_handle r h = layout_in (find (is_at h.kind h.index) r.things)

-- the references of a thing, if there is one
abbrev pub references_of : Option Thing → ℕ
references_of None = 0
references_of (Some t) = t.references

-- a live uniform of the name gets one reference more
abbrev pub uniform_effect : Resources → List ℕ → UniformKind → Option Thing → Effect
uniform_effect r name k None = make uniform_kind (uniform_info k) (uniform_content name (zero_value k)) r
uniform_effect r name k (Some t) = record { after = on_thing (with_references (λ n. n + 1)) t.handle.serial r; made = Some t.handle; changes = [] }

-- a book with one index more that waits, and its frame of death
abbrev pub with_waiting : ℕ → ℕ → Book → Book
with_waiting index death b = record b { waiting = b.waiting ++ (index, death) ∷ [] }

-- the thing dies in this frame, and its index waits
abbrev pub die : Handle → Resources → Resources
die h r = with_book h.kind (with_waiting h.index r.frame (book_of r h.kind)) (on_thing (with_death r.frame) h.serial r)

-- a uniform with further references only loses one
abbrev pub destroy_effect : Resources → Handle → Effect
destroy_effect r h =
    if nat_lt 1 (references_of (find (is_at h.kind h.index) r.things))
    then no_change (on_thing (with_references (λ n. n - 1)) h.serial r)
    else no_change (die h r)

-- the serial of a handle, if there is one
abbrev pub serial_option : Option Handle → Option ℕ
serial_option o = option_map (λ h. h.serial) o

-- what a call does where it is accepted
abbrev pub effect : Resources → ResourceCall → Effect
effect r (create_layout l) = make layout_kind plain (layout_content l) r
effect r (create_vertex_buffer l bytes) = make vertex_buffer_kind plain (vertex_content (layout_of_handle r l) bytes) r
effect r (create_index_buffer bytes) = make index_buffer_kind plain (index_content bytes) r
effect r (create_texture width height f d source) = make texture_kind (texture_info f d width height) (texture_content f (texels_from width height source)) r
effect r (create_frame_buffer color depth) = make frame_buffer_kind plain (frame_buffer_content color.serial (serial_option depth)) r
effect r (create_program k) = make program_kind plain (program_content k) r
effect r (create_uniform name k) = uniform_effect r name k (named_uniform r name)
effect r (update_buffer h offset bytes) = record { after = r; made = None; changes = update_bytes h.serial offset bytes ∷ [] }
effect r (update_texture h rect bytes) = record { after = r; made = None; changes = update_texels h.serial rect bytes ∷ [] }
effect r (destroy h) = destroy_effect r h
effect r (change_view v c) = changed_views r v (view_after c)
effect r (set_view_target v t) = changed_views r v (λ view. record view { target = t })
effect r (set_view_order ids) = no_change (with_views (with_order ids r.views) r)

-- the answer to a call: its effect, or its refusal, which changes nothing
abbrev pub answer : Resources → ResourceCall → Result Effect Refusal
answer r c = or_refusal (effect r c) (refusal_of r c)

-- ---- frames

-- a thing that lives, or whose death is not over, is kept
abbrev pub is_kept_death : ℕ → ℕ → Option ℕ → Bool
is_kept_death latency frame None = true
is_kept_death latency frame (Some death) = not (is_over latency frame death)

-- whether a thing is kept at a frame's start
abbrev pub is_kept_thing : ℕ → ℕ → Thing → Bool
is_kept_thing latency frame t = is_kept_death latency frame t.death

-- a target, or the back buffer in place of one that is no longer live
abbrev pub live_target : Resources → Option Handle → Option Handle
live_target r None = None
live_target r (Some h) = if is_live_handle r h then Some h else None

-- a view whose target is no longer live has the back buffer
abbrev pub with_live_target : Resources → View → View
with_live_target r view = record view { target = live_target r view.target }

-- the views, each without a target that is no longer live
abbrev pub with_live_targets : Resources → Views → Views
with_live_targets r vs = record vs { settings = map (with_live_target r) vs.settings }

-- the state at the start of a frame: indices and things whose death is over are given back,
-- and a view whose target died has the back buffer
abbrev pub start_frame : ℕ → Resources → Resources
start_frame frame r = record r {
  frame = frame;
  books = map (book_at_start r.latency frame) r.books;
  things = filter (is_kept_thing r.latency frame) r.things;
  views = with_live_targets r r.views;
}

-- whether a death came in a frame
abbrev pub is_death : ℕ → Option ℕ → Bool
is_death frame None = false
is_death frame (Some death) = death == frame

-- the serials of the things that died in a frame, in the order of their births
abbrev pub deaths_in : ℕ → Resources → List ℕ
deaths_in frame r = map (λ t. t.handle.serial) (filter (λ t. is_death frame t.death) r.things)
