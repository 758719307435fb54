-- Which scenes have a text, said by the ranges of their numbers, the binding of their names and the order of their blocks.
use Rattle.std.specs.Prelude.{◌≡◌, ℕ, ◌^◌, ◌≤◌, ◌<◌, ℤ, pos, negsuc, ◌⊎◌, nat_lt, if◌then◌else◌, Bool, true, false, int_le, bytes_eq, List, [], ◌∷◌, ◌++◌, length, slice_get, Option, None, Some, ⊤}
use Rattle.std.specs.List.{AllByRecursion, IsDistinct}
use Rattle.gfx_model.specs.Words.{UniformValue, vec4_value, int_value}
use Rattle.gfx_model.specs.Vertex.{Color, LayoutPart, attribute_part, skip_part}
use Rattle.gfx_model.specs.Raster.{Affine, Rect}
use Rattle.gfx_model.specs.Views.{Clear, rect_change, scissor_change, clear_change, mode_change, transform_change, plain_change}
use Rattle.gfx_model.specs.Resources.{TexelSource, fill_source, bytes_source}
pub use Rattle.gfx_model.specs.FrameCalls.{IsRoom}
use Rattle.scene_model.specs.Scene.{Name, ResourceLine, layout_line, vertex_buffer_line, index_buffer_line, texture_line, frame_buffer_line, program_line, uniform_line, update_line, texel_update_line, destroy_line, view_line, target_line, order_line, EncoderLine, state_line, stencil_line, scissor_line, transform_line, vertices_line, indices_line, transient_vertices_line, transient_indices_line, bind_line, set_line, submit_line, touch_line, blit_line, Block, SceneFrame, Scene, HasSides, IsVersion, greatest_latency, views_of}
use Rattle.scene_model.specs.Field.{is_name}

-- ---- the ranges of fields

-- each is a byte
abbrev pub AreBytes : List ℕ → Type 0
AreBytes bytes = AllByRecursion (λ b. b ≤ 255) bytes

-- four bytes
abbrev pub IsColor : Color → Type 0
IsColor c = (length c ≡ 4) × AreBytes c

-- of 32 bits with a sign
abbrev pub IsInteger : ℤ → Type 0
IsInteger z = (int_le (negsuc 2147483647) z ≡ true) × (int_le z (pos 2147483647) ≡ true)

-- twelve integers
abbrev pub IsTransform : Affine → Type 0
IsTransform m = (length m ≡ 12) × AllByRecursion IsInteger m

-- four numbers of 16 bits
abbrev pub IsRect : Rect → Type 0
IsRect r = (r.x ≤ 65535) × (r.y ≤ 65535) × (r.w ≤ 65535) × (r.h ≤ 65535)

-- each number within its field
abbrev pub IsClear : Clear → Type 0
IsClear c = (c.flags ≤ 255) × IsColor c.color × (c.depth ≤ 16777215) × (c.stencil ≤ 255)

-- four integers, or one
abbrev pub IsValue : UniformValue → Type 0
IsValue (vec4_value zs) = (length zs ≡ 4) × AllByRecursion IsInteger zs
IsValue (int_value z) = IsInteger z

-- a colour, or bytes
abbrev pub IsSource : TexelSource → Type 0
IsSource (fill_source c) = IsColor c
IsSource (bytes_source bytes) = AreBytes bytes

-- one to four components, or one to 255 bytes that are skipped
abbrev pub IsPart : LayoutPart → Type 0
IsPart (attribute_part attribute component count) = (1 ≤ count) × (count ≤ 4)
IsPart (skip_part bytes) = (1 ≤ bytes) × (bytes ≤ 255)

-- ---- names: which are bound so far, in the order in which they were bound first, each with whether a `uniform` line bound it

-- a name of the list was bound
abbrev pub IsBound : List Bool → Name → Type 0
IsBound bound n = n < length bound

-- the same of a name, if there is one
abbrev pub IsBoundOrNone : List Bool → Option Name → Type 0
IsBoundOrNone bound None = ⊤
IsBoundOrNone bound (Some n) = IsBound bound n

-- a new name is the next one
abbrev pub IsNew : List Bool → Name → Type 0
IsNew bound n = n ≡ length bound

-- a `uniform` line may bind a name again that a `uniform` line bound
abbrev pub IsOfUniform : List Bool → Name → Type 0
IsOfUniform bound n = IsNew bound n ⊎ (slice_get bound n ≡ Some true)

-- the names that are bound behind a line
abbrev pub bound_by : List Bool → ResourceLine → List Bool
bound_by bound (layout_line n parts) = bound ++ false ∷ []
bound_by bound (vertex_buffer_line n layout bytes) = bound ++ false ∷ []
bound_by bound (index_buffer_line n bytes) = bound ++ false ∷ []
bound_by bound (texture_line n width height format destination source) = bound ++ false ∷ []
bound_by bound (frame_buffer_line n color depth) = bound ++ false ∷ []
bound_by bound (program_line n kind) = bound ++ false ∷ []
bound_by bound (uniform_line n kind) = if nat_lt n (length bound) then bound else bound ++ true ∷ []
bound_by bound _ = bound

-- the same behind several lines
abbrev pub bound_by_lines : List Bool → List ResourceLine → List Bool
bound_by_lines bound [] = bound
bound_by_lines bound (l ∷ lines) = bound_by_lines (bound_by bound l) lines

-- ---- lines

-- a resource or view line has its numbers in their ranges, names what is bound, and binds what is new
abbrev pub IsResourceLine : (views : ℕ) → List Bool → ResourceLine → Type 0
IsResourceLine views bound (layout_line n parts) = IsNew bound n × (1 ≤ length parts) × (length parts ≤ 15) × AllByRecursion IsPart parts
IsResourceLine views bound (vertex_buffer_line n layout bytes) = IsNew bound n × IsBound bound layout × AreBytes bytes
IsResourceLine views bound (index_buffer_line n bytes) = IsNew bound n × AreBytes bytes
IsResourceLine views bound (texture_line n width height format destination source) = IsNew bound n × (width ≤ 65535) × (height ≤ 65535) × IsSource source
IsResourceLine views bound (frame_buffer_line n color depth) = IsNew bound n × IsBound bound color × IsBoundOrNone bound depth
IsResourceLine views bound (program_line n kind) = IsNew bound n
IsResourceLine views bound (uniform_line n kind) = IsOfUniform bound n
IsResourceLine views bound (update_line n offset bytes) = IsBound bound n × (offset < 2 ^ 32) × AreBytes bytes
IsResourceLine views bound (texel_update_line n r bytes) = IsBound bound n × IsRect r × AreBytes bytes
IsResourceLine views bound (destroy_line n) = IsBound bound n
IsResourceLine views bound (view_line view (rect_change r)) = (view ≤ 65535) × IsRect r
IsResourceLine views bound (view_line view (scissor_change r)) = (view ≤ 65535) × IsRect r
IsResourceLine views bound (view_line view (clear_change clear)) = (view ≤ 65535) × IsClear clear
IsResourceLine views bound (view_line view (mode_change mode)) = view ≤ 65535
IsResourceLine views bound (target_line view target) = (view ≤ 65535) × IsBoundOrNone bound target
IsResourceLine views bound (view_line view (transform_change m)) = (view ≤ 65535) × IsTransform m
IsResourceLine views bound (view_line view plain_change) = view ≤ 65535
IsResourceLine views bound (order_line ids) = (length ids ≤ views) × AllByRecursion (λ v. v ≤ 65535) ids

-- lines one behind the other, each with the names that are bound before it
abbrev pub AreResourceLines : (views : ℕ) → List Bool → List ResourceLine → Type 0
AreResourceLines views bound [] = ⊤
AreResourceLines views bound (l ∷ lines) = IsResourceLine views bound l × AreResourceLines views (bound_by bound l) lines

-- an encoder's line has its numbers in their ranges, and names what is bound
abbrev pub IsEncoderLine : List Bool → EncoderLine → Type 0
IsEncoderLine bound (state_line word) = word < 2 ^ 64
IsEncoderLine bound (stencil_line front back) = (front < 2 ^ 32) × (back < 2 ^ 32)
IsEncoderLine bound (scissor_line r) = IsRect r
IsEncoderLine bound (transform_line m) = IsTransform m
IsEncoderLine bound (vertices_line n first count) = IsBound bound n × (first < 2 ^ 32) × (count < 2 ^ 32)
IsEncoderLine bound (indices_line n first count) = IsBound bound n × (first < 2 ^ 32) × (count < 2 ^ 32)
IsEncoderLine bound (transient_vertices_line layout bytes) = IsBound bound layout × AreBytes bytes
IsEncoderLine bound (transient_indices_line bytes) = AreBytes bytes
IsEncoderLine bound (bind_line stage texture) = (stage ≤ 255) × IsBoundOrNone bound texture
IsEncoderLine bound (set_line n value) = IsBound bound n × IsValue value
IsEncoderLine bound (submit_line view n depth flags) = (view ≤ 65535) × IsBound bound n × (depth < 2 ^ 32) × (flags ≤ 255)
IsEncoderLine bound (touch_line view) = view ≤ 65535
IsEncoderLine bound (blit_line view destination dx dy source sx sy w h) =
    (view ≤ 65535) × IsBound bound destination × (dx ≤ 65535) × (dy ≤ 65535) × IsBound bound source × (sx ≤ 65535) × (sy ≤ 65535) × (w ≤ 65535) × (h ≤ 65535)

-- ---- frames

-- each block has a greater number than the one before it, so an encoder has one block at most
abbrev pub AreAscending : List Block → Type 0
AreAscending [] = ⊤
AreAscending (a ∷ []) = ⊤
AreAscending (a ∷ b ∷ rest) = (a.encoder < b.encoder) × AreAscending (b ∷ rest)

-- a block is of an encoder of the scene, and its lines are encoder lines
abbrev pub IsBlock : (encoders : ℕ) → List Bool → Block → Type 0
IsBlock encoders bound b = (b.encoder < encoders) × AllByRecursion (IsEncoderLine bound) b.lines

-- the lines before the blocks bind names for these and for the lines beside them
pub record IsFrame (views encoders : ℕ) (bound : List Bool) (f : SceneFrame) : Type 0 where
  pub before : AreResourceLines views bound f.before
  pub ascending : AreAscending f.blocks
  pub blocks : AllByRecursion (IsBlock encoders (bound_by_lines bound f.before)) f.blocks
  pub beside : AreResourceLines views (bound_by_lines bound f.before) f.beside

-- the names that are bound behind a frame
abbrev pub bound_by_frame : List Bool → SceneFrame → List Bool
bound_by_frame bound f = bound_by_lines (bound_by_lines bound f.before) f.beside

-- the same behind several frames
abbrev pub bound_by_frames : List Bool → List SceneFrame → List Bool
bound_by_frames bound [] = bound
bound_by_frames bound (f ∷ frames) = bound_by_frames (bound_by_frame bound f) frames

-- frames one behind the other
abbrev pub AreFrames : (views encoders : ℕ) → List Bool → List SceneFrame → Type 0
AreFrames views encoders bound [] = ⊤
AreFrames views encoders bound (f ∷ frames) = IsFrame views encoders bound f × AreFrames views encoders (bound_by_frame bound f) frames

-- ---- scenes

-- a scene that has a text
pub record IsReadable (s : Scene) : Type 0 where
  pub known_version : IsVersion s.version
  pub sides : HasSides s
  pub encoders : (1 ≤ s.encoders) × (s.encoders ≤ 8)
  pub room : IsRoom s.room
  pub latency : (1 ≤ s.latency) × (s.latency ≤ greatest_latency)
  pub one_out : s.version ≡ 1 → s.latency ≡ 1
  pub frame_count : (1 ≤ length s.frames) × (length s.frames ≤ 1024)
  pub frames : AreFrames (views_of s) s.encoders [] s.frames
  pub names : AllByRecursion (λ f. is_name f ≡ true) s.names
  pub distinct : IsDistinct bytes_eq s.names
  pub all_bound : length (bound_by_frames [] s.frames) ≡ length s.names
