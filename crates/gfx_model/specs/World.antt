-- What a frame does to the things and the back buffer: the world, its changes, items, and the frame step.
use Rattle.std.specs.Prelude.{ℕ, ◌+◌, ◌-◌, ◌*◌, ◌/◌, ◌%◌, ◌^◌, ℤ, pos, negsuc, Bool, true, false, not, ◌&&◌, ◌||◌, ◌==◌, nat_le, nat_lt, if◌then◌else◌, List, [], ◌∷◌, ◌++◌, map, length, take, drop, replicate, filter, filter_map, fold, Option, Some, None, slice_index_or, option_map, option_and_then, codes, bytes_eq}
use Rattle.std.specs.List.{list_any}
use Rattle.gfx_model.specs.Number.{zip_with, map_from, is_among, byte_product, is_bit_set, u32_at}
use Rattle.gfx_model.specs.Words.{Format, ProgramKind, solid, vertex_color, textured, textured_color, UniformKind, vec4, int, UniformValue, vec4_value, int_value, value_kind, is_uniform_kind, Handle, cull_of, primitive_of, is_blended}
use Rattle.gfx_model.specs.Vertex.{Color, Layout, Vertex, VertexRange, IndexRange, Triangle, vertices_of, triangles_of, color_of_fixed}
use Rattle.gfx_model.specs.Raster.{Affine, Rect, Texels, ScreenVertex, Fragment, contains, view_rect, passes_scissor, place, is_front, is_kept, clockwise, covers, fragment_at, sample, no_color, texel_at}
use Rattle.gfx_model.specs.Pixel.{Pixel, pixel_step}
use Rattle.gfx_model.specs.Views.{View, Views, Clear, view_at, view_order, position_of_view, sort_key}

-- ---- the world

-- what a thing holds; a vertex buffer keeps a copy of its layout, a frame buffer the serials of its textures
pub data Content : Type 0 where
  layout_content : Layout → Content
  vertex_content : Layout → (bytes : List ℕ) → Content
  index_content : (bytes : List ℕ) → Content
  texture_content : Format → Texels → Content
  frame_buffer_content : (color : ℕ) → (depth : Option ℕ) → Content
  program_content : ProgramKind → Content
  uniform_content : (name : List ℕ) → UniformValue → Content

-- a colour texture and perhaps a depth texture of one size
pub record Surface : Type 0 where
  pub color : Texels
  pub depth : Option Texels

-- the back buffer, and each thing's content by its serial, in the order of their creation
pub record World : Type 0 where
  pub back : Surface
  pub things : List (ℕ × Content)

-- texels of zeros
abbrev pub blank_texels : ℕ → ℕ → Texels
blank_texels width height = record { width = width; height = height; texels = replicate (width * height) no_color }

-- no things, and a back buffer of zeros
abbrev pub first_world : ℕ → ℕ → World
first_world width height = record { back = record { color = blank_texels width height; depth = Some (blank_texels width height) }; things = [] }

-- the content of a serial, if it is there
abbrev pub content_in : List (ℕ × Content) → ℕ → Option Content
content_in [] serial = None
content_in (t ∷ rest) serial = if t.0 == serial then Some t.1 else content_in rest serial

-- the content of a handle's serial, if it is there
abbrev pub content_of : World → Handle → Option Content
content_of w h = content_in w.things h.serial

-- the things with one thing's content changed
abbrev pub change_thing : (Content → Content) → ℕ → List (ℕ × Content) → List (ℕ × Content)
change_thing f serial [] = []
change_thing f serial (t ∷ rest) = if t.0 == serial then (t.0, f t.1) ∷ rest else t ∷ change_thing f serial rest

-- ---- creates and updates

-- what a create or an update does to the things
pub data Change : Type 0 where
  create_thing : (serial : ℕ) → Content → Change
  update_bytes : (serial offset : ℕ) → (bytes : List ℕ) → Change
  update_texels : (serial : ℕ) → Rect → (bytes : List ℕ) → Change

-- bytes with some of them replaced from a place on
abbrev pub with_bytes_at : ℕ → List ℕ → List ℕ → List ℕ
with_bytes_at at new old = take at old ++ new ++ drop (at + length new) old

-- the texel at a place of bytes of four a texel
abbrev pub texel_in : List ℕ → ℕ → Color
texel_in bytes k = take 4 (drop (4 * k) bytes)

-- a texture with the texels of a rectangle replaced, row by row
abbrev pub with_texels_in : Rect → List ℕ → Texels → Texels
with_texels_in r bytes t = record t {
  texels = map_from (λ i old. let x = i % t.width in let y = i / t.width in if contains r x y then texel_in bytes ((y - r.y) * r.w + (x - r.x)) else old) 0 t.texels;
}

-- a buffer's content with bytes replaced from an offset on
abbrev pub bytes_updated : ℕ → List ℕ → Content → Content
bytes_updated offset new (vertex_content l bytes) = vertex_content l (with_bytes_at offset new bytes)
bytes_updated offset new (index_content bytes) = index_content (with_bytes_at offset new bytes)
bytes_updated offset new c = c

-- a texture's content with the texels of a rectangle replaced
abbrev pub texels_updated : Rect → List ℕ → Content → Content
texels_updated r new (texture_content f t) = texture_content f (with_texels_in r new t)
texels_updated r new c = c

-- the things after a change
abbrev pub things_after : List (ℕ × Content) → Change → List (ℕ × Content)
things_after things (create_thing serial c) = things ++ (serial, c) ∷ []
things_after things (update_bytes serial offset bytes) = change_thing (bytes_updated offset bytes) serial things
things_after things (update_texels serial r bytes) = change_thing (texels_updated r bytes) serial things

-- the things that died in the frame before are taken out, then the frame's creates and updates happen in order
abbrev pub begin_frame : List ℕ → List Change → World → World
begin_frame gone changes w = record w { things = fold things_after (filter (λ t. not (is_among t.0 gone)) w.things) changes }

-- ---- items

-- where a draw's vertices come from: nothing, a buffer, or bytes of the encoder
pub data VertexSet : Type 0 where
  no_vertices : VertexSet
  stored_vertices : (buffer : Handle) → (first count : ℕ) → VertexSet
  transient_vertices : (layout : Handle) → (bytes : List ℕ) → VertexSet

-- where a draw's indices come from: nothing, a buffer, or bytes of the encoder
pub data IndexSet : Type 0 where
  no_indices : IndexSet
  stored_indices : (buffer : Handle) → (first count : ℕ) → IndexSet
  transient_indices : (bytes : List ℕ) → IndexSet

-- a value for a uniform
pub record UniformSet : Type 0 where
  pub uniform : Handle
  pub value : UniformValue

-- all that a draw was recorded with, by value
pub record Draw : Type 0 where
  pub view : ℕ
  pub program : Handle
  pub depth : ℕ
  pub state : ℕ
  pub front : ℕ
  pub back : ℕ
  pub scissor : Rect
  pub model : Affine
  pub vertices : VertexSet
  pub indices : IndexSet
  pub textures : List (Option Handle)
  pub values : List UniformSet

-- an item that draws nothing, with its values
pub record Touch : Type 0 where
  pub view : ℕ
  pub values : List UniformSet

-- a region of a texture copied to a place of another
pub record Blit : Type 0 where
  pub view : ℕ
  pub destination : Handle
  pub dx : ℕ
  pub dy : ℕ
  pub source : Handle
  pub sx : ℕ
  pub sy : ℕ
  pub w : ℕ
  pub h : ℕ

-- what an encoder puts into a frame
pub data Item : Type 0 where
  draw_item : Draw → Item
  touch_item : Touch → Item
  blit_item : Blit → Item

-- the view of an item
abbrev pub view_of_item : Item → ℕ
view_of_item (draw_item d) = d.view
view_of_item (touch_item t) = t.view
view_of_item (blit_item b) = b.view

-- whether an item is a blit
abbrev pub is_blit : Item → Bool
is_blit (blit_item b) = true
is_blit _ = false

-- ---- uniforms

-- a uniform's content with another value
abbrev pub with_value : UniformValue → Content → Content
with_value v (uniform_content name old) = uniform_content name v
with_value v c = c

-- the world with a uniform's value replaced
abbrev pub set_uniform : World → UniformSet → World
set_uniform w s = record w { things = change_thing (with_value s.value) s.uniform.serial w.things }

-- the value of the content, where it is a uniform of that name and kind
abbrev pub value_named : List ℕ → UniformKind → Content → Option UniformValue
value_named name kind (uniform_content n v) = if bytes_eq n name && is_uniform_kind kind (value_kind v) then Some v else None
value_named name kind c = None

-- the first, if it is there, and else the second
abbrev pub later_of : {A : Type 0} → Option A → Option A → Option A
later_of (Some x) o = Some x
later_of None o = o

-- the value of the newest uniform of that name and kind: serials ascend along the things
abbrev pub newest_value : List ℕ → UniformKind → List (ℕ × Content) → Option UniformValue
newest_value name kind [] = None
newest_value name kind (t ∷ rest) = later_of (newest_value name kind rest) (value_named name kind t.1)

-- what a solid draw paints: the uniform `u_color` as bytes, and white without one
abbrev pub painted_color : Option UniformValue → Color
painted_color (Some (vec4_value v)) = color_of_fixed v
painted_color _ = 255 ∷ 255 ∷ 255 ∷ 255 ∷ []

-- the stage that a textured draw samples: the uniform `s_tex`, and 0 without one
abbrev pub sampled_stage : Option UniformValue → ℤ
sampled_stage (Some (int_value z)) = z
sampled_stage _ = pos 0

-- the name of the uniform that solid programs paint
abbrev pub color_name : List ℕ
color_name = codes "u_color"

-- the name of the uniform that says which stage is sampled
abbrev pub stage_name : List ℕ
stage_name = codes "s_tex"

-- ---- targets

-- the texels of a texture's content
abbrev pub texels_of : Option Content → Option Texels
texels_of (Some (texture_content f t)) = Some t
texels_of _ = None

-- the serial of a frame buffer's colour texture
abbrev pub attached_color : Option Content → Option ℕ
attached_color (Some (frame_buffer_content color depth)) = Some color
attached_color _ = None

-- the serial of the colour texture of a view's target; none for the back buffer
abbrev pub target_color : World → Option Handle → Option ℕ
target_color w None = None
target_color w (Some h) = attached_color (content_of w h)

-- a surface of a colour texture and perhaps a depth texture
abbrev pub surface_of_parts : Option Texels → Option Texels → Option Surface
surface_of_parts None d = None
surface_of_parts (Some c) d = Some (record { color = c; depth = d })

-- the surface of a frame buffer's textures
abbrev pub attached_surface : List (ℕ × Content) → Option Content → Option Surface
attached_surface things (Some (frame_buffer_content color None)) = surface_of_parts (texels_of (content_in things color)) None
attached_surface things (Some (frame_buffer_content color (Some depth))) = surface_of_parts (texels_of (content_in things color)) (texels_of (content_in things depth))
attached_surface things _ = None

-- the surface that a view draws on: the back buffer, or the textures of a frame buffer
abbrev pub surface_of : World → Option Handle → Option Surface
surface_of w None = Some w.back
surface_of w (Some h) = attached_surface w.things (content_of w h)

-- a texture's content with other texels
abbrev pub with_texels : Texels → Content → Content
with_texels t (texture_content f old) = texture_content f t
with_texels t c = c

-- the things with the depth texture's texels replaced, if there is one
abbrev pub with_depth_texels : Option ℕ → Option Texels → List (ℕ × Content) → List (ℕ × Content)
with_depth_texels (Some serial) (Some t) things = change_thing (with_texels t) serial things
with_depth_texels _ _ things = things

-- the things with a frame buffer's textures replaced by a surface
abbrev pub with_attached : Surface → Option Content → List (ℕ × Content) → List (ℕ × Content)
with_attached s (Some (frame_buffer_content color depth)) things = with_depth_texels depth s.depth (change_thing (with_texels s.color) color things)
with_attached s _ things = things

-- the world with a view's surface put back
abbrev pub with_surface : World → Option Handle → Surface → World
with_surface w None s = record w { back = s }
with_surface w (Some h) s = record w { things = with_attached s (content_of w h) w.things }

-- the world with a view's surface, if there is one, changed
abbrev pub with_changed : World → Option Handle → (Surface → Surface) → Option Surface → World
with_changed w target change None = w
with_changed w target change (Some s) = with_surface w target (change s)

-- the world with a view's surface changed; a view whose target is not there changes nothing
abbrev pub on_surface : World → Option Handle → (Surface → Surface) → World
on_surface w target change = with_changed w target change (surface_of w target)

-- ---- each pixel by itself

-- a depth word as the texel's four bytes, and back: three bytes of depth, lowest first, and the stencil
abbrev pub depth_texel : ℕ → Color
depth_texel word = word % 256 ∷ word / 256 % 256 ∷ word / 65536 % 256 ∷ word / 16777216 ∷ []

-- the four bytes of a depth word, if there is one
abbrev pub depth_bytes : Option ℕ → Color
depth_bytes None = no_color
depth_bytes (Some word) = depth_texel word

-- colours as pixels, each with the depth word at its place where there are depth texels
abbrev pub joined_pixels : List Color → Option Texels → List Pixel
joined_pixels colors None = map (λ c. record { color = c; depth = None }) colors
joined_pixels colors (Some d) = zip_with (λ c z. record { color = c; depth = Some (u32_at z 0) }) colors d.texels

-- the pixels of a surface, row by row
abbrev pub pixels_of : Surface → List Pixel
pixels_of s = joined_pixels s.color.texels s.depth

-- texels of the same sides
abbrev pub with_texel_list : List Color → Texels → Texels
with_texel_list texels t = record t { texels = texels }

-- a surface of the same sides with other pixels
abbrev pub surface_with : List Pixel → Surface → Surface
surface_with pixels s = record {
  color = with_texel_list (map (λ p. p.color) pixels) s.color;
  depth = option_map (with_texel_list (map (λ p. depth_bytes p.depth) pixels)) s.depth;
}

-- the surface with each pixel changed by its column, its row and what it was
abbrev pub on_each_pixel : (ℕ → ℕ → Pixel → Pixel) → Surface → Surface
on_each_pixel f s = surface_with (map_from (λ i p. f (i % s.color.width) (i / s.color.width) p) 0 (pixels_of s)) s

-- ---- clears

-- a colour, replaced where the clear takes colours
abbrev pub cleared_color : Clear → Color → Color
cleared_color c old = if is_bit_set c.flags 0 then c.color else old

-- a depth word with the cleared parts replaced
abbrev pub cleared_word : Clear → ℕ → ℕ
cleared_word c word =
    (if is_bit_set c.flags 1 then c.depth else word % 2 ^ 24)
    + 2 ^ 24 * (if is_bit_set c.flags 2 then c.stencil else word / 2 ^ 24)

-- the same of a pixel's depth word, if it has one
abbrev pub cleared_depth : Clear → Option ℕ → Option ℕ
cleared_depth c None = None
cleared_depth c (Some word) = Some (cleared_word c word)

-- a pixel after a clear
abbrev pub cleared : Clear → Pixel → Pixel
cleared c p = record { color = cleared_color c p.color; depth = cleared_depth c p.depth }

-- the clear of the view's rectangle; scissors do not cut it
abbrev pub clear_surface : View → Surface → Surface
clear_surface view s =
    on_each_pixel (λ x y p. if contains (view_rect view.rect s.color.width s.color.height) x y then cleared view.clear p else p) s

-- ---- blits

-- whether a blit writes a texel of the destination: it lies in the region, and so does its source texel in the source
abbrev pub blit_covers : Blit → Texels → ℕ → ℕ → Bool
blit_covers b source x y =
    contains (record { x = b.dx; y = b.dy; w = b.w; h = b.h }) x y
    && nat_lt (b.sx + (x - b.dx)) source.width && nat_lt (b.sy + (y - b.dy)) source.height

-- the destination after the blit, the source as it was before
abbrev pub blitted : Blit → Texels → Texels → Texels
blitted b source d = record d {
  texels = map_from (λ i old. let x = i % d.width in let y = i / d.width in if blit_covers b source x y then texel_at source (b.sx + (x - b.dx)) (b.sy + (y - b.dy)) else old) 0 d.texels;
}

-- a texture's content after a blit from texels
abbrev pub blit_from : Blit → Texels → Content → Content
blit_from b source (texture_content f d) = texture_content f (blitted b source d)
blit_from b source c = c

-- the world after a blit from texels, if they are there
abbrev pub copied : World → Blit → Option Texels → World
copied w b None = w
copied w b (Some source) = record w { things = change_thing (blit_from b source) b.destination.serial w.things }

-- a blit whose source is not there changes nothing
abbrev pub blit_texture : World → Blit → World
blit_texture w b = copied w b (texels_of (content_of w b.source))

-- ---- draws

-- the vertices of a buffer from a first one on, if it is a vertex buffer
abbrev pub stored_range : Option Content → ℕ → ℕ → Option VertexRange
stored_range (Some (vertex_content layout bytes)) first count = Some (record { layout = layout; bytes = bytes; first = first; count = count })
stored_range _ first count = None

-- transient vertices are the whole strides that fit their bytes
abbrev pub transient_range : Option Content → List ℕ → Option VertexRange
transient_range (Some (layout_content layout)) bytes = Some (record { layout = layout; bytes = bytes; first = 0; count = length bytes / layout.stride })
transient_range _ bytes = None

-- the vertices that a draw reads
abbrev pub vertex_range : World → VertexSet → Option VertexRange
vertex_range w no_vertices = None
vertex_range w (stored_vertices h first count) = stored_range (content_of w h) first count
vertex_range w (transient_vertices h bytes) = transient_range (content_of w h) bytes

-- the bytes of an index buffer; none of any other
abbrev pub index_bytes : Option Content → List ℕ
index_bytes (Some (index_content bytes)) = bytes
index_bytes _ = []

-- the indices that a draw reads, if it reads any
abbrev pub index_range : World → IndexSet → Option IndexRange
index_range w no_indices = None
index_range w (stored_indices h first count) = Some (record { bytes = index_bytes (content_of w h); first = first; count = count })
index_range w (transient_indices bytes) = Some (record { bytes = bytes; first = 0; count = length bytes / 2 })

-- the vertices of a draw; a draw without vertices has none
abbrev pub draw_vertices : Option VertexRange → Option IndexRange → List (Option Vertex)
draw_vertices None indices = []
draw_vertices (Some v) indices = vertices_of v indices

-- a triangle on the screen, and the stencil word of the side that it shows
pub record Facing : Type 0 where
  pub triangle : Triangle ScreenVertex
  pub stencil : ℕ

-- a back side uses the back word, or the front word where the back word is 0
abbrev pub facing_of : ℕ → ℕ → Triangle ScreenVertex → Facing
facing_of front back t = record { triangle = clockwise t; stencil = if is_front t || (back == 0) then front else back }

-- a triangle, where all three corners are there
abbrev pub all_three : {V : Type 0} → Option V → Option V → Option V → Option (Triangle V)
all_three (Some a) (Some b) (Some c) = Some (record { a = a; b = b; c = c })
all_three _ _ _ = None

-- a triangle counts where its vertices are placed, its area is not 0 and it is not culled
abbrev pub kept_facing : Draw → Option (Triangle ScreenVertex) → Option Facing
kept_facing d None = None
kept_facing d (Some t) = if is_kept (cull_of d.state) t then Some (facing_of d.front d.back t) else None

-- a vertex on the screen, if it is there and within the guard range
abbrev pub placed_vertex : View → Rect → Draw → Option Vertex → Option ScreenVertex
placed_vertex view rect d v = option_and_then (place d.model view.transform rect) v

-- a triangle on the screen, if it counts
abbrev pub placed_facing : View → Rect → Draw → Triangle (Option Vertex) → Option Facing
placed_facing view rect d t =
    kept_facing d (all_three (placed_vertex view rect d t.a) (placed_vertex view rect d t.b) (placed_vertex view rect d t.c))

-- the triangles of a draw that count, in order
abbrev pub facings_of : World → View → Rect → Draw → List Facing
facings_of w view rect d =
    filter_map (placed_facing view rect d)
    (triangles_of (primitive_of d.state) (draw_vertices (vertex_range w d.vertices) (index_range w d.indices)))

-- what a draw paints with
pub data Paint : Type 0 where
  paint_solid : Color → Paint
  paint_vertex : Paint
  paint_sample : Option Texels → Paint
  paint_product : Option Texels → Paint

-- the handle of a stage, if the stage is 0 or 1 and not empty
abbrev pub bound_handle : List (Option Handle) → ℤ → Option Handle
bound_handle textures (pos stage) = slice_index_or textures stage None
bound_handle textures (negsuc n) = None

-- whether a serial is there and is this one
abbrev pub is_serial : ℕ → Option ℕ → Bool
is_serial n None = false
is_serial n (Some s) = n == s

-- the texels of a bound texture; none where it is the target's own colour texture
abbrev pub texels_unless_target : World → View → Option Handle → Option Texels
texels_unless_target w view None = None
texels_unless_target w view (Some h) = if is_serial h.serial (target_color w view.target) then None else texels_of (content_of w h)

-- the texture of the sampled stage; none where the stage is empty or its texture is the target's own colour texture
abbrev pub sampled_texels : World → View → Draw → Option Texels
sampled_texels w view d = texels_unless_target w view (bound_handle d.textures (sampled_stage (newest_value stage_name int w.things)))

-- what a draw paints with, if its program is there
abbrev pub paint_of : World → View → Draw → Option Content → Option Paint
paint_of w view d (Some (program_content solid)) = Some (paint_solid (painted_color (newest_value color_name vec4 w.things)))
paint_of w view d (Some (program_content vertex_color)) = Some paint_vertex
paint_of w view d (Some (program_content textured)) = Some (paint_sample (sampled_texels w view d))
paint_of w view d (Some (program_content textured_color)) = Some (paint_product (sampled_texels w view d))
paint_of w view d _ = None

-- a sample is 0,0,0,0 without a texture
abbrev pub sample_of : Option Texels → Fragment → Color
sample_of None f = no_color
sample_of (Some t) f = sample t (slice_index_or f.texcoord 0 (pos 0)) (slice_index_or f.texcoord 1 (pos 0))

-- the colour that a fragment is painted
abbrev pub painted : Paint → Fragment → Color
painted (paint_solid c) f = c
painted paint_vertex f = f.color
painted (paint_sample t) f = sample_of t f
painted (paint_product t) f = zip_with byte_product (sample_of t f) f.color

-- whether a pixel of the target lies in the view's rectangle and passes both scissors
abbrev pub is_in_cut : View → Rect → Draw → ℕ → ℕ → Bool
is_in_cut view rect d x y = contains rect x y && passes_scissor view.scissor x y && passes_scissor d.scissor x y

-- a pixel that a triangle covers, after it
abbrev pub covered_step : ℕ → Paint → Facing → ℕ → ℕ → Pixel → Pixel
covered_step state paint f x y p =
    let fragment = fragment_at f.triangle x y in
    pixel_step p (record { color = painted paint fragment; depth = fragment.depth }) state f.stencil

-- a pixel after one triangle that is drawn with a state word
abbrev pub facing_step : ℕ → Paint → ℕ → ℕ → Pixel → Facing → Pixel
facing_step state paint x y p f = if covers f.triangle x y then covered_step state paint f x y p else p

-- the same after a triangle of a draw
abbrev pub after_facing : Draw → Paint → ℕ → ℕ → Pixel → Facing → Pixel
after_facing d paint = facing_step d.state paint

-- the surface after a draw: each pixel by itself goes through the draw's triangles in order
abbrev pub drawn : View → Rect → Draw → Paint → List Facing → Surface → Surface
drawn view rect d paint facings s =
    on_each_pixel (λ x y p. if is_in_cut view rect d x y then fold (after_facing d paint x y) p facings else p) s

-- a surface after a draw, the view's rectangle standing for the whole surface where both its sides are 0
abbrev pub drawn_on : World → View → Draw → Paint → Surface → Surface
drawn_on w view d paint s =
    let rect = view_rect view.rect s.color.width s.color.height in
    drawn view rect d paint (facings_of w view rect d) s

-- the world after a draw with a paint, if there is one
abbrev pub painted_by : World → View → Draw → Option Paint → World
painted_by w view d None = w
painted_by w view d (Some paint) = on_surface w view.target (drawn_on w view d paint)

-- a draw whose program is not there changes nothing
abbrev pub draw_on : World → View → Draw → World
draw_on w view d = painted_by w view d (paint_of w view d (content_of w d.program))

-- ---- the frame

-- an item and its number
pub record Numbered : Type 0 where
  pub number : ℕ
  pub item : Item

-- what a frame is drawn from: things that died in the frame before, creates and updates in order,
-- the views, and the items in the journal's order
pub record FrameContent : Type 0 where
  pub gone : List ℕ
  pub changes : List Change
  pub views : Views
  pub items : List Item

-- the items with their numbers within the frame
abbrev pub numbered : List Item → List Numbered
numbered items = map_from (λ n i. record { number = n; item = i }) 0 items

-- a touch has the program 511, no blending and depth 0
abbrev pub key_of_item : Views → ℕ → Item → ℕ
key_of_item vs number (draw_item d) =
    sort_key (view_at vs d.view).mode (position_of_view vs d.view) (if is_blended d.state then 1 else 0) d.program.index d.depth number
key_of_item vs number (touch_item t) = sort_key (view_at vs t.view).mode (position_of_view vs t.view) 0 511 0 number
key_of_item vs number (blit_item b) = 0

-- something with its key, put into an ascending list before the first whose key is not less
abbrev pub insert_by_key : {A : Type 0} → (ℕ × A) → List (ℕ × A) → List (ℕ × A)
insert_by_key x [] = x ∷ []
insert_by_key x (y ∷ ys) = if nat_le x.0 y.0 then x ∷ y ∷ ys else y ∷ insert_by_key x ys

-- ascending by key, and at equal keys in their order
abbrev pub sorted_by_key : {A : Type 0} → List (ℕ × A) → List (ℕ × A)
sorted_by_key [] = []
sorted_by_key (x ∷ xs) = insert_by_key x (sorted_by_key xs)

-- the draws and touches ascending by key, and at equal keys by number
abbrev pub ordered : Views → List Item → List Item
ordered vs items =
    map (λ x. x.1) (sorted_by_key (map (λ n. (key_of_item vs n.number n.item, n.item)) (filter (λ n. not (is_blit n.item)) (numbered items))))

-- a blit copies; a draw or touch first gives its uniform values to the world, and a draw then draws
abbrev pub do_item : View → World → Item → World
do_item view w (blit_item b) = blit_texture w b
do_item view w (touch_item t) = fold set_uniform w t.values
do_item view w (draw_item d) = draw_on (fold set_uniform w d.values) view d

-- whether an item is of a view
abbrev pub is_of_view : ℕ → Item → Bool
is_of_view v i = view_of_item i == v

-- a view that is entered: its clear, its blits in the journal's order, then its draws and touches in theirs
abbrev pub enter_view : FrameContent → List Item → World → ℕ → World
enter_view f drawn_items w v =
    let view = view_at f.views v in
    let cleared_world = on_surface w view.target (clear_surface view) in
    fold (do_item view) cleared_world (filter (is_of_view v) (filter is_blit f.items ++ drawn_items))

-- the views that have an item, in the views' order
abbrev pub entered_views : FrameContent → List ℕ
entered_views f = filter (λ v. list_any (is_of_view v) f.items) (view_order f.views)

-- one frame: creates and updates, then each view that has an item
abbrev pub frame_step : World → FrameContent → World
frame_step w f = fold (enter_view f (ordered f.views f.items)) (begin_frame f.gone f.changes w) (entered_views f)
