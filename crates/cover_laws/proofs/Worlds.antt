-- What the items of a frame leave as it is: the things that draws take their triangles from, and the sides of the back buffer.
use Rattle.std.proofs.Common.{◌≡◌, ℕ, Bool, true, false, ◌==◌, cond, List, [], ◌∷◌, map, filter_map, fold, Option, Some, None, refl, ap, sym, ◌∙◌, suc, ◌+◌, ◌*◌, ◌≤◌, length, subst, arith}
use Rattle.std.specs.Prelude.{◌/◌, ◌%◌, if◌then◌else◌}
use Rattle.std.proofs.lemmas.List.{length-map}
use Rattle.gfx_model.specs.Number.{map_from, zip_with, u32_at}
use Rattle.gfx_model.specs.Pixel.{Pixel}
use Rattle.gfx_model.specs.Vertex.{Color, IndexRange, triangles_of}
use Rattle.gfx_model.specs.Words.{Handle, UniformValue, primitive_of}
use Rattle.gfx_model.specs.Raster.{Rect, Texels, contains, view_rect}
use Rattle.gfx_model.specs.Views.{View}
use Rattle.gfx_model.specs.World.{World, Surface, joined_pixels, pixels_of, on_each_pixel, cleared, is_in_cut, after_facing, Content, layout_content, vertex_content, index_content, texture_content, frame_buffer_content, program_content, uniform_content, content_in, content_of, change_thing, with_value, set_uniform, UniformSet, with_texels, with_depth_texels, with_attached, with_changed, surface_of, on_surface, Blit, blit_from, copied, Draw, Item, draw_item, touch_item, blit_item, Paint, VertexSet, no_vertices, stored_vertices, transient_vertices, IndexSet, no_indices, stored_indices, transient_indices, stored_range, transient_range, vertex_range, index_bytes, index_range, draw_vertices, placed_facing, facings_of, drawn_on, painted_by, do_item, clear_surface}

-- ---- what draws take their triangles from

-- a layout or a buffer, and nothing of other contents
abbrev pub shape : Content → Option Content
shape (layout_content l) = Some (layout_content l)
shape (vertex_content l bytes) = Some (vertex_content l bytes)
shape (index_content bytes) = Some (index_content bytes)
shape (texture_content f t) = None
shape (frame_buffer_content c d) = None
shape (program_content k) = None
shape (uniform_content n v) = None

abbrev pub shapes : List (ℕ × Content) → List (ℕ × Option Content)
shapes things = map (λ t. (t.0, shape t.1)) things

abbrev look : List (ℕ × Option Content) → ℕ → Option Content
look [] serial = None
look (t ∷ rest) serial = cond (t.0 == serial) t.1 (look rest serial)

abbrev shape_of : Option Content → Option Content
shape_of None = None
shape_of (Some c) = shape c

look_shapes : (things : List (ℕ × Content)) (serial : ℕ) → look (shapes things) serial ≡ shape_of (content_in things serial)
look_shapes [] serial = refl
look_shapes (t ∷ rest) serial = by (t.0 == serial) (look_shapes rest serial)
  where
    by : (b : Bool) → look (shapes rest) serial ≡ shape_of (content_in rest serial) → cond b (shape t.1) (look (shapes rest) serial) ≡ shape_of (cond b (Some t.1) (content_in rest serial))
    by true h = refl
    by false h = h

stored_shape : (o : Option Content) (first count : ℕ) → stored_range o first count ≡ stored_range (shape_of o) first count
stored_shape None first count = refl
stored_shape (Some (layout_content l)) first count = refl
stored_shape (Some (vertex_content l bytes)) first count = refl
stored_shape (Some (index_content bytes)) first count = refl
stored_shape (Some (texture_content f t)) first count = refl
stored_shape (Some (frame_buffer_content c d)) first count = refl
stored_shape (Some (program_content k)) first count = refl
stored_shape (Some (uniform_content n v)) first count = refl

transient_shape : (o : Option Content) (bytes : List ℕ) → transient_range o bytes ≡ transient_range (shape_of o) bytes
transient_shape None bytes = refl
transient_shape (Some (layout_content l)) bytes = refl
transient_shape (Some (vertex_content l b)) bytes = refl
transient_shape (Some (index_content b)) bytes = refl
transient_shape (Some (texture_content f t)) bytes = refl
transient_shape (Some (frame_buffer_content c d)) bytes = refl
transient_shape (Some (program_content k)) bytes = refl
transient_shape (Some (uniform_content n v)) bytes = refl

index_shape : (o : Option Content) → index_bytes o ≡ index_bytes (shape_of o)
index_shape None = refl
index_shape (Some (layout_content l)) = refl
index_shape (Some (vertex_content l b)) = refl
index_shape (Some (index_content b)) = refl
index_shape (Some (texture_content f t)) = refl
index_shape (Some (frame_buffer_content c d)) = refl
index_shape (Some (program_content k)) = refl
index_shape (Some (uniform_content n v)) = refl

shape_at : (u w : World) (serial : ℕ) → shapes u.things ≡ shapes w.things → shape_of (content_in u.things serial) ≡ shape_of (content_in w.things serial)
shape_at u w serial e = sym (look_shapes u.things serial) ∙ ap (λ ts. look ts serial) e ∙ look_shapes w.things serial

same_vertices : (u w : World) (v : VertexSet) → shapes u.things ≡ shapes w.things → vertex_range u v ≡ vertex_range w v
same_vertices u w no_vertices e = refl
same_vertices u w (stored_vertices h first count) e =
    stored_shape (content_of u h) first count ∙ ap (λ o. stored_range o first count) (shape_at u w h.serial e) ∙ sym (stored_shape (content_of w h) first count)
same_vertices u w (transient_vertices h bytes) e = transient_shape (content_of u h) bytes ∙ ap (λ o. transient_range o bytes) (shape_at u w h.serial e) ∙ sym (transient_shape (content_of w h) bytes)

same_indices : (u w : World) (v : IndexSet) → shapes u.things ≡ shapes w.things → index_range u v ≡ index_range w v
same_indices u w no_indices e = refl
same_indices u w (stored_indices h first count) e =
    let bytes : index_bytes (content_of u h) ≡ index_bytes (content_of w h) = index_shape (content_of u h) ∙ ap index_bytes (shape_at u w h.serial e) ∙ sym (index_shape (content_of w h)) in
    ap (λ b. indexed b first count) bytes
  where
    indexed : List ℕ → ℕ → ℕ → Option IndexRange
    indexed b first count = Some (record { bytes = b; first = first; count = count })
same_indices u w (transient_indices bytes) e = refl

-- a draw has the same triangles
pub same_facings : (u w : World) (view : View) (rect : Rect) (d : Draw) → shapes u.things ≡ shapes w.things → facings_of u view rect d ≡ facings_of w view rect d
same_facings u w view rect d e = λ k. filter_map (placed_facing view rect d) (triangles_of (primitive_of d.state) (draw_vertices (same_vertices u w d.vertices e k) (same_indices u w d.indices e k)))

-- ---- what changes leave

pub changed_shapes : (f : Content → Content) → ((c : Content) → shape (f c) ≡ shape c) → (serial : ℕ) (things : List (ℕ × Content)) → shapes (change_thing f serial things) ≡ shapes things
changed_shapes f keep serial [] = refl
changed_shapes f keep serial (t ∷ rest) = by (t.0 == serial) (changed_shapes f keep serial rest)
  where
    by : (b : Bool) → shapes (change_thing f serial rest) ≡ shapes rest → shapes (cond b ((t.0, f t.1) ∷ rest) (t ∷ change_thing f serial rest)) ≡ (t.0, shape t.1) ∷ shapes rest
    by true h = ap (λ s. (t.0, s) ∷ shapes rest) (keep t.1)
    by false h = ap (λ zs. (t.0, shape t.1) ∷ zs) h

value_shape : (v : UniformValue) (c : Content) → shape (with_value v c) ≡ shape c
value_shape v (layout_content l) = refl
value_shape v (vertex_content l b) = refl
value_shape v (index_content b) = refl
value_shape v (texture_content f t) = refl
value_shape v (frame_buffer_content c d) = refl
value_shape v (program_content k) = refl
value_shape v (uniform_content n o) = refl

texels_shape : (t : Texels) (c : Content) → shape (with_texels t c) ≡ shape c
texels_shape t (layout_content l) = refl
texels_shape t (vertex_content l b) = refl
texels_shape t (index_content b) = refl
texels_shape t (texture_content f o) = refl
texels_shape t (frame_buffer_content c d) = refl
texels_shape t (program_content k) = refl
texels_shape t (uniform_content n o) = refl

blit_shape : (b : Blit) (s : Texels) (c : Content) → shape (blit_from b s c) ≡ shape c
blit_shape b s (layout_content l) = refl
blit_shape b s (vertex_content l x) = refl
blit_shape b s (index_content x) = refl
blit_shape b s (texture_content f o) = refl
blit_shape b s (frame_buffer_content c d) = refl
blit_shape b s (program_content k) = refl
blit_shape b s (uniform_content n o) = refl

-- ---- as many colours as before

length-map_from : {A B : Type 0} (f : ℕ → A → B) (n : ℕ) (xs : List A) → length (map_from f n xs) ≡ length xs
length-map_from f n [] = refl
length-map_from f n (x ∷ xs) = ap suc (length-map_from f (n + 1) xs)

zip_short : {A B C : Type 0} (f : A → B → C) (xs : List A) (ys : List B) → length (zip_with f xs ys) ≤ length xs
zip_short f [] ys = omega arith
zip_short f (x ∷ xs) [] = omega arith
zip_short f (x ∷ xs) (y ∷ ys) = let h = zip_short f xs ys in omega (arith, h)

pub joined_short : (colors : List Color) (o : Option Texels) → length (joined_pixels colors o) ≤ length colors
joined_short colors None = (let e = length-map colors (λ c. flat_pixel c) in omega (arith, e))
  where
    flat_pixel : Color → Pixel
    flat_pixel c = record { color = c; depth = None }
joined_short colors (Some d) = zip_short (λ c z. deep_pixel c z) colors d.texels
  where
    deep_pixel : Color → Color → Pixel
    deep_pixel c z = record { color = c; depth = Some (u32_at z 0) }

pub each_short : (f : ℕ → ℕ → Pixel → Pixel) (s : Surface) → length (on_each_pixel f s).color.texels ≤ length s.color.texels
each_short f s =
    let changed : List Pixel = map_from (λ i p. f (i % s.color.width) (i / s.color.width) p) 0 (pixels_of s) in
    let a : length (map (λ p. p.color) changed) ≡ length changed = length-map changed (λ p. p.color) in
    let b : length changed ≡ length (pixels_of s) = length-map_from (λ i p. f (i % s.color.width) (i / s.color.width) p) 0 (pixels_of s) in
    let c : length (pixels_of s) ≤ length s.color.texels = joined_short s.color.texels s.depth in
    omega (arith, a, b, c)

-- ---- worlds of one frame

-- the back buffer has no more colours than pixels
abbrev pub IsSized : World → Type 0
IsSized w = length w.back.color.texels ≤ w.back.color.width * w.back.color.height

-- the same layouts and buffers, and a back buffer of the same sides
pub record IsWithin (w u : World) : Type 0 where
  pub things : shapes u.things ≡ shapes w.things
  pub width : u.back.color.width ≡ w.back.color.width
  pub height : u.back.color.height ≡ w.back.color.height
  pub few : length u.back.color.texels ≤ w.back.color.width * w.back.color.height

pub within_self : (w : World) → IsSized w → IsWithin w w
within_self w few = record { things = refl; width = refl; height = refl; few = few }

-- no more colours than pixels there as well
pub within_sized : (w u : World) → IsWithin w u → IsSized u
within_sized w u h = subst (λ (n : ℕ). length u.back.color.texels ≤ n) (λ k. sym h.width k * sym h.height k) h.few

-- other things of the same shapes
other_things : (w u : World) (things : List (ℕ × Content)) → shapes things ≡ shapes u.things → IsWithin w u → IsWithin w (record u { things = things })
other_things w u things e h = record { things = e ∙ h.things; width = h.width; height = h.height; few = h.few }

value_within : (w u : World) (s : UniformSet) → IsWithin w u → IsWithin w (set_uniform u s)
value_within w u s h = other_things w u _ (changed_shapes (with_value s.value) (value_shape s.value) s.uniform.serial u.things) h

values_within : (w u : World) (values : List UniformSet) → IsWithin w u → IsWithin w (fold set_uniform u values)
values_within w u [] h = h
values_within w u (s ∷ values) h = values_within w (set_uniform u s) values (value_within w u s h)

depth_shapes : (o : Option ℕ) (t : Option Texels) (things : List (ℕ × Content)) → shapes (with_depth_texels o t things) ≡ shapes things
depth_shapes None t things = refl
depth_shapes (Some serial) None things = refl
depth_shapes (Some serial) (Some t) things = changed_shapes (with_texels t) (texels_shape t) serial things

attached_shapes : (s : Surface) (o : Option Content) (things : List (ℕ × Content)) → shapes (with_attached s o things) ≡ shapes things
attached_shapes s None things = refl
attached_shapes s (Some (layout_content l)) things = refl
attached_shapes s (Some (vertex_content l b)) things = refl
attached_shapes s (Some (index_content b)) things = refl
attached_shapes s (Some (texture_content f o)) things = refl
attached_shapes s (Some (frame_buffer_content c d)) things = depth_shapes d s.depth (change_thing (with_texels s.color) c things) ∙ changed_shapes (with_texels s.color) (texels_shape s.color) c things
attached_shapes s (Some (program_content k)) things = refl
attached_shapes s (Some (uniform_content n o)) things = refl

-- a change of a surface that keeps its sides, and makes no colours more
abbrev KeepsSides : (Surface → Surface) → Type 0
KeepsSides change = (s : Surface) → ((change s).color.width ≡ s.color.width) × ((change s).color.height ≡ s.color.height) × (length (change s).color.texels ≤ length s.color.texels)

surface_within : (w u : World) (target : Option Handle) (change : Surface → Surface) → KeepsSides change → IsWithin w u → IsWithin w (on_surface u target change)
surface_within w u None change keeps h =
    let k = keeps u.back in
    record { things = h.things; width = k.0 ∙ h.width; height = k.1 ∙ h.height; few = (let less : length (change u.back).color.texels ≤ length u.back.color.texels = k.2 in let most = h.few in omega (arith, less, most)) }
surface_within w u (Some t) change keeps h = by (surface_of u (Some t))
  where
    by : (o : Option Surface) → IsWithin w (with_changed u (Some t) change o)
    by None = h
    by (Some s) = other_things w u _ (attached_shapes (change s) (content_of u t) u.things) h

pub clear_within : (w u : World) (view : View) → IsWithin w u → IsWithin w (on_surface u view.target (clear_surface view))
clear_within w u view h = surface_within w u view.target (clear_surface view) (λ s. (refl, refl, each_short (λ x y p. if contains (view_rect view.rect s.color.width s.color.height) x y then cleared view.clear p else p) s)) h

painted_within : (w u : World) (view : View) (d : Draw) (o : Option Paint) → IsWithin w u → IsWithin w (painted_by u view d o)
painted_within w u view d None h = h
painted_within w u view d (Some paint) h = surface_within w u view.target (drawn_on u view d paint)
    (λ s. (refl, refl, each_short (λ x y p. if is_in_cut view (view_rect view.rect s.color.width s.color.height) d x y then fold (after_facing d paint x y) p (facings_of u view (view_rect view.rect s.color.width s.color.height) d) else p) s)) h

copied_within : (w u : World) (b : Blit) (o : Option Texels) → IsWithin w u → IsWithin w (copied u b o)
copied_within w u b None h = h
copied_within w u b (Some s) h = other_things w u _ (changed_shapes (blit_from b s) (blit_shape b s) b.destination.serial u.things) h

pub item_within : (w u : World) (view : View) (i : Item) → IsWithin w u → IsWithin w (do_item view u i)
item_within w u view (draw_item d) h = painted_within w (fold set_uniform u d.values) view d _ (values_within w u d.values h)
item_within w u view (touch_item t) h = values_within w u t.values h
item_within w u view (blit_item b) h = copied_within w u b _ h

pub items_within : (w u : World) (view : View) (items : List Item) → IsWithin w u → IsWithin w (fold (do_item view) u items)
items_within w u view [] h = h
items_within w u view (i ∷ items) h = items_within w (do_item view u i) view items (item_within w u view i h)
