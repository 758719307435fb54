-- A prepared draw does what the draw does, and surfaces keep their sides.
use Rattle.std.proofs.Common.{◌≡◌, ℕ, Bool, true, false, List, [], ◌∷◌, ◌++◌, Option, refl, sym, ap, ◌∙◌}
use Rattle.std.specs.Prelude.{◌&&◌, if◌then◌else◌, fold, filter_map}
use Rattle.std.proofs.lemmas.List.Sums.{fold-append}
use Rattle.gfx_model.specs.Words.{primitive_of}
use Rattle.gfx_model.specs.Vertex.{VertexRange, IndexRange, triangles_of}
use Rattle.gfx_model.specs.Raster.{Rect, contains, view_rect}
use Rattle.gfx_model.specs.Views.{View}
use Rattle.gfx_model.specs.World.{Surface, Draw, Paint, Facing, is_in_cut, after_facing, drawn, on_each_pixel, placed_facing, draw_vertices}
use Rattle.int_raster.specs.Drawing.{PreparedDraw, drawn_prepared}
use Rattle.store_laws.specs.ByIndex.{drawn_with}

pub and_assoc : (a b c : Bool) → ((a && b) && c) ≡ (a && (b && c))
and_assoc true b c = refl
and_assoc false b c = refl

-- a draw whose cut has just the pixels that its view's rectangle and both scissors let through
pub cut_drawn : (view : View) (rect cut : Rect) (d : Draw) (paint : Paint) (facings : List Facing) (s : Surface) → ((x y : ℕ) → contains cut x y ≡ is_in_cut view rect d x y)
    → drawn_prepared s (record { cut = cut; state = d.state; paint = paint; facings = facings }) ≡ drawn view rect d paint facings s
cut_drawn view rect cut d paint facings s e = λ i. on_each_pixel (λ x y p. if e x y i then fold (after_facing d paint x y) p facings else p) s

-- the same with the triangles of vertices and indices, on a surface of these sides
pub prepared_drawn : (view : View) (cut : Rect) (d : Draw) (vertices : Option VertexRange) (indices : Option IndexRange) (paint : Paint) (facings : List Facing) (width height : ℕ) (s : Surface)
    → s.color.width ≡ width → s.color.height ≡ height
    → ((x y : ℕ) → contains cut x y ≡ is_in_cut view (view_rect view.rect width height) d x y)
    → facings ≡ filter_map (placed_facing view (view_rect view.rect width height) d) (triangles_of (primitive_of d.state) (draw_vertices vertices indices))
    → drawn_with view d vertices indices paint s ≡ drawn_prepared s (record { cut = cut; state = d.state; paint = paint; facings = facings })
prepared_drawn view cut d vertices indices paint facings width height s ew eh e is =
    (λ i. drawn view (view_rect view.rect (ew i) (eh i)) d paint (filter_map (placed_facing view (view_rect view.rect (ew i) (eh i)) d) (triangles_of (primitive_of d.state) (draw_vertices vertices indices))) s)
    ∙ sym (cut_drawn view (view_rect view.rect width height) cut d paint facings s e
    ∙ ap (λ (fs : List Facing). drawn view (view_rect view.rect width height) d paint fs s) is)

-- draws keep the sides
pub list_width : (s : Surface) (ds : List PreparedDraw) → (fold drawn_prepared s ds).color.width ≡ s.color.width
list_width s [] = refl
list_width s (d ∷ ds) = list_width (drawn_prepared s d) ds

pub list_height : (s : Surface) (ds : List PreparedDraw) → (fold drawn_prepared s ds).color.height ≡ s.color.height
list_height s [] = refl
list_height s (d ∷ ds) = list_height (drawn_prepared s d) ds

-- one draw more at the end of a list
pub draw_added : (s : Surface) (old new : List PreparedDraw) (p : PreparedDraw) → new ≡ old ++ p ∷ [] → drawn_prepared (fold drawn_prepared s old) p ≡ fold drawn_prepared s new
draw_added s old new p e = sym (ap (fold drawn_prepared s) e ∙ fold-append drawn_prepared s old (p ∷ []))
