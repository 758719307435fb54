-- A draw that is prepared does what the draw does.
use Rattle.std.proofs.Common.{◌≡◌, ℕ, List, [], ◌∷◌, map, refl, sym, ap, ◌∙◌}
use Rattle.gfx_model.specs.Raster.{Rect}
use Rattle.gfx_model.specs.Views.{View}
use Rattle.gfx_model.specs.World.{Surface, Draw, Paint, Facing}
use Rattle.fix_math.specs.Seen.{rect_seen}
use Rattle.tri_cover.specs.declared.triangles.Setup.{Setup}
use Rattle.tri_cover.specs.Shown.{setup_seen}
use Rattle.int_raster.specs.declared.lists.Prepared.{Prepared}
use Rattle.int_raster.specs.Drawing.{PreparedDraw, drawn_prepared, facing_shown}
use Rattle.int_raster.specs.Seen.{paint_seen, facing_seen, prepared_seen}
use Rattle.store_model.specs.Buffers.{Buffers}
use Rattle.store_laws.specs.ByIndex.{vertices_at, indices_at, drawn_with}
use Rattle.view_drawing.specs.Prepared.{IsPreparedDraw}
use Rattle.view_drawing.proofs.CutLaws.{prepared_drawn}

-- the triangles with their stencil words, in two steps and in one
pub facings_seen : (front back : ℕ) (ts : List Setup) → map (facing_shown front back) (map setup_seen ts) ≡ map (λ t. facing_shown front back (setup_seen t)) ts
facings_seen front back [] = refl
facings_seen front back (t ∷ ts) = ap (λ (fs : List Facing). facing_shown front back (setup_seen t) ∷ fs) (facings_seen front back ts)

abbrev draw_of : (cut : Rect) (state : ℕ) (paint : Paint) (facings : List Facing) → PreparedDraw
draw_of cut state paint facings = record { cut = cut; state = state; paint = paint; facings = facings }

pub prepared_does : (width height : ℕ) (view : View) (d : Draw) (b : Buffers) (paint : Paint) (p : Prepared) (ts : List Setup) (s : Surface) → s.color.width ≡ width → s.color.height ≡ height → IsPreparedDraw width height view d b paint p ts
    → drawn_with view d (vertices_at b d.vertices) (indices_at b d.indices) paint s ≡ drawn_prepared s (prepared_seen p (map setup_seen ts))
prepared_does width height view d b paint p ts s ew eh is =
    let facings : List Facing = map (facing_shown p.front p.back) (map setup_seen ts) in
    prepared_drawn view (rect_seen p.cut) d (vertices_at b d.vertices) (indices_at b d.indices) paint facings width height s ew eh is.cut_is (facings_seen p.front p.back ts ∙ is.facings_are)
    ∙ sym (λ i. drawn_prepared s (draw_of (rect_seen p.cut) (is.state_is i) (is.paint_is i) facings))
