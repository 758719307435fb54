use Rattle.std.proofs.Common.{◌≡◌, map, refl, ap, ◌∙◌}
use Rattle.std.specs.Prelude.{fold}
use Rattle.int_raster.specs.Drawing.{drawn_prepared}
use Rattle.int_raster.specs.Seen.{surface_seen}
use Rattle.int_raster.specs.Wiping.{wiped, wipes_seen}
use Rattle.view_drawing.specs.Cleared.{wipings_of}
use Rattle.view_drawing.specs.Passes.{turn_seen}
use Rattle.view_drawing.proofs.Cleared.{all_wiped}
use Rattle.view_drawing.proofs.drawing.draw_cleared.Goals as goal

pub returns-in-Ok-clause-drawn : goal.returns-in-Ok-clause-drawn
returns-in-Ok-clause-drawn g c =
    let s = surface_seen c.args.surface.now in
    let ts = map turn_seen c.args.cleared.now in
    let listed : wipes_seen c.as_slice.result.now ≡ wipings_of s.color.width s.color.height ts = ap wipes_seen c.as_slice.ensures.value ∙ c.in-Ok.ensures in
    c.draw.ensures.drawn
    ∙ ap (λ ws. fold drawn_prepared (fold wiped s ws) c.args.list.now) listed
    ∙ ap (λ x. fold drawn_prepared x c.args.list.now) (all_wiped s.color.width s.color.height s ts refl refl)

pub returns-in-Err-clause-drawn : goal.returns-in-Err-clause-drawn
returns-in-Err-clause-drawn g c = c.draw-in-Err.ensures.drawn ∙ ap (λ x. fold drawn_prepared x c.args.list.now) c.clear_all.ensures.cleared
