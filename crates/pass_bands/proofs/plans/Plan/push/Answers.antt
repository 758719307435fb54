use Rattle.std.proofs.Common.{rules, ◌≡◌, None, map, ◌++◌, ◌∷◌, [], ◌∙◌}
use Rattle.gfx_model.specs.Number.{zip_with}
use Rattle.gfx_model.specs.World.{paint_sample}
use Rattle.fix_math.specs.Seen.{rect_seen}
use Rattle.tri_cover.specs.Shown.{setup_seen}
use Rattle.int_raster.specs.Drawing.{PreparedDraw, facing_shown}
use Rattle.pass_bands.specs.Planned.{planned_draw}
use Rattle.pass_bands.proofs.PlanLaws.{zip_more}
use Rattle.pass_bands.proofs.plans.Plan.push.Goals as goal

pub returns-then-is_ok-clause-ok : goal.returns-then-is_ok-clause-ok
returns-then-is_ok-clause-ok c t =
    let d = c.args.draw.now in
    let old = c.args.self.now in
    let e : PreparedDraw = record { cut = rect_seen d.cut; state = d.state; paint = paint_sample None; facings = map (facing_shown d.front d.back) (map setup_seen c.args.triangles.now) } in
    let list : c.push-2.new.self ≡ old.list ++ e ∷ [] = search rules in
    let paints : c.push.new.self.items ≡ old.paints.items ++ c.args.paint ∷ [] = c.in_ok-push.ensures.items in
    (λ i. zip_with (planned_draw t) (list i) (paints i)) ∙ zip_more (planned_draw t) old.list old.paints.items e c.args.paint old.same
