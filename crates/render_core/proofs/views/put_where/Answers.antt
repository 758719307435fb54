use Rattle.std.proofs.Common.{map, ap, ◌∙◌}
use Rattle.std.proofs.lemmas.List.{map-append}
use Rattle.view_table.specs.Seen.{view_seen}
use Rattle.view_drawing.specs.Passes.{part_seen}
use Rattle.render_core.proofs.PartsIn.{part_put}
use Rattle.render_core.proofs.views.put_where.Goals as goal

pub returns-in_ok-push-in-Some-clause-parts : goal.returns-in_ok-push-in-Some-clause-parts
returns-in_ok-push-in-Some-clause-parts c =
    let a = c.args in
    let before = map part_seen a.parts.now.items in
    ap (map part_seen) c.in_ok-push-in-Some.ensures.items ∙ map-append part_seen a.parts.now.items _
    ∙ part_put a.frame.now a.view a.is_entered a.blits.now a.items.now (view_seen c.in-Some.settings.now) before c.requires.part c.in-Some.ensures.1 c.if-is_entered.true
