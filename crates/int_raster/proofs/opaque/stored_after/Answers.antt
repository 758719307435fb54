use Rattle.std.proofs.Common.{ap, ◌∙◌, if◌then◌else◌}
use Rattle.int_raster.specs.Rules.{by_order}
use Rattle.int_raster.proofs.Tested.{kept_is}
use Rattle.int_raster.proofs.opaque.stored_after.Goals as goal

pub returns : goal.returns
returns g c state stores rule =
    let pass = c.passes-pass.result in
    kept_is c.args.rule.now state c.args.word c.args.depth c.kept_word.result c.args.old c.args.color c.kept_color.result pass c.both.result rule
    (c.passes-pass.ensures ∙ ap (by_order c.args.rule.now c.args.depth) c.depth_of.ensures) c.both.ensures (c.kept_color.ensures ∙ ap (λ k. if pass then k else c.args.old) (c.stored_over-new.ensures state stores)) c.kept_word.ensures
