use Rattle.std.proofs.Common.{◌≡◌, length, map, take, ap, ◌∙◌, arith}
use Rattle.view_table.specs.Seen.{view_seen}
use Rattle.view_table.specs.Targets.{with_target_kept}
use Rattle.view_table.proofs.Kept.{written}
use Rattle.view_table.proofs.TargetLaws.{table_kept}
use Rattle.view_table.proofs.table.ViewTable.keep_targets.Goals as goal

pub invariant_of-self : goal.invariant_of-self
invariant_of-self g c =
    let long : length c.keep_targets.new.settings ≡ c.self.inside.settings.len = omega (arith, c.keep_targets.auto.settings, c.deref_mut.ensures.len) in
    let same : length c.keep_targets.new.settings ≡ length c.self.inside.settings.items = c.keep_targets.auto.settings ∙ ap length c.deref_mut.ensures.value in
    rw (written c.self.inside.settings.len c.keep_targets.new.settings c.self.inside.settings.items long (omega arith), same) c.self.invariant

pub returns : goal.returns
returns g c =
    let long : length c.keep_targets.new.settings ≡ c.self.inside.settings.len = omega (arith, c.keep_targets.auto.settings, c.deref_mut.ensures.len) in
    rw (written c.self.inside.settings.len c.keep_targets.new.settings c.self.inside.settings.items long (omega arith))
    (table_kept (g.T.LiveTargets.is_kept c.args.test.now) c.self.inside.settings.items c.keep_targets.new.settings (take c.self.inside.listed c.self.inside.sequence.items) c.args.self.now c.self.view_is
    (c.keep_targets.ensures ∙ ap (λ items. map (with_target_kept (g.T.LiveTargets.is_kept c.args.test.now)) (map view_seen items)) c.deref_mut.ensures.value))
