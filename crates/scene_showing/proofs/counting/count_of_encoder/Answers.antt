use Rattle.std.proofs.Common.{◌∙◌}
use Rattle.scene_showing.proofs.Counts.{all_counted}
use Rattle.scene_showing.proofs.counting.count_of_encoder.Goals as goal

pub returns-in-Ok : goal.returns-in-Ok
returns-in-Ok c =
    let same = c.in-Ok.ensures in
    same.1 ∙ all_counted c.args.encoder c.args.entries.now c.loop-entry.entry-index c.loop-entry.count c.loop-entry-test.false c.loop-entry.invariant.counted
