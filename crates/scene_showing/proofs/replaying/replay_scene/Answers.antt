use Rattle.std.proofs.Common.{◌≡◌}
use Rattle.scene_text.specs.Seen.{journal_seen, scene_seen}
use Rattle.scene_showing.proofs.Orders.{whole}
use Rattle.scene_showing.proofs.replaying.replay_scene.Goals as goal

pub returns-in-Ok-clause-whole : goal.returns-in-Ok-clause-whole
returns-in-Ok-clause-whole g c = λ e.
    let shown = rw e at c.show_with.ensures.shown in
    whole (scene_seen c.args.scene.now) (journal_seen c.show_with.result.journal) (journal_seen c.args.journal.now) c.requires.lawful c.show_with.ensures.follows shown.0
