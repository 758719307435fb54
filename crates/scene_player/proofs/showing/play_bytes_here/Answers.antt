use Rattle.std.proofs.Common.{None}
use Rattle.io_whole.specs.Runs.{reading}
use Rattle.scene_player.proofs.Ends.{as-defined, as-refused}
use Rattle.scene_player.proofs.Fronts.{whole_serial}
use Rattle.scene_player.proofs.showing.play_bytes_here.Goals as goal

pub returns-clause-refused : goal.returns-clause-refused
returns-clause-refused g c count other = as-refused _ (reading None None 0 0) _ _ _ _ _ (c.show_bytes_here.ensures.answered count) other

pub returns-clause-complete : goal.returns-clause-complete
returns-clause-complete g c count taken noted = as-defined _ (reading None None 0 0) _ _ _ _ _ (c.show_bytes_here.ensures.answered count) (λ shows. taken) noted

pub returns-clause-whole : goal.returns-clause-whole
returns-clause-whole g c = λ s is done.
    whole_serial c.args.with_journal 0 c.args.bytes.now s c.show_bytes_here.result.status _ _ _ (c.plan_law.ensures.count s) is (c.show_bytes_here.ensures.answered 0) done (c.show_bytes_here.ensures.front s is)
