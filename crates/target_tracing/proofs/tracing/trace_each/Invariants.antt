use Rattle.std.proofs.Common.{◌≡◌, ◌++◌, map, drop}
use Rattle.render_stores.specs.Seen.{stores_seen}
use Rattle.frame_steps.specs.Steps.{deeds_of_doers}
use Rattle.target_tracing.specs.Seen.{target_made_seen}
use Rattle.target_tracing.specs.Tracing.{history_of_these}
use Rattle.target_tracing.proofs.tracing.trace_each.Given as goal

abbrev pub invariant-loop-place : goal.invariant-loop-place
invariant-loop-place g l =
    map target_made_seen l.made.items ++ history_of_these l.spot.target l.spot.x l.spot.y l.place (stores_seen l.stores) (deeds_of_doers l.frame (drop l.place l.doers))
    ≡ map target_made_seen l.fn.made.items ++ history_of_these l.spot.target l.spot.x l.spot.y 0 (stores_seen l.fn.stores) (deeds_of_doers l.frame l.doers)
