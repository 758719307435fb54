use Rattle.std.proofs.Common.{◌+◌, ◌++◌, map, get_or, arith}
use Rattle.render_stores.specs.Seen.{stores_seen}
use Rattle.trace_lines.specs.declared.doers.Doer.{Doer}
use Rattle.trace_lines.specs.declared.doers.Doer.TheVariants as doers
use Rattle.trace_lines.specs.Seen.{doer_seen}
use Rattle.frame_steps.specs.Doing.{deed_of_frame}
use Rattle.frame_steps.specs.Steps.{deeds_of_doers}
use Rattle.frame_blame.proofs.Draws.{got-self}
use Rattle.target_tracing.specs.Seen.{target_made_seen}
use Rattle.target_tracing.specs.Tracing.{history_of_these}
use Rattle.target_tracing.proofs.Loops.{trace-next, trace-past}
use Rattle.target_tracing.proofs.tracing.trace_each.Goals as goal

pub loop-place-preserved : goal.loop-place-preserved
loop-place-preserved g c =
    let a = c.args in
    let l = c.loop-place in
    let doer : Doer = get_or a.doers.now l.place (doers.Clear 0) in
    trace-next a.spot.now.target a.spot.now.x a.spot.now.y (λ d. deed_of_frame a.frame.now (doer_seen d)) a.doers.now l.place doer (stores_seen l.stores) (stores_seen c.trace_doer.new.stores)
    (map target_made_seen l.made.items) (map target_made_seen c.trace_doer.new.made.items)
    (map target_made_seen a.made.now.items ++ history_of_these a.spot.now.target a.spot.now.x a.spot.now.y 0 (stores_seen a.stores.now) (deeds_of_doers a.frame.now a.doers.now))
    c.loop-place-test.true (got-self a.doers.now l.place _ c.loop-place-test.true) l.invariant c.in_ok-trace_doer.ensures

pub returns : goal.returns
returns g c =
    let a = c.args in
    let l = c.loop-place in
    trace-past a.spot.now.target a.spot.now.x a.spot.now.y (λ d. deed_of_frame a.frame.now (doer_seen d)) a.doers.now l.place (stores_seen l.stores) (map target_made_seen l.made.items)
    (map target_made_seen a.made.now.items ++ history_of_these a.spot.now.target a.spot.now.x a.spot.now.y 0 (stores_seen a.stores.now) (deeds_of_doers a.frame.now a.doers.now))
    (omega arith) l.invariant
