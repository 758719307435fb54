use Rattle.std.proofs.Common.{◌≡◌, ◌≤◌, ℕ, ◌+◌, List, get_or, refl, ◌∙◌, arith, rules}
use Rattle.io_whole.proofs.Pieces.{rose_after}
use Rattle.render_stores.specs.Seen.{stores_seen}
use Rattle.frame_steps.specs.Steps.{deeds_of_doers, texts_after}
use Rattle.frame_steps.proofs.Putting.{none_put, got-self, so_far_front, step-put, step-front, steps-past}
use Rattle.frame_steps.proofs.steps.put_each.Goals as goal

pub loop-doer-init : goal.loop-doer-init
loop-doer-init g c = record { put = none_put (g.P.Sink.held c.args.sink.now) (texts_after (stores_seen c.args.stores.now) (deeds_of_doers c.args.frame.now c.args.doers.now)); sure = refl; faults = omega arith }

pub returns-in_err-put_step-clause-front : goal.returns-in_err-put_step-clause-front
returns-in_err-put_step-clause-front g c =
    step-front c.args.frame.now c.args.doers.now c.loop-doer.doer-index (get_or c.args.doers.now c.loop-doer.doer-index _) (stores_seen c.loop-doer.stores) (g.P.Sink.held c.args.sink.now) (g.P.Sink.held c.loop-doer.sink) (g.P.Sink.held c.put_step.new.sink)
    (texts_after (stores_seen c.args.stores.now) (deeds_of_doers c.args.frame.now c.args.doers.now))
    c.loop-doer-test.true (got-self c.args.doers.now c.loop-doer.doer-index _ c.loop-doer-test.true) c.loop-doer.invariant.put c.put_step.ensures.front

pub returns-in_err-put_step-clause-fault : goal.returns-in_err-put_step-clause-fault
returns-in_err-put_step-clause-fault g c =
    λ e. rose_after (g.P.Sink.faults c.args.sink.now) (g.P.Sink.faults c.loop-doer.sink) (g.P.Sink.faults c.put_step.new.sink) c.loop-doer.invariant.faults (c.put_step.ensures.fault (search (rules, e)))

pub loop-doer-preserved : goal.loop-doer-preserved
loop-doer-preserved g c = record {
  put = step-put c.args.frame.now c.args.doers.now c.loop-doer.doer-index (get_or c.args.doers.now c.loop-doer.doer-index _) (stores_seen c.loop-doer.stores) (g.P.Sink.held c.args.sink.now) (g.P.Sink.held c.loop-doer.sink) (g.P.Sink.held c.put_step.new.sink)
      (texts_after (stores_seen c.args.stores.now) (deeds_of_doers c.args.frame.now c.args.doers.now))
      c.loop-doer-test.true (got-self c.args.doers.now c.loop-doer.doer-index _ c.loop-doer-test.true) (stores_seen c.put_step.new.stores) c.loop-doer.invariant.put c.in_ok-put_step.ensures.stores c.in_ok-put_step.ensures.whole;
  sure = c.in_ok-put_step.ensures.sure ∙ c.loop-doer.invariant.sure;
  faults = omega (arith, c.in_ok-put_step.ensures.no_fewer, c.loop-doer.invariant.faults);
}

pub returns-clause-whole : goal.returns-clause-whole
returns-clause-whole g c =
    steps-past c.args.frame.now c.args.doers.now c.loop-doer.doer-index (stores_seen c.loop-doer.stores) (g.P.Sink.held c.args.sink.now) (g.P.Sink.held c.loop-doer.sink)
    (texts_after (stores_seen c.args.stores.now) (deeds_of_doers c.args.frame.now c.args.doers.now)) (omega arith) c.loop-doer.invariant.put

pub returns-clause-front : goal.returns-clause-front
returns-clause-front g c =
    so_far_front (g.P.Sink.held c.args.sink.now) (g.P.Sink.held c.loop-doer.sink) _ (texts_after (stores_seen c.args.stores.now) (deeds_of_doers c.args.frame.now c.args.doers.now)) c.loop-doer.invariant.put
