use Rattle.std.proofs.Common.{◌≡◌, ◌≤◌, ℕ, List, map, refl, sym, ap, ◌∙◌, arith, rules}
use Rattle.io_whole.proofs.Pieces.{rose_after}
use Rattle.render_core.specs.Seen.{frame_seen}
use Rattle.store_laws.specs.ByIndex.{all_commanded}
use Rattle.render_stores.specs.Payloads.{payloads_seen}
use Rattle.render_stores.specs.Seen.{stores_seen}
use Rattle.trace_lines.specs.Seen.{doer_seen}
use Rattle.frame_steps.specs.Steps.{steps_text}
use Rattle.frame_steps.proofs.Putting.{none_front, steps-first, steps-front, steps-whole}
use Rattle.frame_steps.proofs.steps.put_steps.Goals as goal

pub returns-in_err-execute_all-clause-front : goal.returns-in_err-execute_all-clause-front
returns-in_err-execute_all-clause-front g c = none_front (g.P.Sink.held c.args.sink.now) (steps_text (stores_seen c.args.stores.now) (frame_seen c.args.frame.now))

pub returns-in_err-doers-clause-front : goal.returns-in_err-doers-clause-front
returns-in_err-doers-clause-front g c = none_front (g.P.Sink.held c.args.sink.now) (steps_text (stores_seen c.args.stores.now) (frame_seen c.args.frame.now))

pub returns-in_err-put_picture-clause-front : goal.returns-in_err-put_picture-clause-front
returns-in_err-put_picture-clause-front g c =
    steps-first c.args.frame.now c.in_ok-doers.doers.items (stores_seen c.args.stores.now) (stores_seen c.execute_all.new.stores) (c.in_ok-execute_all.ensures.done ∙ ap (λ p. all_commanded (payloads_seen p) (stores_seen c.args.stores.now) c.args.frame.now.pre) c.deref.ensures.value) c.tell_facts.ensures c.in_ok-doers.ensures
    (g.P.Sink.held c.args.sink.now) (g.P.Sink.held c.put_picture.new.sink) c.put_picture.ensures.front

pub returns-in_err-put_each-clause-front : goal.returns-in_err-put_each-clause-front
returns-in_err-put_each-clause-front g c =
    steps-front c.args.frame.now c.as_slice.result.now (stores_seen c.args.stores.now) (stores_seen c.execute_all.new.stores) (c.in_ok-execute_all.ensures.done ∙ ap (λ p. all_commanded (payloads_seen p) (stores_seen c.args.stores.now) c.args.frame.now.pre) c.deref.ensures.value) c.tell_facts.ensures (ap (map doer_seen) c.as_slice.ensures.value ∙ c.in_ok-doers.ensures)
    (g.P.Sink.held c.args.sink.now) (g.P.Sink.held c.put_picture.new.sink) (g.P.Sink.held c.put_each.new.sink) c.in_ok-put_picture.ensures.whole c.put_each.ensures.front

pub returns-in_err-put_each-clause-fault : goal.returns-in_err-put_each-clause-fault
returns-in_err-put_each-clause-fault g c =
    λ e. rose_after (g.P.Sink.faults c.args.sink.now) (g.P.Sink.faults c.put_picture.new.sink) (g.P.Sink.faults c.put_each.new.sink) c.put_picture.ensures.no_fewer (c.put_each.ensures.fault (search (rules, e)))

pub returns-clause-whole : goal.returns-clause-whole
returns-clause-whole g c =
    steps-whole c.args.frame.now c.as_slice.result.now (stores_seen c.args.stores.now) (stores_seen c.execute_all.new.stores) (c.in_ok-execute_all.ensures.done ∙ ap (λ p. all_commanded (payloads_seen p) (stores_seen c.args.stores.now) c.args.frame.now.pre) c.deref.ensures.value) c.tell_facts.ensures (ap (map doer_seen) c.as_slice.ensures.value ∙ c.in_ok-doers.ensures)
    (g.P.Sink.held c.args.sink.now) (g.P.Sink.held c.put_picture.new.sink) (g.P.Sink.held c.put_each.new.sink) c.in_ok-put_picture.ensures.whole c.in_ok-put_each.ensures.whole

pub returns-clause-front : goal.returns-clause-front
returns-clause-front g c =
    steps-front c.args.frame.now c.as_slice.result.now (stores_seen c.args.stores.now) (stores_seen c.execute_all.new.stores) (c.in_ok-execute_all.ensures.done ∙ ap (λ p. all_commanded (payloads_seen p) (stores_seen c.args.stores.now) c.args.frame.now.pre) c.deref.ensures.value) c.tell_facts.ensures (ap (map doer_seen) c.as_slice.ensures.value ∙ c.in_ok-doers.ensures)
    (g.P.Sink.held c.args.sink.now) (g.P.Sink.held c.put_picture.new.sink) (g.P.Sink.held c.put_each.new.sink) c.in_ok-put_picture.ensures.whole c.put_each.ensures.front
