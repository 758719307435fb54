use Rattle.gfx_model.specs.Resources.{create_index_buffer}
use Rattle.hold_table.specs.Seats.{api_table, api_view}
use Rattle.context_core.proofs.Created.{make_indices, place_was_free, serial_is_new, kept_after, makes_after, usable_after}
use Rattle.context_core.proofs.context.ContextCore.create_index_buffer.Goals as goal

pub mark_live-requires-clause-place : goal.mark_live-requires-clause-place
mark_live-requires-clause-place c =
    let h = c.in_ok-handle.ensures.answer in
    λ _. place_was_free (make_indices c.self.inside.book.resources c.in_ok-handle.handle c.args.bytes.now h.0 h.1) (api_view c.self.inside.api) c.tell_facts.ensures c.self.invariant.2.tied

pub mark_live-requires-clause-serial : goal.mark_live-requires-clause-serial
mark_live-requires-clause-serial c =
    let h = c.in_ok-handle.ensures.answer in
    λ _. serial_is_new (make_indices c.self.inside.book.resources c.in_ok-handle.handle c.args.bytes.now h.0 h.1) (api_view c.self.inside.api) c.self.invariant.2.tied

pub invariant_of-self-2 : goal.invariant_of-self-2
invariant_of-self-2 c =
    let h = c.in_ok-handle.ensures.answer in
    (c.self.invariant.0, c.self.invariant.1, kept_after c.self.invariant.2 c.tell_facts.ensures (create_index_buffer c.args.bytes.now) (make_indices c.self.inside.book.resources c.in_ok-handle.handle c.args.bytes.now h.0 h.1) c.create_index_buffer.new.self (api_view c.mark_live.new.api) h.2 c.mark_live.ensures.api)

pub returns-clause-answer : goal.returns-clause-answer
returns-clause-answer c =
    let h = c.in_ok-handle.ensures.answer in
    makes_after c.self.invariant.2 c.tell_facts.ensures (create_index_buffer c.args.bytes.now) (make_indices c.self.inside.book.resources c.in_ok-handle.handle c.args.bytes.now h.0 h.1) c.create_index_buffer.new.self (api_view c.mark_live.new.api) h.2 c.mark_live.ensures.api h.0 h.1 (api_table c.self.inside.api) (api_table c.mark_live.new.api) c.mark_live.ensures.table _ c.self.view_is

pub returns-clause-stays : goal.returns-clause-stays
returns-clause-stays c =
    let h = c.in_ok-handle.ensures.answer in
    usable_after c.self.invariant.2 c.tell_facts.ensures (create_index_buffer c.args.bytes.now) (make_indices c.self.inside.book.resources c.in_ok-handle.handle c.args.bytes.now h.0 h.1) c.create_index_buffer.new.self (api_view c.mark_live.new.api) h.2 c.mark_live.ensures.api (api_table c.self.inside.api) _ c.self.view_is
