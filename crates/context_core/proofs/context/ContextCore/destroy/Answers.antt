use Rattle.std.proofs.Common.{◌≡◌, subst, None}
use Rattle.gfx_model.specs.Resources.{refusal_of, destroy}
use Rattle.hold_table.specs.Seats.{api_table, api_view}
use Rattle.context_core.specs.States.{CoreView}
use Rattle.context_core.proofs.Died.{place_is_live, kept_after_destroy, destroyed_after, usable_after_destroy}
use Rattle.context_core.proofs.context.ContextCore.destroy.Goals as goal

pub mark_dying-requires-clause-place : goal.mark_dying-requires-clause-place
mark_dying-requires-clause-place c =
    let t = c.in_ok-died.ensures.told in
    place_is_live c.self.inside.book.resources (api_view c.self.inside.api) c.args.h t.0 c.tell_facts.ensures c.self.invariant.2.tied c.tell_facts-2.ensures t.1

pub invariant_of-self-2 : goal.invariant_of-self-2
invariant_of-self-2 c =
    let t = c.in_ok-died.ensures.told in
    let a = c.in_ok-died.ensures.answer in
    (c.self.invariant.0, c.self.invariant.1, kept_after_destroy c.self.invariant.2 c.tell_facts.ensures c.args.h c.tell_facts-2.ensures t.0 t.1 c.destroy.new.self (api_view c.mark_dying.new.api) c.in_ok-died.died a.2 a.1 c.mark_dying.ensures.api)

pub returns-clause-answer : goal.returns-clause-answer
returns-clause-answer c =
    let t = c.in_ok-died.ensures.told in
    let a = c.in_ok-died.ensures.answer in (
      subst (λ (o : CoreView). refusal_of o.state.book.resources (destroy c.args.h) ≡ None) c.self.view_is a.0,
      destroyed_after c.self.invariant.2 c.tell_facts.ensures c.args.h c.tell_facts-2.ensures t.0 t.1 c.destroy.new.self (api_view c.mark_dying.new.api) c.in_ok-died.died a.2 a.1 c.mark_dying.ensures.api
          (api_table c.self.inside.api) (api_table c.mark_dying.new.api) c.mark_dying.ensures.table _ c.self.view_is,
    )

pub returns-clause-stays : goal.returns-clause-stays
returns-clause-stays c =
    let t = c.in_ok-died.ensures.told in
    let a = c.in_ok-died.ensures.answer in
    usable_after_destroy c.self.invariant.2 c.tell_facts.ensures c.args.h c.tell_facts-2.ensures t.0 t.1 c.destroy.new.self (api_view c.mark_dying.new.api) c.in_ok-died.died a.2 a.1 c.mark_dying.ensures.api (api_table c.self.inside.api) _ c.self.view_is
