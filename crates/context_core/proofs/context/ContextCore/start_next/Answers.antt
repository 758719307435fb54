use Rattle.std.proofs.Common.{◌≡◌, ◌<◌, ap, sym, subst, ◌∙◌, true}
use Rattle.hold_table.specs.Seats.{api_table, api_view}
use Rattle.context_core.specs.Gathered.{anything}
use Rattle.context_core.specs.States.{CoreView}
use Rattle.context_core.proofs.Ends.{as_given, kept_next, starts_told, usable_next}
use Rattle.context_core.proofs.context.ContextCore.start_next.Goals as goal

pub next_frame-requires-clause-none_off : goal.next_frame-requires-clause-none_off
next_frame-requires-clause-none_off c =
    let given : c.self.inside.is_given ≡ true = ap (λ (o : CoreView). o.state.is_given) c.self.view_is ∙ c.requires.given in
    (as_given anything c.self.inside.views (api_view c.self.inside.api) c.self.inside.begun c.self.inside.gathered.items c.self.inside.is_given given c.self.invariant.2.gathered).none_off

pub next_frame-requires-clause-last : goal.next_frame-requires-clause-last
next_frame-requires-clause-last c =
    let given : c.self.inside.is_given ≡ true = ap (λ (o : CoreView). o.state.is_given) c.self.view_is ∙ c.requires.given in
    let last = (as_given anything c.self.inside.views (api_view c.self.inside.api) c.self.inside.begun c.self.inside.gathered.items c.self.inside.is_given given c.self.invariant.2.gathered).not_last in
    let same = c.self.invariant.2.tied.frame in
    subst (λ n. n < 1073741823) (sym same) last

pub invariant_of-self : goal.invariant_of-self
invariant_of-self c =
    let given : c.self.inside.is_given ≡ true = ap (λ (o : CoreView). o.state.is_given) c.self.view_is ∙ c.requires.given in
    let away = as_given anything c.self.inside.views (api_view c.self.inside.api) c.self.inside.begun c.self.inside.gathered.items c.self.inside.is_given given c.self.invariant.2.gathered in
    let next = c.next_frame.ensures in (
      c.self.invariant.0,
      c.self.invariant.1,
      kept_next anything c.self.inside.views _ c.self.invariant.2 c.next_frame.new.book (api_view c.next_frame.new.api) next.book next.seat c.tell_facts.ensures away next.tied next.stays,
    )

pub returns-clause-starts : goal.returns-clause-starts
returns-clause-starts c =
    let next = c.next_frame.ensures in
    starts_told anything c.self.inside.views _ c.self.invariant.2 c.next_frame.new.book (api_view c.next_frame.new.api) next.book next.seat
    (api_table c.self.inside.api) (api_table c.next_frame.new.api) next.table next.once next.counted _ c.self.view_is

pub returns-clause-stays : goal.returns-clause-stays
returns-clause-stays c =
    let next = c.next_frame.ensures in
    usable_next anything c.self.inside.views _ c.self.invariant.2 c.next_frame.new.book (api_view c.next_frame.new.api) next.book next.seat (api_table c.self.inside.api) next.stays _ c.self.view_is
