use Rattle.std.proofs.Common.{◌≡◌, ap, sym, ◌∙◌}
use Rattle.hold_table.specs.Seats.{enc_view}
use Rattle.gfx_words.specs.Seen.{room_seen}
use Rattle.context_core.specs.States.{CoreView}
use Rattle.hold_table.specs.Views.{SeatView}
use Rattle.gfx_context.proofs.Linked.{same_as}
use Rattle.gfx_context.proofs.Lifted.{refused_told}
use Rattle.gfx_context.proofs.context.Context.begin.Goals as goal

pub start-requires-clause-views : goal.start-requires-clause-views
start-requires-clause-views g c = c.in_ok-seat.ensures.views ∙ c.self.invariant.views_are

pub start-requires-clause-whose : goal.start-requires-clause-whose
start-requires-clause-whose g c =
    let l = c.in_ok-seat.ensures in
    (l.number ∙ sym (ap (λ (v : SeatView). v.encoder) l.seat), l.frame ∙ c.tell_facts.ensures.keeps.tied.frame ∙ sym (ap (λ (v : SeatView). v.frame) l.seat))

pub invariant_of-self-in-Err : goal.invariant_of-self-in-Err
invariant_of-self-in-Err g c =
    let l = c.in_ok-seat.ensures in
    let again : c.take_again.new.self ≡ c.self.inside.core = c.take_again.ensures c.self.inside.core.state (record { fresh_still = ap enc_view c.in-Err.ensures.err ∙ l.seat; same_still = ap (λ (o : CoreView). o.state) l.after })
    ∙ ap (λ (o : CoreView). record o { state = c.self.inside.core.state }) l.after in
    same_as c.self.invariant c.take_again.new.self again

pub returns-in-Err : goal.returns-in-Err
returns-in-Err g c =
    let l = c.in_ok-seat.ensures in
    let again : c.take_again.new.self ≡ c.self.inside.core = c.take_again.ensures c.self.inside.core.state (record { fresh_still = ap enc_view c.in-Err.ensures.err ∙ l.seat; same_still = ap (λ (o : CoreView). o.state) l.after })
    ∙ ap (λ (o : CoreView). record o { state = c.self.inside.core.state }) l.after in
    refused_told (g.L.FrameLink.given c.self.inside.link) (g.L.FrameLink.back c.self.inside.link) c.self.inside.link c.self.inside.core c.take_again.new.self (room_seen c.args.room) l.accepted again _ c.self.view_is
