use Rattle.std.proofs.Common.{◌≡◌, ◌<◌, ap, sym, subst, ℕ, ◌∙◌}
use Rattle.gfx_model.specs.Words.{place_of_handle}
use Rattle.schedule_model.specs.Machine.{free, dying, place_at}
use Rattle.hold_table.specs.Seats.{api_view}
use Rattle.hold_table.specs.Views.{SeatView}
use Rattle.context_core.specs.Places.{Stays}
use Rattle.context_core.proofs.Stays.{stays_unnamed}
use Rattle.context_core.proofs.Dead.{dead_at, dead_unnamed}
use Rattle.context_core.proofs.freeing.free_word.Goals as goal

pub place_free-requires-clause-dead : goal.place_free-requires-clause-dead
place_free-requires-clause-dead c =
    subst (λ (f : ℕ). (s : ℕ) × (d : ℕ) × (place_at (api_view c.args.api.now).places c.place.result ≡ dying s d) × (d < f)) c.requires.frame
    (dead_at (api_view c.args.api.now).places (place_of_handle c.args.row.now.handle) c.place.result c.args.row.now.death c.args.row.now.handle.serial c.args.latency c.args.frame c.place.ensures.same c.requires.place (sym c.is_kept.ensures ∙ c.if-not-is_kept.true))

pub returns-then-not-is_kept-clause-stays : goal.returns-then-not-is_kept-clause-stays
returns-then-not-is_kept-clause-stays c = λ n le.
    let places = (api_view c.args.api.now).places in
    subst (Stays n places) (sym (ap (λ (v : SeatView). v.places) c.place_free.ensures.api))
    (stays_unnamed places c.place.result free n
    (dead_unnamed places (place_of_handle c.args.row.now.handle) c.place.result c.args.row.now.death c.args.row.now.handle.serial c.args.latency c.args.frame n c.place.ensures.same c.requires.place (sym c.is_kept.ensures ∙ c.if-not-is_kept.true) le))
