use Rattle.std.proofs.Common.{rules, ℕ, subst, ap, ◌∙◌}
use Rattle.hold_table.proofs.Steps.{joins_keep, learns_keep}
use Rattle.hold_table.specs.Views.{SeatView, AllShown, IsNamedIn}
use Rattle.hold_table.proofs.PlaceLaws.{named_stands}
use Rattle.hold_table.proofs.table.HoldTable.join.Goals as goal

pub join_seat-requires : goal.join_seat-requires
join_seat-requires c = (search rules, search rules, search rules, search rules, joins_keep _ _ _ _ _ c.args.api.now.is_api c.args.enc.is_recorder)

pub load-requires : goal.load-requires
load-requires c = (search rules, search rules, learns_keep _ _ _ _ (ap (λ m. m.0.role) c.join_seat.ensures.2 ∙ c.args.api.now.is_api))

-- what the recorder named is in its place
pub returns-clause-named : goal.returns-clause-named
returns-clause-named c h named =
    let shown = subst (λ (u : SeatView). AllShown u.frame u.places u.shows) (ap (λ m. m.0) c.join_seat.ensures.2) c.load.ensures.2.1 in
    named_stands c.args.api.now.seat.me.0.frame c.args.api.now.seat.me.0.places h c.args.enc.seat.me.0.asked shown.0.2
    (subst (λ (f : ℕ). IsNamedIn f h c.args.enc.seat.me.0.asked) shown.0.0 named)
