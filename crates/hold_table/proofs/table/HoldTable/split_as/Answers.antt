use Rattle.std.proofs.Common.{rules, ℕ, subst}
use Rattle.atomic_table.specs.Table.{Splits}
use Rattle.hold_table.specs.Rule.{IsHeld}
use Rattle.hold_table.specs.Views.{lent, fresh}
use Rattle.hold_table.proofs.Steps.{splits_keep}
use Rattle.hold_table.proofs.table.HoldTable.split_as.Goals as goal

pub split_seat-seat-requires : goal.split_seat-seat-requires
split_seat-seat-requires g c = let v = c.args.api.now.seat.me.0 in let r = c.requires in (
  search rules,
  search rules,
  subst (λ (e : ℕ). Splits (IsHeld c.args.self.now.table.shared.key) c.args.api.now.seat.id v (lent e v) (fresh e v)) r.named
      (splits_keep _ _ v c.args.number c.args.api.now.is_api r.number.0 r.number.1 r.room),
)
