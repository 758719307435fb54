use Rattle.std.proofs.Common.{rules, ℕ, ◌<◌, length, ap, subst, sym, ◌∙◌}
use Rattle.schedule_model.specs.Held.{count_of}
use Rattle.res_lock.specs.Histories.{part_of}
use Rattle.res_lock.specs.Views.{PassView, split_off}
use Rattle.res_lock.proofs.Steps.{looks_keep, splits_off, new_caller}
use Rattle.res_lock.proofs.table.LogTable.split.Goals as goal

pub load-caller-requires : goal.load-caller-requires
load-caller-requires c = (search rules, search rules, looks_keep _ _ _ _)

pub split_seat-seat-requires : goal.split_seat-seat-requires
split_seat-seat-requires c = (search rules, search rules, splits_off _ _ _ (subst (λ m. 0 < m.0.next) (sym c.load-caller.ensures.2.0) c.requires.first))

pub invariant_of-result : goal.invariant_of-result
invariant_of-result c =
    let p = c.args.first.now in
    let v = p.seat.me.0 in
    let is = ap (λ m. m.0) c.split_seat-seat.ensures.4 ∙ ap (λ m. split_off m.0) c.load-caller.ensures.2.0 in
    record {
      is_caller = subst (λ (u : PassView). 0 < count_of p.next u.callers) (sym is) (new_caller p.next v.next p.next_is);
      made_is = sym (ap (λ (u : PassView). length (part_of p.next u.seen)) is ∙ ap (λ (n : ℕ). length (part_of n v.seen)) p.next_is ∙ ap length (c.load-caller.ensures.2.1 c.requires.first));
      next_is = sym (ap (λ (u : PassView). u.next) is);
      no_pen = ap (λ (u : PassView). u.pen) is;
      all_learnt = ap (λ (u : PassView). u.heard) is;
      no_slot = ap (λ m. m.1) c.split_seat-seat.ensures.4;
    }
