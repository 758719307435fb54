use Rattle.std.proofs.Common.{rules, ◌<◌, length, ap, subst, sym, ◌∙◌}
use Rattle.schedule_model.specs.Held.{count_of}
use Rattle.res_lock.specs.Views.{PassView}
use Rattle.res_lock.proofs.Steps.{hears_other, learns_keep, joined_after, own_caller}
use Rattle.res_lock.proofs.table.LogTable.join.Goals as goal

pub join_seat-requires : goal.join_seat-requires
join_seat-requires c = (search rules, search rules, search rules, search rules, hears_other _ _ _ _ _ c.args.first.now.all_learnt c.args.other.all_learnt c.args.other.no_pen)

pub load-requires : goal.load-requires
load-requires c = (search rules, search rules, learns_keep _ _ _ _ _ (ap (λ m. m.0.heard) c.join_seat.ensures.2))

pub invariant_of-first : goal.invariant_of-first
invariant_of-first c =
    let p = c.args.first.now in
    let w = c.args.other.seat.me.0 in
    let a = joined_after c.args.self.now.table.shared.table_id.slots p.seat.me.0 w _ c.load.result _ _ c.join_seat.ensures.2 c.load.ensures.2 in
    record {
      is_caller = subst (λ (u : PassView). 0 < count_of p.caller u.callers) (sym a.view) (own_caller p.caller p.seat.me.0.callers w.callers p.is_caller);
      made_is = p.made_is ∙ ap length (sym (a.own.1 p.caller p.is_caller));
      next_is = p.next_is ∙ sym (ap (λ (u : PassView). u.next) a.view);
      no_pen = ap (λ (u : PassView). u.pen) a.view ∙ p.no_pen;
      all_learnt = ap (λ (u : PassView). u.heard) a.view;
      no_slot = a.hand_is ∙ p.no_slot;
    }

pub returns-clause-first : goal.returns-clause-first
returns-clause-first c = (joined_after c.args.self.now.table.shared.table_id.slots c.args.first.now.seat.me.0 c.args.other.seat.me.0 _ c.load.result _ _ c.join_seat.ensures.2 c.load.ensures.2).view

pub returns-clause-own : goal.returns-clause-own
returns-clause-own c = (joined_after c.args.self.now.table.shared.table_id.slots c.args.first.now.seat.me.0 c.args.other.seat.me.0 _ c.load.result _ _ c.join_seat.ensures.2 c.load.ensures.2).own

pub returns-clause-others : goal.returns-clause-others
returns-clause-others c = (joined_after c.args.self.now.table.shared.table_id.slots c.args.first.now.seat.me.0 c.args.other.seat.me.0 _ c.load.result _ _ c.join_seat.ensures.2 c.load.ensures.2).others
