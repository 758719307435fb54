use Rattle.std.proofs.Common.{rules, ℕ, ◌+◌, ◌<◌, ◌++◌, ◌∷◌, [], length, ap, subst, sym, ◌∙◌}
use Rattle.schedule_model.specs.Held.{count_of}
use Rattle.res_lock.specs.Histories.{LockEntry, part_of}
use Rattle.res_lock.specs.Views.{PassView, written_in}
use Rattle.res_lock.proofs.Steps.{takes_pen, appends_after, appended_after, made_next, pen_again, gives_pen}
use Rattle.res_lock.proofs.table.LogTable.append_as.Goals as goal

pub join_seat-requires : goal.join_seat-requires
join_seat-requires g c = (search rules, search rules, search rules, search rules, takes_pen _ _ _ _ _ _ c.args.pass.now.no_pen c.args.pen.is_pen)

pub fetch_add-requires : goal.fetch_add-requires
fetch_add-requires g c = (
  search rules,
  search rules,
  appends_after c.args.self.now.table.shared.table_id.slots c.args.pass.now.seat.me.0 c.args.pen.seat.me.0 c.args.pass.now.no_pen c.args.pen.is_pen g.W.Written.entry _ _ _ _ _ c.join_seat.ensures.2
      (sym (ap (λ (e : LockEntry). e.caller) c.requires.named) ∙ c.requires.entry) c.args.pass.now.is_caller c.requires.few.1,
)

pub split_seat-seat-requires : goal.split_seat-seat-requires
split_seat-seat-requires g c = (search rules, search rules, gives_pen _ _ _)

pub invariant_of-pass : goal.invariant_of-pass
invariant_of-pass g c =
    let p = c.args.pass.now in
    let a = appended_after c.args.self.now.table.shared.table_id.slots p.seat.me.0 c.args.pen.seat.me.0 p.no_pen c.args.pen.is_pen g.W.Written.entry _ c.fetch_add.result _ _ _ _ c.join_seat.ensures.2 c.fetch_add.ensures.2 c.split_seat-seat.ensures.2 c.split_seat-seat.ensures.4 in
    let own = sym (ap (λ (e : LockEntry). e.caller) c.requires.named) ∙ c.requires.entry in
    record {
      is_caller = subst (λ (u : PassView). 0 < count_of p.caller u.callers) (sym a.view) p.is_caller;
      made_is = ap (λ (n : ℕ). n + 1) p.made_is ∙ (made_next p.seat.me.0.callers p.seat.me.0.seen (written_in c.args.pen.seat.me.0.pen) g.W.Written.entry p.caller a.on p.is_caller own ∙ ap (λ (u : PassView). length (part_of p.caller u.seen)) (sym a.view));
      next_is = p.next_is ∙ sym (ap (λ (u : PassView). u.next) a.view);
      no_pen = ap (λ (u : PassView). u.pen) a.view ∙ p.no_pen;
      all_learnt = ap (λ (u : PassView). u.heard) a.view ∙ p.all_learnt;
      no_slot = a.hand_is ∙ p.no_slot;
    }

pub invariant_of-result : goal.invariant_of-result
invariant_of-result g c =
    let p = c.args.pass.now in
    let a = appended_after c.args.self.now.table.shared.table_id.slots p.seat.me.0 c.args.pen.seat.me.0 p.no_pen c.args.pen.is_pen g.W.Written.entry _ c.fetch_add.result _ _ _ _ c.join_seat.ensures.2 c.fetch_add.ensures.2 c.split_seat-seat.ensures.2 c.split_seat-seat.ensures.4 in
    record { is_pen = pen_again _ _ a.pen; no_slot = a.no_hand }

pub returns-clause-pen : goal.returns-clause-pen
returns-clause-pen g c =
    let p = c.args.pass.now in
    let a = appended_after c.args.self.now.table.shared.table_id.slots p.seat.me.0 c.args.pen.seat.me.0 p.no_pen c.args.pen.is_pen g.W.Written.entry _ c.fetch_add.result _ _ _ _ c.join_seat.ensures.2 c.fetch_add.ensures.2 c.split_seat-seat.ensures.2 c.split_seat-seat.ensures.4 in
    ap (λ (u : PassView). written_in u.pen) a.pen ∙ ap (λ (e : LockEntry). written_in c.args.pen.seat.me.0.pen ++ e ∷ []) (sym c.requires.named)

pub returns-clause-pass : goal.returns-clause-pass
returns-clause-pass g c =
    let p = c.args.pass.now in
    let a = appended_after c.args.self.now.table.shared.table_id.slots p.seat.me.0 c.args.pen.seat.me.0 p.no_pen c.args.pen.is_pen g.W.Written.entry _ c.fetch_add.result _ _ _ _ c.join_seat.ensures.2 c.fetch_add.ensures.2 c.split_seat-seat.ensures.2 c.split_seat-seat.ensures.4 in
    a.view ∙ ap (λ l. record p.seat.me.0 { seen = l }) (sym (ap (λ (u : PassView). written_in u.pen) a.pen))

pub returns-clause-on : goal.returns-clause-on
returns-clause-on g c =
    let p = c.args.pass.now in
    let a = appended_after c.args.self.now.table.shared.table_id.slots p.seat.me.0 c.args.pen.seat.me.0 p.no_pen c.args.pen.is_pen g.W.Written.entry _ c.fetch_add.result _ _ _ _ c.join_seat.ensures.2 c.fetch_add.ensures.2 c.split_seat-seat.ensures.2 c.split_seat-seat.ensures.4 in
    a.on
