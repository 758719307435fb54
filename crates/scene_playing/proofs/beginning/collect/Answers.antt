use Rattle.std.proofs.Common.{◌≡◌, ℕ, ◌+◌, ◌-◌, [], length, refl, sym, ap, subst, arith}
use Rattle.std.proofs.lemmas.List.{nil_from_length}
use Rattle.hold_table.specs.Seats.{enc_view}
use Rattle.gfx_context.proofs.Gathers.{none_off_when}
use Rattle.scene_playing.proofs.Collecting.{seat_still, same_still, more_kept, all_gathered}
use Rattle.scene_playing.proofs.beginning.collect.Goals as goal

pub bring-requires : goal.bring-requires
bring-requires g c =
    let off = c.loop-i.context.seat.off in
    let some : length off ≡ (length off - 1) + 1 = let left = c.loop-i.invariant.left in let lt = c.loop-i-test.true in let all = c.off-left.ensures in omega (arith, left, lt, all) in
    (length off - 1, subst (λ (n : ℕ). g.W.Recorders.owes c.loop-i.recorders n) some c.loop-i.invariant.owes)

pub loop-i-preserved : goal.loop-i-preserved
loop-i-preserved g c =
    let b = c.bring.result in
    let gathers = c.gather.ensures in
    let i = c.loop-i.invariant in
    let first = c.args.context.now in
    let old = c.loop-i.context in
    let new = c.gather.new.self in
    record {
      left = (let a = gathers.fewer in let d = i.left in omega (arith, a, d));
      kept = more_kept b.0 (enc_view b.1) first old new gathers i.kept;
      seat = seat_still b.0 (enc_view b.1) first old new gathers i.seat;
      same = same_still b.0 (enc_view b.1) first old new gathers i.same;
      owes = c.bring.ensures (length new.seat.off) (subst (λ (n : ℕ). g.W.Recorders.owes c.loop-i.recorders n) (sym gathers.fewer) i.owes);
    }

pub returns-clause-collects : goal.returns-clause-collects
returns-clause-collects g c =
    let i = c.loop-i.invariant in
    let now = c.loop-i.context in
    let none : now.seat.off ≡ [] = none_off_when now.seat (let le = c.loop-i-test.false in let left = i.left in let off = c.off-left.ensures in omega (arith, le, left, off)) in
    all_gathered g.C.Naming.admits g.C.Naming.views c.args.context.now now c.tell_facts.ensures.keeps none i.kept i.seat i.same

pub returns-clause-owes : goal.returns-clause-owes
returns-clause-owes g c =
    let i = c.loop-i.invariant in
    let none : length c.loop-i.context.seat.off ≡ 0 = let le = c.loop-i-test.false in let left = i.left in let off = c.off-left.ensures in omega (arith, le, left, off) in
    subst (λ (n : ℕ). g.W.Recorders.owes c.loop-i.recorders n) none i.owes
