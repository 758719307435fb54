use Rattle.std.proofs.Common.{◌≡◌, arith, ap, ◌∙◌, subst, ℕ, []}
use Rattle.gfx_model.specs.Views.{view_count}
use Rattle.hold_table.specs.Seats.{enc_view}
use Rattle.context_core.specs.Gathered.{anything, AreGathered}
use Rattle.context_core.specs.States.{CoreView}
use Rattle.gfx_context.proofs.Gathers.{none_off_when, seat_still, same_still, more_kept, of_frame}
use Rattle.context_core.proofs.Ends.{as_gathered}
use Rattle.gfx_context.proofs.Linked.{gathered_admitted}
use Rattle.gfx_context.proofs.gathering.gather_all.Goals as goal

pub loop-i-preserved : goal.loop-i-preserved
loop-i-preserved g c =
    let b = c.collect-bundle.result in
    let gathers = c.gather.ensures.gathers in
    let i = c.loop-i.invariant in
    let first = c.args.core.now in
    let old = c.loop-i.core in
    let new = c.gather.new.core in
    record {
      table = ap (λ (x : CoreView). x.table) gathers.after ∙ i.table;
      not_given = ap (λ (x : CoreView). x.state.is_given) gathers.after ∙ i.not_given;
      views = ap (λ (x : CoreView). view_count x.state.book.resources.views) gathers.after ∙ i.views;
      left = (let a = gathers.fewer in let d = i.left in omega (arith, a, d));
      kept = more_kept b.0 (enc_view b.1) first old new gathers i.kept;
      seat = seat_still b.0 (enc_view b.1) first old new gathers i.seat;
      same = same_still b.0 (enc_view b.1) first old new gathers i.same;
      admitted = c.gather.ensures.admitted;
    }

pub returns-clause-none_off : goal.returns-clause-none_off
returns-clause-none_off g c = none_off_when c.loop-i.core.state.seat (let le = c.loop-i-test.false in let left = c.loop-i.invariant.left in let off = c.off-left.ensures in omega (arith, le, left, off))

pub returns-clause-recordings : goal.returns-clause-recordings
returns-clause-recordings g c =
    let i = c.loop-i.invariant in
    let now = c.loop-i.core in
    let first = c.args.core.now in
    let none : now.state.seat.off ≡ [] = none_off_when now.state.seat (let le = c.loop-i-test.false in let left = i.left in let off = c.off-left.ensures in omega (arith, le, left, off)) in
    let all = gathered_admitted g.C.Naming.admits (view_count now.state.book.resources.views) g.C.Naming.views now.state.seat now.state.begun now.state.gathered i.views
    (as_gathered anything (view_count now.state.book.resources.views) now.state.seat now.state.begun now.state.gathered now.state.is_given i.not_given c.tell_facts.ensures.keeps.gathered) i.admitted in
    of_frame g.C.Naming.admits g.C.Naming.views now.state.seat first.state.seat first.state.begun now.state.gathered
    (subst (λ (n : ℕ). AreGathered g.C.Naming.admits g.C.Naming.views now.state.seat n now.state.gathered) (ap (λ (x : CoreView). x.state.begun) i.same) all) none i.seat
