use Rattle.std.proofs.Common.{rules, ◌<◌, ◌&&◌, nat_le, nat_lt, length, FitsSigned, w64, ◌∙◌, arith}
use Rattle.std.proofs.lemmas.Int.{to_z-of_z}
use Rattle.tri_cover.specs.Bounded.{is_within, IsCut}
use Rattle.tri_cover.proofs.Ends.{not_moved}
use Rattle.tri_cover.proofs.Rowed.{entries_more}
use Rattle.tri_cover.proofs.bounds.stepped_cuts.Goals as goal

pub loop-k-init : goal.loop-k-init
loop-k-init c =
    let b = c.args.bounds.now in
    record {
      moved = record { left = not_moved b.left; other_left = not_moved b.other_left; right = not_moved b.right; other_right = not_moved b.other_right };
      held = λ k h. absurd (omega (arith, h));
    }

pub loop-k-preserved : goal.loop-k-preserved
loop-k-preserved c =
    let b = c.args.bounds.now in
    let i = c.loop-k.invariant in
    let m = i.moved in
    let f1 : FitsSigned w64 c.loop-k.here.left.at = search rules in
    let f2 : FitsSigned w64 c.loop-k.here.other_left.at = search rules in
    let f3 : FitsSigned w64 c.loop-k.here.right.at = search rules in
    let f4 : FitsSigned w64 c.loop-k.here.other_right.at = search rules in
    let inside : c.loop-k.k < length c.loop-k.spans = omega (arith, c.loop-k-test.true, c.loop-k.auto.spans, c.requires.room) in
    let cut : IsCut c.between.result b c.args.first c.args.after c.loop-k.k = record {
      order = c.between.ensures.order;
      within = c.between.ensures.within;
      columns = λ x. (simp to_z-of_z at (c.between.ensures.columns x)) ∙ (λ j. (nat_le c.args.first x && nat_lt x c.args.after) && is_within (m.left.at j) (m.other_left.at j) (m.right.at j) (m.other_right.at j) x);
    } in
    record {
      moved = c.next_bounds-here.ensures;
      held = entries_more (λ k s. IsCut s b c.args.first c.args.after k) c.loop-k.spans c.loop-k.k c.between.result i.held inside cut;
    }
