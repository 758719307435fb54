use Rattle.std.proofs.Common.{◌≡◌, ◌+◌, ◌<◌, length, subst, arith}
use Rattle.tri_cover.specs.Seen.{triangle_seen}
use Rattle.tri_cover.specs.Walked.{AreSides}
use Rattle.tri_cover.specs.Bounded.{IsSpan}
use Rattle.tri_cover.proofs.Rowed.{entries_more, span_from}
use Rattle.tri_cover.proofs.triangles.Setup.stepped_spans.Goals as goal

pub loop-k-init : goal.loop-k-init
loop-k-init c =
    let here : c.args.row ≡ c.args.row + 0 = omega arith in
    record {
      sides = subst (λ y. AreSides c.sides-sides.result c.args.self.now y) here c.sides-sides.ensures;
      held = λ k h. absurd (omega (arith, h));
    }

pub loop-k-preserved : goal.loop-k-preserved
loop-k-preserved c =
    let s = c.args.self.now in
    let t = triangle_seen s.a s.b s.c in
    let i = c.loop-k.invariant in
    let inside : c.loop-k.k < length c.loop-k.spans = omega (arith, c.loop-k-test.true, c.loop-k.auto.spans, c.requires.room) in
    let next : c.args.row + c.loop-k.k + 1 ≡ c.args.row + (c.loop-k.k + 1) = omega arith in
    let span : IsSpan c.columns_from.result t c.args.first c.args.after (c.args.row + c.loop-k.k) =
    span_from c.columns_of-columns.result c.columns_from.result t c.args.first c.args.after (c.args.row + c.loop-k.k) c.columns_of-columns.ensures.within c.columns_of-columns.ensures.columns c.columns_from.ensures.order c.columns_from.ensures.within c.columns_from.ensures.columns in
    record {
      sides = subst (λ y. AreSides c.next_sides-sides.result s y) next c.next_sides-sides.ensures;
      held = entries_more (λ k v. IsSpan v t c.args.first c.args.after (c.args.row + k)) c.loop-k.spans c.loop-k.k c.columns_from.result i.held inside span;
    }
