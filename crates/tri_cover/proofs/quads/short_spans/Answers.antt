use Rattle.std.proofs.Common.{◌≡◌, ◌<◌, ◌∙◌, slice_index_or, arith}
use Rattle.tri_cover.specs.Shortened.{short_span}
use Rattle.tri_cover.proofs.Shortened.{row_of_four}
use Rattle.tri_cover.proofs.quads.short_spans.Goals as goal

pub loop-k-init : goal.loop-k-init
loop-k-init c = record {
  fours = c.first_fours-here.ensures;
  whole = omega arith;
  few = omega arith;
  held = λ i h. absurd (omega (arith, h));
}

pub loop-k-preserved : goal.loop-k-preserved
loop-k-preserved c =
    let i = c.loop-k.invariant in
    let here : c.loop-k.k < 32 = omega (arith, c.loop-k-test.true, c.requires.few) in
    record {
      fours = c.next_fours-here.ensures;
      whole = omega (arith, i.whole);
      few = omega (arith, i.whole, here);
      held = row_of_four (λ n. slice_index_or c.put_fours.new.spans n (0, 0) ≡ short_span c.args.shorts.now c.args.first c.args.after n) c.loop-k.k (λ n h. c.put_fours.ensures.before n h ∙ i.held n h) c.put_fours.ensures.here;
    }

pub returns-clause-spans : goal.returns-clause-spans
returns-clause-spans c k h = c.loop-k.invariant.held k (omega (arith, h))
