use Rattle.std.proofs.Common.{◌≡◌, ◌<◌, ◌+◌, if◌then◌else◌, ◌*◌, ◌/◌, ◌^◌, length, subst, arith, ap, sym, ◌∙◌}
use Rattle.std.proofs.Math.ListN.{set}
use Rattle.gfx_model.specs.Raster.{fragment_at}
use Rattle.gfx_model.proofs.PartlyMapped.{partly}
use Rattle.gfx_query.specs.Counting.{Counted, after_fragment}
use Rattle.gfx_query.specs.Standing.{Stand, facing_with, place_change}
use Rattle.gfx_query.proofs.Places.{count_more, change_here, wide_more}
use Rattle.gfx_query.proofs.spans.count_span.Goals as goal

pub loop-x-preserved : goal.loop-x-preserved
loop-x-preserved c =
    let w = c.args.sides.now.width in
    let y = c.args.y in
    let x = c.loop-x.x in
    let f = facing_with c.args.tests.now.stencil c.args.setup.now in
    let state = c.args.tests.now.state in
    let g = place_change w state f in
    let k = y * w + x in
    let here : x < c.args.after = c.loop-x-test.true in
    let i = c.loop-x.invariant in
    let depth : c.loop-x.new / 2 ^ 104 ≡ (fragment_at f.triangle x y).depth = ap (λ n. n / 2 ^ 104) i.new ∙ c.requires.depths x c.loop-x.auto.x here in
    let inside : k < length c.loop-x.words = omega (arith, here, c.requires.inside, c.loop-x.auto.words) in
    let column : x < w = omega (arith, here, c.requires.columns) in
    let change : (p : Counted) → g k p ≡ after_fragment state f.stencil (c.loop-x.new / 2 ^ 104) p =
    λ p. change_here w state f x y p column (c.requires.covered x c.loop-x.auto.x here) ∙ ap (λ d. after_fragment state f.stencil d p) (sym depth) in
    let next : k + 1 ≡ y * w + (x + 1) = omega arith in
    record {
      new = wide_more c.args.depth.now x y c.loop-x.new i.new;
      few = omega (arith, i.few, c.one_if-passed.ensures.few, c.loop-x.auto.x);
      counted = λ n ps s.
          let sum : n + c.loop-x.passed + c.one_if-passed.result ≡ n + (c.loop-x.passed + c.one_if-passed.result) = omega arith in
          let more : Stand (set c.loop-x.words k c.after_fragment-pixel.result.word) (n + c.loop-x.passed + c.one_if-passed.result) (partly g 0 (k + 1) ps) =
          count_more g k state f.stencil (c.loop-x.new / 2 ^ 104) c.loop-x.words (n + c.loop-x.passed) ps c.after_fragment-pixel.result.word c.one_if-passed.result (i.counted n ps s) inside change c.after_fragment-pixel.ensures.word
          (c.one_if-passed.ensures.value ∙ ap (λ b. if b then 1 else 0) c.after_fragment-pixel.ensures.passes) in
          subst (λ m. Stand (set c.loop-x.words k c.after_fragment-pixel.result.word) m (partly g 0 (y * w + (x + 1)) ps)) sum
          (subst (λ m. Stand (set c.loop-x.words k c.after_fragment-pixel.result.word) (n + c.loop-x.passed + c.one_if-passed.result) (partly g 0 m ps)) next more);
    }

pub returns-clause-counted : goal.returns-clause-counted
returns-clause-counted c =
    let last : c.loop-x.x ≡ c.args.after = omega arith in
    λ n ps s. subst (λ m. Stand c.loop-x.words (n + c.loop-x.passed) (partly (place_change c.args.sides.now.width c.args.tests.now.state (facing_with c.args.tests.now.stencil c.args.setup.now)) 0 (c.args.y * c.args.sides.now.width + m) ps)) last (c.loop-x.invariant.counted n ps s)
