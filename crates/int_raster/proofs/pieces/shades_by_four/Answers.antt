use Rattle.std.proofs.Common.{◌≡◌, ◌+◌, ◌*◌, [], slice_index_or, arith, ap, subst, ◌∙◌}
use Rattle.int_raster.specs.Painted.{shade_at}
use Rattle.int_raster.specs.Tinted.{IsTint}
use Rattle.int_raster.proofs.Carried.{four_more}
use Rattle.int_raster.proofs.Windows.{not_within_low}
use Rattle.int_raster.proofs.pieces.shades_by_four.Goals as goal

pub loop-i-preserved : goal.loop-i-preserved
loop-i-preserved c =
    let p = c.args.piece.now in
    let s = c.args.shade.now in
    let i = c.loop-i.invariant in
    let k = 4 * c.loop-i.i in
    let m = 4 * (c.loop-i.i + 1) in
    let x = p.first + k in
    let next : m ≡ k + 4 = omega arith in
    let four : x + 4 ≡ p.first + m = omega arith in
    let by = c.tint_gain-by.ensures in
    record {
      at = subst (λ n. IsTint c.shades_on.result.1 s n p.y) four (c.shades_on.ensures.next s x p.y i.at by);
      put = four_more (λ n. slice_index_or c.put_words.new.texels n [] ≡ shade_at s (p.first + n) p.y) k m next
          (λ n h. c.put_words.ensures.others n (not_within_low k n h) ∙ i.put n h)
          (λ j h.
          let place : x + j ≡ p.first + (k + j) = omega arith in
          c.put_words.ensures.bytes j h ∙ c.shades_on.ensures.colors s x p.y j i.at by h ∙ ap (λ n. shade_at s n p.y) place);
    }
