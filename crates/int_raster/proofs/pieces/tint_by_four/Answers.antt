use Rattle.std.proofs.Common.{◌≡◌, ◌+◌, ◌-◌, ◌*◌, [], slice_index_or, arith, ap, subst, ◌∙◌}
use Rattle.gfx_model.specs.Number.{byte_product, zip_with}
use Rattle.int_raster.specs.Painted.{shade_at}
use Rattle.int_raster.specs.Tinted.{IsTint}
use Rattle.int_raster.proofs.Carried.{four_more}
use Rattle.int_raster.proofs.Windows.{not_within_low, not_within_high}
use Rattle.int_raster.proofs.pieces.tint_by_four.Goals as goal

pub loop-i-preserved : goal.loop-i-preserved
loop-i-preserved c =
    let p = c.args.piece.now in
    let s = c.args.shade.now in
    let i = c.loop-i.invariant in
    let k = 4 * c.loop-i.i in
    let m = 4 * (c.loop-i.i + 1) in
    let x = p.first + k in
    let next : m ≡ k + 4 = omega arith in
    let four : x + 4 ≡ p.first + m = omega arith in
    let by = c.tint_gain-by.ensures in
    let put = c.put_words.ensures in
    record {
      at = subst (λ n. IsTint c.shades_on.result.1 s n p.y) four (c.shades_on.ensures.next s x p.y i.at by);
      products = four_more (λ n. slice_index_or c.put_words.new.texels n [] ≡ zip_with byte_product (slice_index_or c.args.colors.now n []) (shade_at s (p.first + n) p.y)) k m next
          (λ n h. put.others n (not_within_low k n h) ∙ i.products n h)
          (λ j h.
          let place : x + j ≡ p.first + (k + j) = omega arith in
          let shade = c.shades_on.ensures.colors s x p.y j i.at by h ∙ ap (λ n. shade_at s n p.y) place in
          put.bytes j h ∙ c.four_products.ensures j h
          ∙ (λ t. zip_with byte_product ((c.words_of.ensures.bytes j h ∙ i.others (k + j) (omega arith)) t) (shade t)));
      others = λ n h. put.others n (not_within_high k n (omega (arith, h))) ∙ i.others n (omega (arith, h));
    }

pub returns : goal.returns
returns c x low high =
    let p = c.args.piece.now in
    let k = x - p.first in
    let place : p.first + k ≡ x = omega (arith, low) in
    c.loop-i.invariant.products k (omega (arith, low, high, c.loop-i-test.false))
    ∙ ap (λ n. zip_with byte_product (slice_index_or c.args.colors.now k []) (shade_at c.args.shade.now n p.y)) place
