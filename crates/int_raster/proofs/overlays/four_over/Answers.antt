use Rattle.std.proofs.Common.{◌≡◌, ◌<◌, ◌+◌, ◌*◌, ◌/◌, ◌%◌, [], ◌∷◌, slice_index, arith, ◌∙◌}
use Rattle.pixel_ops.specs.Blended.{over_byte}
use Rattle.pixel_ops.proofs.Pairs.{over_is}
use Rattle.int_raster.proofs.overlays.four_over.Goals as goal

pub returns : goal.returns
returns c j h =
    let l : 2 * j < 8 = omega (arith, h) in
    let u : 2 * j + 1 < 8 = omega (arith, h) in
    let s = slice_index c.args.new j in
    let d = slice_index c.args.old j in
    let sl = c.parts_of-new.ensures.lower j h in
    let su = c.parts_of-new.ensures.upper j h in
    let dl = c.parts_of-old.ensures.lower j h in
    let du = c.parts_of-old.ensures.upper j h in
    let s0 : slice_index c.even_parts.result (2 * j) ≡ s % 256 = omega (arith, c.even_parts.ensures.byte (2 * j) l, sl) in
    let s1 : slice_index c.odd_parts-high.result (2 * j) ≡ s / 256 % 256 = omega (arith, c.odd_parts-high.ensures.byte (2 * j) l, sl) in
    let s2 : slice_index c.even_parts.result (2 * j + 1) ≡ s / 65536 % 256 = omega (arith, c.even_parts.ensures.byte (2 * j + 1) u, su) in
    let s3 : slice_index c.odd_parts-high.result (2 * j + 1) ≡ s / 16777216 % 256 = omega (arith, c.odd_parts-high.ensures.byte (2 * j + 1) u, c.odd_parts-high.ensures.few (2 * j + 1) u, su) in
    let d0 : slice_index c.even_parts-2.result (2 * j) ≡ d % 256 = omega (arith, c.even_parts-2.ensures.byte (2 * j) l, dl) in
    let d1 : slice_index c.odd_parts.result (2 * j) ≡ d / 256 % 256 = omega (arith, c.odd_parts.ensures.byte (2 * j) l, dl) in
    let d2 : slice_index c.even_parts-2.result (2 * j + 1) ≡ d / 65536 % 256 = omega (arith, c.even_parts-2.ensures.byte (2 * j + 1) u, du) in
    let d3 : slice_index c.odd_parts.result (2 * j + 1) ≡ d / 16777216 % 256 = omega (arith, c.odd_parts.ensures.byte (2 * j + 1) u, c.odd_parts.ensures.few (2 * j + 1) u, du) in
    let low = c.alphas_of-alphas.ensures.lower j h ∙ s3 in
    let high = c.alphas_of-alphas.ensures.upper j h ∙ s3 in
    let a = s / 16777216 % 256 in
    let few : (n : _) → n % 256 < 256 = λ n. omega arith in
    c.colors_of.ensures j h
    ∙ (λ i. (c.over_parts-even.ensures.over (2 * j) l ∙ (λ k. over_byte (s0 k) (d0 k) (low k)) ∙ over_is (s % 256) (d % 256) a (few s) (few d) (few (s / 16777216))) i
    ∷ (c.over_parts-odd.ensures.over (2 * j) l ∙ (λ k. over_byte (s1 k) (d1 k) (low k)) ∙ over_is (s / 256 % 256) (d / 256 % 256) a (few (s / 256)) (few (d / 256)) (few (s / 16777216))) i
    ∷ (c.over_parts-even.ensures.over (2 * j + 1) u ∙ (λ k. over_byte (s2 k) (d2 k) (high k)) ∙ over_is (s / 65536 % 256) (d / 65536 % 256) a (few (s / 65536)) (few (d / 65536)) (few (s / 16777216))) i
    ∷ (c.over_parts-odd.ensures.over (2 * j + 1) u ∙ (λ k. over_byte (s3 k) (d3 k) (high k)) ∙ over_is a (d / 16777216 % 256) a (few (s / 16777216)) (few (d / 16777216)) (few (s / 16777216))) i ∷ [])
