use Rattle.std.proofs.Common.{◌≡◌, ◌≤◌, ◌+◌, ◌*◌, ◌/◌, ◌%◌, ◌^◌, slice_index, max, arith, ap, ◌∙◌}
use Rattle.std.proofs.lemmas.Bool.{ltb-true}
use Rattle.int_raster.proofs.Carried.{short_at, depth_is, four_more, two_and_two, two_on, numbers_more}
use Rattle.int_raster.proofs.Vectors.{below_two}
use Rattle.int_raster.proofs.pieces.depths_by_four.Goals as goal

pub loop-i-preserved : goal.loop-i-preserved
loop-i-preserved c =
    let f = c.args.first in
    let b = c.args.by in
    let i = c.loop-i.invariant in
    let k = 4 * c.loop-i.i in
    let m = 4 * (c.loop-i.i + 1) in
    let next : m ≡ k + 4 = omega arith in
    let behind : m + 2 ≡ k + 2 + 4 = omega arith in
    let top = max (slice_index c.larger-most.result 0) (slice_index c.larger-most.result 2) in
    let even = c.larger.ensures 0 (omega arith) in
    let odd = c.larger.ensures 2 (omega arith) in
    let evens = c.larger-most.ensures 0 (omega arith) in
    let odds = c.larger-most.ensures 2 (omega arith) in
    record {
      front = two_on f b k m c.loop-i.front c.stepped_on-front.result next i.front c.stepped_on-front.ensures;
      back = two_on f b (k + 2) (m + 2) c.loop-i.back c.stepped_on-back-in-loop-i.result behind i.back c.stepped_on-back-in-loop-i.ensures;
      put = numbers_more (λ n. short_at f b n / 2 ^ 40) k m c.loop-i.depths c.put_numbers.new.numbers c.four_depths.result next i.put c.put_numbers.ensures.put c.put_numbers.ensures.others
          (two_and_two (λ j n. slice_index c.four_depths.result j ≡ short_at f b n / 2 ^ 40) k
          (λ j h. c.four_depths.ensures.front j h ∙ ap (λ v. v / 2 ^ 40) (i.front j h))
          (λ j h. c.four_depths.ensures.back j h ∙ ap (λ v. v / 2 ^ 40) (i.back j h)));
      most = four_more (λ n. short_at f b n % 2 ^ 32 ≤ top) k m next
          (λ n h. omega (arith, i.most n h, evens, odds))
          (two_and_two (λ j n. short_at f b n % 2 ^ 32 ≤ top) k
          (below_two (λ j. short_at f b (k + j) % 2 ^ 32 ≤ top)
          (omega (arith, i.front 0 (omega arith), c.halves_of.ensures.lower 0 (omega arith), even, evens))
          (omega (arith, i.front 1 (omega arith), c.halves_of.ensures.lower 1 (omega arith), odd, odds)))
          (below_two (λ j. short_at f b (k + 2 + j) % 2 ^ 32 ≤ top)
          (omega (arith, i.back 0 (omega arith), c.halves_of-in-loop-i.ensures.lower 0 (omega arith), even, evens))
          (omega (arith, i.back 1 (omega arith), c.halves_of-in-loop-i.ensures.lower 1 (omega arith), odd, odds))));
    }

pub returns : goal.returns
returns c true start right k e g l =
    let small = ltb-true _ _ true in
    let few = c.loop-i.invariant.most k (omega (arith, l)) in
    c.loop-i.invariant.put k (omega (arith, l)) ∙ depth_is start right k c.args.first c.args.by e g (omega (arith, l)) (omega (arith, small, few, c.max.ensures))
