use Rattle.std.proofs.Common.{◌≡◌, ◌≤◌, ◌<◌, ℕ, ◌+◌, ◌-◌, ◌*◌, ◌/◌, ◌%◌, ◌^◌, [], slice_index, slice_index_or, arith, ap, sym, ◌∙◌}
use Rattle.std.specs.Prelude.{pos}
use Rattle.gfx_model.specs.Raster.{sample}
use Rattle.int_raster.specs.Tiled.{word_bytes}
use Rattle.int_raster.specs.Sampled.{sampler_seen}
use Rattle.int_raster.proofs.Carried.{position_at, top_of, four_more, two_and_two, four_positions, position_right, lane_texel, lane_low, within_top, top_grows, below_all}
use Rattle.int_raster.proofs.Vectors.{below_two}
use Rattle.int_raster.proofs.Windows.{not_within_low}
use Rattle.int_raster.proofs.pieces.texels_by_four.Goals as goal

pub loop-i-preserved : goal.loop-i-preserved
loop-i-preserved c =
    let s = c.args.piece.now in
    let p = c.args.at.now in
    let t = sampler_seen c.args.sampler.now in
    let i = c.loop-i.invariant in
    let k = 4 * c.loop-i.i in
    let m = 4 * (c.loop-i.i + 1) in
    let next : m ≡ k + 4 = omega arith in
    let b = c.stepped_on-b.ensures in
    let d = c.stepped_on-c.ensures in
    let e = c.stepped_on-d.ensures in
    let a = c.stepped_on-a.ensures in
    let us = four_positions p.u s.first s.y k (slice_index c.loop-i.a 0) (slice_index c.stepped_on-b.result 0) (slice_index c.stepped_on-c.result 0) (slice_index c.stepped_on-d.result 0) (slice_index c.stepped_on-a.result 0) c.middle_bits.result
    i.u c.middle_bits.ensures (b 0 (omega arith)) (d 0 (omega arith)) (e 0 (omega arith)) (a 0 (omega arith)) in
    let vs = four_positions p.v s.first s.y k (slice_index c.loop-i.a 1) (slice_index c.stepped_on-b.result 1) (slice_index c.stepped_on-c.result 1) (slice_index c.stepped_on-d.result 1) (slice_index c.stepped_on-a.result 1) c.middle_bits-2.result
    i.v c.middle_bits-2.ensures (b 1 (omega arith)) (d 1 (omega arith)) (e 1 (omega arith)) (a 1 (omega arith)) in
    let f = c.upper_halves-front.ensures in
    let g = c.upper_halves-back.ensures in
    let w = c.texels_at.ensures in
    let front = c.upper_halves-front.result in
    let back = c.upper_halves-back.result in
    let word = λ (j : ℕ). word_bytes (slice_index c.texels_at.result j) in
    let top = within_top c.parts_of.result c.parts_of-in-loop-i.result c.larger_parts.result c.loop-i.most c.larger_parts-most.result c.larger_parts.ensures c.larger_parts-most.ensures in
    let grows = top_grows c.loop-i.most c.larger_parts.result c.larger_parts-most.result c.larger_parts-most.ensures in
    let lower = c.parts_of.ensures.lower in
    let lower_back = c.parts_of-in-loop-i.ensures.lower in
    record {
      u = us.next ∙ ap (position_at p.u s.first s.y) (sym next);
      v = vs.next ∙ ap (position_at p.v s.first s.y) (sym next);
      put = four_more (λ n. slice_index_or c.put_words.new.texels n [] ≡ sample t (pos (position_at p.u s.first s.y n / 2 ^ 48)) (pos (position_at p.v s.first s.y n / 2 ^ 48))) k m next
          (λ n h. c.put_words.ensures.others n (not_within_low k n h) ∙ i.put n h)
          (λ j h. c.put_words.ensures.bytes j h
          ∙ two_and_two (λ j n. word j ≡ sample t (pos (position_at p.u s.first s.y n / 2 ^ 48)) (pos (position_at p.v s.first s.y n / 2 ^ 48))) k
          (below_two _
          (lane_texel t (word 0) (slice_index front 0) (slice_index front 1) _ _ _ _ (w.front 0 (omega arith)) (f.front 0 (omega arith)) (f.front 1 (omega arith)) us.first_of_all vs.first_of_all)
          (lane_texel t (word 1) (slice_index front 2) (slice_index front 3) _ _ _ _ (w.front 1 (omega arith)) (f.back 0 (omega arith)) (f.back 1 (omega arith)) us.second vs.second))
          (below_two _
          (lane_texel t (word 2) (slice_index back 0) (slice_index back 1) _ _ _ _ (w.back 0 (omega arith)) (g.front 0 (omega arith)) (g.front 1 (omega arith)) us.third vs.third)
          (lane_texel t (word 3) (slice_index back 2) (slice_index back 3) _ _ _ _ (w.back 1 (omega arith)) (g.back 0 (omega arith)) (g.back 1 (omega arith)) us.fourth vs.fourth))
          j h);
      most_u = four_more (λ n. position_at p.u s.first s.y n / 2 ^ 32 % 2 ^ 16 ≤ top_of c.larger_parts-most.result) k m next
          (λ n h. omega (arith, i.most_u n h, grows))
          (two_and_two (λ j n. position_at p.u s.first s.y n / 2 ^ 32 % 2 ^ 16 ≤ top_of c.larger_parts-most.result) k
          (below_two _
          (lane_low (top_of c.larger_parts-most.result) _ _ _ _ us.first_of_all (f.front 0 (omega arith)) (lower 0 (omega arith)) (top 0 (omega arith)).0)
          (lane_low (top_of c.larger_parts-most.result) _ _ _ _ us.second (f.back 0 (omega arith)) (lower 2 (omega arith)) (top 2 (omega arith)).0))
          (below_two _
          (lane_low (top_of c.larger_parts-most.result) _ _ _ _ us.third (g.front 0 (omega arith)) (lower_back 0 (omega arith)) (top 0 (omega arith)).1)
          (lane_low (top_of c.larger_parts-most.result) _ _ _ _ us.fourth (g.back 0 (omega arith)) (lower_back 2 (omega arith)) (top 2 (omega arith)).1)));
      most_v = four_more (λ n. position_at p.v s.first s.y n / 2 ^ 32 % 2 ^ 16 ≤ top_of c.larger_parts-most.result) k m next
          (λ n h. omega (arith, i.most_v n h, grows))
          (two_and_two (λ j n. position_at p.v s.first s.y n / 2 ^ 32 % 2 ^ 16 ≤ top_of c.larger_parts-most.result) k
          (below_two _
          (lane_low (top_of c.larger_parts-most.result) _ _ _ _ vs.first_of_all (f.front 1 (omega arith)) (lower 1 (omega arith)) (top 1 (omega arith)).0)
          (lane_low (top_of c.larger_parts-most.result) _ _ _ _ vs.second (f.back 1 (omega arith)) (lower 3 (omega arith)) (top 3 (omega arith)).0))
          (below_two _
          (lane_low (top_of c.larger_parts-most.result) _ _ _ _ vs.third (g.front 1 (omega arith)) (lower_back 1 (omega arith)) (top 1 (omega arith)).1)
          (lane_low (top_of c.larger_parts-most.result) _ _ _ _ vs.fourth (g.back 1 (omega arith)) (lower_back 3 (omega arith)) (top 3 (omega arith)).1)));
    }

pub returns : goal.returns
returns c true x lo hi =
    let s = c.args.piece.now in
    let p = c.args.at.now in
    let i = c.loop-i.invariant in
    let room = c.have_room.ensures true in
    let top : top_of c.loop-i.most < 65535 = below_all c.loop-i.most room in
    let near : x - s.first < 2 ^ 16 = omega (arith, lo, hi) in
    let inside : x - s.first < 4 * c.loop-i.i = omega (arith, lo, hi, c.loop-i-test.false) in
    let u = position_right p.u s.first s.y x lo near (omega (arith, top, i.most_u (x - s.first) inside)) in
    let v = position_right p.v s.first s.y x lo near (omega (arith, top, i.most_v (x - s.first) inside)) in
    i.put (x - s.first) inside ∙ (λ j. sample (sampler_seen c.args.sampler.now) (pos (u j)) (pos (v j)))
