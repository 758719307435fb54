use Rattle.std.proofs.Common.{◌≡◌, ◌/◌, ◌%◌, ◌^◌, arith, ap, ◌∙◌}
use Rattle.std.specs.Prelude.{pos}
use Rattle.gfx_model.specs.Raster.{sample}
use Rattle.fix_math.specs.Seen.{texels_seen}
use Rattle.int_raster.proofs.Ramped.{wide_more}
use Rattle.int_raster.specs.Painted.{place_at}
use Rattle.int_raster.proofs.Held.{held_none, held_more, held_all}
use Rattle.int_raster.proofs.pieces.texture_piece.Goals as goal

pub returns-then-texels_by_four : goal.returns-then-texels_by_four
returns-then-texels_by_four c x lo hi =
    let y = c.args.piece.now.y in
    c.texels_by_four.ensures c.if-texels_by_four.true x lo hi
    ∙ (λ j. sample (c.sampler_of-sampler.ensures j) (pos (place_at c.args.at.now.u x y)) (pos (place_at c.args.at.now.v x y)))

pub loop-x-init : goal.loop-x-init
loop-x-init c = record {
  u = c.wide_value_at-u.ensures;
  v = c.wide_value_at-v.ensures;
  held = held_none (λ x. sample (texels_seen c.args.texels.now) (pos (place_at c.args.at.now.u x c.args.piece.now.y)) (pos (place_at c.args.at.now.v x c.args.piece.now.y))) c.args.piece.now.first c.texels_by_four.new.colors;
}

pub loop-x-preserved : goal.loop-x-preserved
loop-x-preserved c =
    let s = c.args.piece.now in
    let p = c.args.at.now in
    let t = texels_seen c.args.texels.now in
    let i = c.loop-x.invariant in
    let u : c.unit_part-column.result ≡ place_at p.u c.loop-x.x s.y = c.unit_part-column.ensures.part ∙ ap (λ n. n / 2 ^ 104 % 65536) i.u in
    let v : c.unit_part-row.result ≡ place_at p.v c.loop-x.x s.y = c.unit_part-row.ensures.part ∙ ap (λ n. n / 2 ^ 104 % 65536) i.v in
    record {
      u = wide_more p.u c.loop-x.x s.y c.loop-x.u i.u;
      v = wide_more p.v c.loop-x.x s.y c.loop-x.v i.v;
      held = held_more (λ x. sample t (pos (place_at p.u x s.y)) (pos (place_at p.v x s.y))) s.first c.loop-x.x c.loop-x.colors c.texel_at.result i.held c.loop-x.auto.x
          (omega (arith, c.loop-x-test.true, c.loop-x.auto.colors, c.loop-x.auto.x, c.requires.room))
          (c.texel_at.ensures ∙ (λ j. sample (c.sampler_of-sampler.ensures j) (pos c.unit_part-column.result) (pos c.unit_part-row.result)) ∙ (λ j. sample t (pos (u j)) (pos (v j))));
    }

pub returns : goal.returns
returns c = held_all (λ x. sample (texels_seen c.args.texels.now) (pos (place_at c.args.at.now.u x c.args.piece.now.y)) (pos (place_at c.args.at.now.v x c.args.piece.now.y))) c.args.piece.now.first c.loop-x.x c.args.piece.now.after c.loop-x.colors c.loop-x.invariant.held (omega arith)
