use Rattle.std.proofs.Common.{◌≡◌, ◌<◌, ◌+◌, ◌/◌, ◌^◌, [], slice_index_or, arith, ap, ◌∙◌}
use Rattle.gfx_model.specs.Number.{map_from}
use Rattle.int_raster.specs.Places.{deep_pixels, spanned, in_row}
use Rattle.int_raster.specs.Seen.{step_seen}
use Rattle.int_raster.proofs.Changes.{span_none}
use Rattle.int_raster.proofs.Along.{deep_more}
use Rattle.int_raster.proofs.Ramped.{ramp_more}
use Rattle.int_raster.proofs.Tested.{plain_deep}
use Rattle.int_raster.proofs.deep_spans.fill_each.Goals as goal

pub loop-x-init : goal.loop-x-init
loop-x-init c = record {
  new = c.value_at-new.ensures;
  done = span_none (in_row c.args.span.now.start c.args.span.now.y (step_seen c.args.draw.now c.args.setup.now)) (c.args.span.now.start + c.args.span.now.first) (deep_pixels c.args.colors.now c.args.depths.now);
}

pub loop-x-preserved : goal.loop-x-preserved
loop-x-preserved c =
    let s = c.args.span.now in
    let i = c.loop-x.invariant in
    let here : c.loop-x.x < s.after = c.loop-x-test.true in
    let old = slice_index_or c.loop-x.colors (s.start + c.loop-x.x) [] in
    let before = slice_index_or c.loop-x.depths (s.start + c.loop-x.x) [] in
    record {
      new = ramp_more c.args.depth.now c.loop-x.x s.y c.loop-x.new i.new;
      done = deep_more (step_seen c.args.draw.now c.args.setup.now) s.start s.y s.first c.loop-x.x c.args.colors.now c.loop-x.colors c.args.depths.now c.loop-x.depths c.stored_after-after.result.color c.word_texel.result
          i.done c.loop-x.auto.x (omega (arith, here, c.requires.inside)) c.requires.same c.loop-x.auto.colors c.loop-x.auto.depths
          (plain_deep c.args.rule.now c.args.draw.now c.args.setup.now c.loop-x.x s.y c.depth_word-word.result c.stored_after-after.result.word (c.loop-x.new / 2 ^ 40) c.args.color old c.stored_after-after.result.color before c.word_texel.result c.requires.plain
          c.depth_word-word.ensures c.word_texel.ensures
          (c.requires.paints c.loop-x.x c.loop-x.auto.x here)
          (ap (λ n. n / 2 ^ 40) i.new ∙ c.requires.depths c.loop-x.x c.loop-x.auto.x here)
          (c.stored_after-after.ensures c.args.draw.now.state c.requires.plain.opaque c.requires.plain.rule));
    }

pub returns : goal.returns
returns c =
    let last : c.loop-x.x ≡ c.args.span.now.after = omega arith in
    c.loop-x.invariant.done
    ∙ ap (λ n. map_from (spanned (in_row c.args.span.now.start c.args.span.now.y (step_seen c.args.draw.now c.args.setup.now)) (c.args.span.now.start + c.args.span.now.first) (c.args.span.now.start + n)) 0 (deep_pixels c.args.colors.now c.args.depths.now)) last
