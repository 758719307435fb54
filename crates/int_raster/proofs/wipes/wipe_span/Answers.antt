use Rattle.std.proofs.Common.{rules, ◌≡◌, ◌<◌, ◌+◌, map, arith, ap, ◌∙◌}
use Rattle.gfx_model.specs.Number.{map_from}
use Rattle.gfx_model.specs.World.{cleared_word}
use Rattle.int_raster.specs.Places.{spanned, in_row}
use Rattle.int_raster.specs.Wiping.{wipe_seen, word_in}
use Rattle.int_raster.proofs.Changes.{span_none}
use Rattle.int_raster.proofs.Wiped.{word_more}
use Rattle.int_raster.proofs.wipes.wipe_span.Goals as goal

pub loop-x-init : goal.loop-x-init
loop-x-init c =
    span_none (in_row c.args.span.now.start c.args.span.now.y (λ x y word. cleared_word (wipe_seen c.args.wipe.now).clear word)) (c.args.span.now.start + c.args.span.now.first) (map word_in c.args.depths.now)

pub loop-x-preserved : goal.loop-x-preserved
loop-x-preserved c =
    let s = c.args.span.now in
    let here : c.loop-x.x < s.after = c.loop-x-test.true in
    word_more (λ x y word. cleared_word (wipe_seen c.args.wipe.now).clear word) s.start s.y s.first c.loop-x.x c.args.depths.now c.loop-x.depths c.to_le_bytes.result
    c.loop-x.invariant c.loop-x.auto.x (omega (arith, here, c.requires.inside)) (search rules)

pub returns : goal.returns
returns c =
    let last : c.loop-x.x ≡ c.args.span.now.after = omega arith in
    c.loop-x.invariant
    ∙ ap (λ n. map_from (spanned (in_row c.args.span.now.start c.args.span.now.y (λ x y word. cleared_word (wipe_seen c.args.wipe.now).clear word)) (c.args.span.now.start + c.args.span.now.first) (c.args.span.now.start + n)) 0 (map word_in c.args.depths.now)) last
