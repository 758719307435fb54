use Rattle.std.proofs.Common.{◌≡◌, ℕ, List, ◌++◌, map, length, get_or, slice_get, ap, ◌∙◌, arith}
use Rattle.target_tracing.specs.declared.made.TargetMade.{TargetMade}
use Rattle.target_tracing.specs.Seen.{target_made_seen}
use Rattle.pixel_ops.specs.Seen.{pixel_seen}
use Rattle.trace_lines.specs.declared.doers.Doer.{Doer}
use Rattle.trace_lines.specs.Seen.{doer_seen}
use Rattle.trace_lines.specs.Numbered.{line_of}
use Rattle.scene_tracing.specs.Asked.{numbers_told}
use Rattle.target_scenes.specs.Numbered.{numbered_target_line, numbered_target_lines}
use Rattle.target_scenes.proofs.Strokes.{line-more, lines-all}
use Rattle.target_scenes.proofs.lines.target_history_lines.Goals as goal

pub loop-made-preserved : goal.loop-made-preserved
loop-made-preserved c =
    let numbers : List (List ℕ) = numbers_told c.args.numbers.now in
    let ms : List TargetMade = c.args.history.now.made.items in
    let m : TargetMade = c.made-item.result in
    let i : ℕ = c.loop-made.made-index in
    let same : c.deref-made-items.result.now ≡ ms = c.deref-made-items.ensures.value in
    let many : length c.deref-made-items.result.now ≡ length ms = ap length same in
    let before = c.loop-made-test.true in
    line-more numbers (map doer_seen c.args.history.now.doers.items) (pixel_seen c.loop-made.pixel) (pixel_seen c.after_target_stroke-pixel.result) ms i m c.loop-made.text.items c.put_made.new.text.items
    (numbered_target_lines numbers (map doer_seen c.args.history.now.doers.items) (pixel_seen c.args.history.now.before) (map target_made_seen ms))
    (omega (arith, many, before)) (c.made-item.is ∙ ap (λ (xs : List TargetMade). get_or xs i m) same) c.after_target_stroke-pixel.ensures c.loop-made.invariant
    (c.in_ok-put_made.ensures
    ∙ ap (λ (ds : List Doer). c.loop-made.text.items ++ numbered_target_line (target_made_seen m).deed (slice_get (map doer_seen ds) (target_made_seen m).deed) (line_of numbers (slice_get (map doer_seen ds) (target_made_seen m).deed)) (pixel_seen c.loop-made.pixel) (target_made_seen m).stroke)
    c.deref.ensures.value)

pub returns : goal.returns
returns c =
    let ms : List TargetMade = c.args.history.now.made.items in
    let many : length c.deref-made-items.result.now ≡ length ms = ap length c.deref-made-items.ensures.value in
    let last = c.loop-made-test.false in
    lines-all (numbers_told c.args.numbers.now) (map doer_seen c.args.history.now.doers.items) (pixel_seen c.loop-made.pixel) ms c.loop-made.made-index c.loop-made.text.items _ (omega (arith, many, last)) c.loop-made.invariant
