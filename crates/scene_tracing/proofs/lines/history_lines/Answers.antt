use Rattle.std.proofs.Common.{◌≡◌, ℕ, List, ◌++◌, map, length, get_or, slice_get, ap, ◌∙◌, arith}
use Rattle.frame_tracing.specs.declared.made.Made.{Made}
use Rattle.frame_tracing.specs.Seen.{made_seen}
use Rattle.pixel_ops.specs.Seen.{pixel_seen}
use Rattle.trace_lines.specs.declared.doers.Doer.{Doer}
use Rattle.trace_lines.specs.Seen.{doer_seen}
use Rattle.trace_lines.specs.Numbered.{line_of, numbered_line, numbered_lines}
use Rattle.scene_tracing.specs.Asked.{numbers_told}
use Rattle.scene_tracing.proofs.Texts.{line-more, lines-all}
use Rattle.scene_tracing.proofs.lines.history_lines.Goals as goal

pub loop-made-preserved : goal.loop-made-preserved
loop-made-preserved c =
    let numbers : List (List ℕ) = numbers_told c.args.numbers.now in
    let ms : List Made = c.args.history.now.made.items in
    let m : Made = c.made-item.result in
    let i : ℕ = c.loop-made.made-index in
    let same : c.deref-made-items.result.now ≡ ms = c.deref-made-items.ensures.value in
    let many : length c.deref-made-items.result.now ≡ length ms = ap length same in
    let before = c.loop-made-test.true in
    line-more numbers (map doer_seen c.args.history.now.doers.items) (pixel_seen c.loop-made.pixel) (pixel_seen c.after_stroke-pixel.result) ms i m c.loop-made.text.items c.put_made.new.text.items
    (numbered_lines numbers (map doer_seen c.args.history.now.doers.items) (pixel_seen c.args.history.now.before) (map made_seen ms))
    (omega (arith, many, before)) (c.made-item.is ∙ ap (λ (xs : List Made). get_or xs i m) same) c.after_stroke-pixel.ensures c.loop-made.invariant
    (c.in_ok-put_made.ensures
    ∙ ap (λ (ds : List Doer). c.loop-made.text.items ++ numbered_line (made_seen m).deed (slice_get (map doer_seen ds) (made_seen m).deed) (line_of numbers (slice_get (map doer_seen ds) (made_seen m).deed)) (pixel_seen c.loop-made.pixel) (made_seen m).stroke)
    c.deref.ensures.value)

pub returns : goal.returns
returns c =
    let ms : List Made = c.args.history.now.made.items in
    let many : length c.deref-made-items.result.now ≡ length ms = ap length c.deref-made-items.ensures.value in
    let last = c.loop-made-test.false in
    lines-all (numbers_told c.args.numbers.now) (map doer_seen c.args.history.now.doers.items) (pixel_seen c.loop-made.pixel) ms c.loop-made.made-index c.loop-made.text.items _ (omega (arith, many, last)) c.loop-made.invariant
