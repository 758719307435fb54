use Rattle.std.proofs.Common.{nat_lt, slice_index_or, length, ap, ◌∙◌, arith}
use Rattle.draw_encoder.specs.Seen.{number_of}
use Rattle.frame_record.proofs.TakeLaws.{no_right, no_left, both}
use Rattle.frame_record.proofs.merging.takes_right.Goals as goal

pub returns-then-beside-right : goal.returns-then-beside-right
returns-then-beside-right c =
    no_right c.args.left.now c.args.recording.now c.args.at c.args.beside (omega (arith, c.if-beside-right.true, ap length c.as_slice-right.ensures))

pub returns-then-at-left : goal.returns-then-at-left
returns-then-at-left c =
    no_left c.args.left.now c.args.recording.now c.args.at c.args.beside (omega (arith, c.if-at-left.true)) (omega (arith, c.if-beside-right.false, ap length c.as_slice-right.ensures))

pub returns : goal.returns
returns c =
    ap (λ n. nat_lt n (slice_index_or c.args.left.now c.args.at record { number = 0; entry = record { encoder = 0; ordinal = 0 } }).number)
    (c.number_of.ensures ∙ ap number_of (c.index-right-beside.is ∙ ap (λ xs. slice_index_or xs c.args.beside c.index-right-beside.result) c.as_slice-right.ensures))
    ∙ both c.args.left.now c.args.recording.now c.args.at c.args.beside record { number = 0; entry = record { encoder = 0; ordinal = 0 } } c.index-right-beside.result
    (omega (arith, c.if-at-left.false)) (omega (arith, c.if-beside-right.false, ap length c.as_slice-right.ensures))
