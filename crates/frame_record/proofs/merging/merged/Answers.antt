use Rattle.std.proofs.Common.{map, length, slice_index_or, ap, sym, ◌∙◌, arith}
use Rattle.std.proofs.lemmas.List.{length-map}
use Rattle.gfx_model.specs.Frames.{numbered_entries}
use Rattle.draw_encoder.specs.Seen.{number_of}
use Rattle.frame_record.specs.Merged.{pair_of}
use Rattle.frame_record.specs.Seen.{recorded_seen}
use Rattle.frame_record.proofs.EntryLaws.{length_entries}
use Rattle.frame_record.proofs.MergeLaws.{right_there, left_there, all_merged}
use Rattle.frame_record.proofs.StepLaws.{right_step, left_step}
use Rattle.frame_record.proofs.merging.merged.Goals.{then-takes_right+in_ok-push, else-takes_right+in_ok-push-2}
use Rattle.frame_record.proofs.merging.merged.Goals as goal

pub overflow_cast-entry : goal.overflow_cast-entry
overflow_cast-entry c = omega (arith, c.loop.invariant.right, length_entries c.args.recording.now, c.requires.few)

pub offset_bounds-right-beside : goal.offset_bounds-right-beside
offset_bounds-right-beside c = omega (arith, c.loop.invariant.right, length_entries c.args.recording.now, c.requires.few)

pub bounds-right-beside : goal.bounds-right-beside
bounds-right-beside c =
    let there = right_there (map pair_of c.args.left.now) (numbered_entries (recorded_seen c.args.recording.now)) (map pair_of c.loop.all.items) c.loop.at c.loop.beside c.loop.counter c.loop.invariant
    (sym c.takes_right.ensures ∙ c.if-takes_right.true) in
    omega (arith, there, length_entries c.args.recording.now, ap length c.as_slice-right.ensures)

pub bounds-left-at : goal.bounds-left-at
bounds-left-at c =
    let there = left_there (map pair_of c.args.left.now) (numbered_entries (recorded_seen c.args.recording.now)) (map pair_of c.loop.all.items) c.loop.at c.loop.beside c.loop.counter c.loop.invariant
    (omega (arith, c.loop-test.true, length-map c.args.left.now pair_of, length_entries c.args.recording.now, ap length c.as_slice-right.ensures))
    (sym c.takes_right.ensures ∙ c.if-takes_right.false) in
    omega (arith, there, length-map c.args.left.now pair_of)

pub loop-preserved : goal.loop-preserved
loop-preserved c = elim c.if-takes_right.branch [
  | then-takes_right+in_ok-push w ↦ rw (w.all-is, w.at-is, w.beside-is)
      (right_step c.args.left.now c.args.recording.now c.loop.all.items w.push.new.self.items c.loop.at c.loop.beside c.loop.counter w.index-right-beside.result w.number_of.result
      c.loop.invariant c.requires.left c.requires.right (sym c.takes_right.ensures ∙ w.if-takes_right.true)
      (w.number_of.ensures ∙ ap number_of (w.index-right-beside.is ∙ ap (λ xs. slice_index_or xs c.loop.beside w.index-right-beside.result) c.as_slice-right.ensures))
      w.in_ok-push.ensures.items)
  | else-takes_right+in_ok-push-2 w ↦ rw (w.all-is, w.at-is, w.beside-is)
      (left_step c.args.left.now c.args.recording.now c.loop.all.items w.push-else-takes_right.new.self.items c.loop.at c.loop.beside c.loop.counter
      record { number = 0; entry = record { encoder = 0; ordinal = 0 } }
      c.loop.invariant c.requires.left c.requires.right
      (omega (arith, c.loop-test.true, length-map c.args.left.now pair_of, length_entries c.args.recording.now, ap length c.as_slice-right.ensures))
      (sym c.takes_right.ensures ∙ w.if-takes_right.false)
      w.in_ok-push-2.ensures.items)
]

pub returns : goal.returns
returns c =
    all_merged (map pair_of c.args.left.now) (numbered_entries (recorded_seen c.args.recording.now)) (map pair_of c.loop.all.items) c.loop.at c.loop.beside c.loop.counter c.loop.invariant
    (omega (arith, c.loop-test.false, length-map c.args.left.now pair_of, length_entries c.args.recording.now, ap length c.as_slice-right.ensures))
