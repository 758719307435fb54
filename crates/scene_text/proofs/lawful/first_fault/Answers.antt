use Rattle.std.proofs.Common.{◌≡◌, ◌≤◌, ◌+◌, length, map, drop, ap, sym, ◌∙◌, arith}
use Rattle.std.proofs.lemmas.List.{length-map}
use Rattle.scene_text.specs.Journals.{entry_count, fault_from}
use Rattle.scene_text.specs.Seen.{entry_seen}
use Rattle.scene_text.proofs.FaultPlaces.{shifted, surplus_frame, missing_frame, frame_refused, frame_taken, frame_length, fault_same, frame_room}
use Rattle.scene_text.proofs.lawful.first_fault.Goals as goal

pub returns-in_default : goal.returns-in_default
returns-in_default c =
    surplus_frame c.args.accepted.now (map (map entry_seen) c.args.frames.now) c.loop-index.index c.loop-index.place _ c.in_default.ensures.lookup.3 (omega (arith, c.loop-index-test.true, length-map c.args.frames.now (map entry_seen))) c.loop-index.invariant.left

-- a fault within a frame is within the journal
within : (c : goal.In-Some-frame_fault) → c.loop-index.place + c.in-Some-frame_fault.fault ≤ 4294967294
within c = omega (arith, c.in-Some-frame_fault.ensures.within, ap length c.as_slice.ensures, frame_room c.args.frames.now c.loop-index.index c.loop-index.place c.index-frames-index.result c.loop-index-test.true c.index-frames-index.is c.loop-index.invariant.entries, c.requires)

pub overflow_cast-result : goal.overflow_cast-result
overflow_cast-result c = omega (arith, within c)

pub overflow_add-result : goal.overflow_add-result
overflow_add-result c = omega (arith, within c)

pub returns-in-Some-frame_fault : goal.returns-in-Some-frame_fault
returns-in-Some-frame_fault c =
    frame_refused c.args.accepted.now (map (map entry_seen) c.args.frames.now) c.loop-index.index c.loop-index.place c.in-Some-frame_fault.fault _ c.in-Some.ensures.lookup.3.0 (omega (arith, c.loop-index-test.true, length-map c.args.frames.now (map entry_seen)))
    (fault_same c.args.accepted.now c.args.frames.now c.loop-index.index _ c.index-frames-index.result c.as_slice.result.now _ c.in-Some-frame_fault.ensures.value (c.as_slice-in-loop-index.ensures ∙ c.in-Some.ensures.lookup.3.1 _) c.as_slice.ensures c.loop-index-test.true c.index-frames-index.is)
    c.loop-index.invariant.left

-- the entries of a frame are within the journal
room : (c : goal.After-as_slice-in-loop-index-2) → c.loop-index.place + length c.as_slice-in-loop-index-2.result.now + entry_count (drop (c.loop-index.index + 1) (map (map entry_seen) c.args.frames.now)) ≡ entry_count (map (map entry_seen) c.args.frames.now)
room c = ap (λ n. c.loop-index.place + n + entry_count (drop (c.loop-index.index + 1) (map (map entry_seen) c.args.frames.now))) (ap length c.as_slice-in-loop-index-2.ensures) ∙ frame_room c.args.frames.now c.loop-index.index c.loop-index.place c.index-frames-index.result c.loop-index-test.true c.index-frames-index.is c.loop-index.invariant.entries

pub overflow_cast-place : goal.overflow_cast-place
overflow_cast-place c = omega (arith, room c, c.requires)

pub overflow_add-place : goal.overflow_add-place
overflow_add-place c = omega (arith, room c, c.requires)

pub loop-index-preserved : goal.loop-index-preserved
loop-index-preserved c = record {
  left =
      ap (λ n. shifted (c.loop-index.place + n) (fault_from (drop (c.loop-index.index + 1) c.args.accepted.now) (drop (c.loop-index.index + 1) (map (map entry_seen) c.args.frames.now)))) (ap length c.as_slice-in-loop-index-2.ensures ∙ sym (frame_length c.args.frames.now c.loop-index.index c.index-frames-index.result c.loop-index-test.true c.index-frames-index.is))
      ∙ frame_taken c.args.accepted.now (map (map entry_seen) c.args.frames.now) c.loop-index.index c.loop-index.place _ c.in-Some.ensures.lookup.3.0 (omega (arith, c.loop-index-test.true, length-map c.args.frames.now (map entry_seen)))
      (fault_same c.args.accepted.now c.args.frames.now c.loop-index.index _ c.index-frames-index.result c.as_slice.result.now _ c.in_default-frame_fault.ensures.value (c.as_slice-in-loop-index.ensures ∙ c.in-Some.ensures.lookup.3.1 _) c.as_slice.ensures c.loop-index-test.true c.index-frames-index.is)
      c.loop-index.invariant.left;
  entries = room c;
}

pub returns-then-frames-accepted : goal.returns-then-frames-accepted
returns-then-frames-accepted c =
    missing_frame c.args.accepted.now (map (map entry_seen) c.args.frames.now) c.loop-index.index c.loop-index.place _ (omega (arith, c.loop-index.auto.index-end, c.if-frames-accepted.true)) (omega (arith, c.loop-index-test.false, length-map c.args.frames.now (map entry_seen))) c.loop-index.invariant.left
