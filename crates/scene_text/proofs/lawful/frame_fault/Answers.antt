use Rattle.std.proofs.Common.{refl, ◌∙◌, arith}
use Rattle.std.proofs.lemmas.List.{length-set}
use Rattle.scene_text.proofs.FaultPlaces.{none_taken, entry_refused, entry_passes, taken_next}
use Rattle.scene_text.proofs.lawful.frame_fault.Goals as goal

pub loop-place-init : goal.loop-place-init
loop-place-init c = record { left = refl; taken = none_taken 256; length = refl }

pub returns-then-not-can_stand : goal.returns-then-not-can_stand
returns-then-not-can_stand c = record {
  value = entry_refused c.args.counts.now c.loop-place.taken c.args.entries.now c.loop-place.place _ c.can_stand.result _ c.loop-place-test.true c.loop-place.invariant.taken c.can_stand.ensures.byte c.can_stand.ensures.value c.if-not-can_stand.true c.loop-place.invariant.left;
  within = omega (arith, c.loop-place-test.true);
}

pub overflow_add-taken : goal.overflow_add-taken
overflow_add-taken c = omega (arith, c.can_stand.ensures.small c.if-not-can_stand.false)

pub loop-place-preserved : goal.loop-place-preserved
loop-place-preserved c = record {
  left = entry_passes c.args.counts.now c.loop-place.taken c.args.entries.now c.loop-place.place _ c.can_stand.result _ c.loop-place-test.true c.loop-place.invariant.taken c.can_stand.ensures.byte c.can_stand.ensures.value c.if-not-can_stand.false c.loop-place.invariant.left;
  taken = taken_next c.args.counts.now c.loop-place.taken c.args.entries.now c.loop-place.place _ c.can_stand.result c.loop-place-test.true c.loop-place.invariant.length c.loop-place.invariant.taken c.can_stand.ensures.byte c.can_stand.ensures.value c.if-not-can_stand.false;
  length = length-set c.loop-place.taken _ _ ∙ c.loop-place.invariant.length;
}
