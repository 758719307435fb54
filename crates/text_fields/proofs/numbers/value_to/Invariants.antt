use Rattle.std.proofs.Common.{◌≡◌, ◌≤◌, drop}
use Rattle.scene_model.specs.Field.{value_onto}
use Rattle.text_fields.proofs.numbers.value_to.Given as goal

abbrev pub invariant-loop-digit : goal.invariant-loop-digit
invariant-loop-digit l = record {
  left : value_onto l.value (drop l.digit-index l.digits) ≡ value_onto 0 l.digits;
  most : l.value ≤ l.high;
}
