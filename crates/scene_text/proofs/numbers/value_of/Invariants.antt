use Rattle.std.proofs.Common.{◌≡◌, ◌≤◌, take, drop, true}
use Rattle.std.specs.List.{list_all}
use Rattle.scene_model.specs.Field.{is_digit, value_onto}
use Rattle.scene_text.proofs.numbers.value_of.Given as goal

abbrev pub invariant-loop-digit : goal.invariant-loop-digit
invariant-loop-digit l = record {
  left : value_onto l.value (drop l.digit-index l.field) ≡ value_onto 0 l.field;
  most : l.value ≤ l.high;
  digits : list_all is_digit (take l.digit-index l.field) ≡ true;
}
