use Rattle.std.proofs.Common.{◌≡◌, take, drop, length, ◌+◌}
use Rattle.scene_model.specs.Field.{read_all, i32_number}
use Rattle.text_fields.specs.Fields.{texts}
use Rattle.scene_text.proofs.Pairs.{with_front}
use Rattle.scene_text.proofs.lists.transform.Given as goal

-- the numbers so far, and those of the rest
abbrev pub invariant-loop-place : goal.invariant-loop-place
invariant-loop-place l = record {
  numbers : read_all i32_number (drop l.from (texts l.fields)) ≡ with_front (take l.place l.m) (read_all i32_number (drop (l.from + l.place) (texts l.fields)));
  length : length l.m ≡ 12;
}
