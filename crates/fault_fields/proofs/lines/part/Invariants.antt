use Rattle.std.proofs.Common.{◌≡◌, ◌≤◌, ◌-◌, length}
use Rattle.scene_model.specs.Field.{split_at}
use Rattle.scene_model.specs.Grammar.{field}
use Rattle.fault_fields.proofs.lines.part.Given as goal

abbrev pub invariant-loop : goal.invariant-loop
invariant-loop l = record {
  is : field (split_at l.separator l.rest) (l.place - l.counter) ≡ field (split_at l.separator l.bytes) l.place;
  few : length l.rest ≤ length l.bytes;
}
