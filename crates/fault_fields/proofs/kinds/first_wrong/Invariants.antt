use Rattle.std.proofs.Common.{◌≡◌, ◌≤◌, ◌+◌, length}
use Rattle.scene_model.specs.Field.{split_at}
use Rattle.fault_fields.specs.Kinds.{first_wrong}
use Rattle.fault_fields.specs.Fields.{lines_before}
use Rattle.fault_fields.proofs.kinds.first_wrong.Given as goal

abbrev pub invariant-loop-n : goal.invariant-loop-n
invariant-loop-n l = record {
  left : first_wrong (lines_before l.bytes l.line) l.number l.left (split_at 32 l.rest) ≡ first_wrong (lines_before l.bytes l.line) 1 l.kinds (split_at 32 l.fields);
  number : l.number + length l.rest ≤ length l.fields + 1;
}

abbrev pub decreases-loop-n : goal.decreases-loop-n
decreases-loop-n l = length l.rest
