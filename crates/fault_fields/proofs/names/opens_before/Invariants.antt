use Rattle.std.proofs.Common.{◌≡◌, ◌-◌, take, false}
use Rattle.scene_model.specs.Field.{split_at}
use Rattle.fault_fields.specs.Names.{opens_after}
use Rattle.fault_fields.specs.Fields.{lines_before}
use Rattle.fault_fields.proofs.names.opens_before.Given as goal

abbrev pub invariant-loop : goal.invariant-loop
invariant-loop l = opens_after l.opens (take (l.line - l.counter) (split_at 10 l.rest)) ≡ opens_after false (lines_before l.bytes l.line)
