use Rattle.std.proofs.Common.{◌≡◌, ◌-◌, take}
use Rattle.scene_model.specs.Field.{split_at}
use Rattle.fault_fields.specs.Names.{is_made}
use Rattle.fault_fields.specs.Fields.{lines_before}
use Rattle.fault_fields.proofs.names.is_made.Given as goal

abbrev pub invariant-loop : goal.invariant-loop
invariant-loop l = is_made l.uniforms (take (l.line - l.counter) (split_at 10 l.rest)) l.name ≡ is_made l.uniforms (lines_before l.bytes l.line) l.name
