use Rattle.std.proofs.Common.{◌≡◌, drop}
use Rattle.scene_model.specs.Field.{read_all, u16_number}
use Rattle.text_fields.specs.Fields.{texts}
use Rattle.scene_text.proofs.Pairs.{with_front}
use Rattle.scene_text.proofs.lists.u16_numbers.Given as goal

abbrev pub invariant-loop-place : goal.invariant-loop-place
invariant-loop-place l = read_all u16_number (drop l.from (texts l.fields)) ≡ with_front l.all.items (read_all u16_number (drop l.place (texts l.fields)))
