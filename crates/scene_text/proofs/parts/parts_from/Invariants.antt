use Rattle.std.proofs.Common.{◌≡◌, drop, map}
use Rattle.scene_model.specs.Field.{read_all, part_field}
use Rattle.text_fields.specs.Fields.{texts}
use Rattle.scene_text.specs.Seen.{part_seen}
use Rattle.scene_text.proofs.Pairs.{with_front}
use Rattle.scene_text.proofs.parts.parts_from.Given as goal

abbrev pub invariant-loop-place : goal.invariant-loop-place
invariant-loop-place l = read_all part_field (drop l.from (texts l.fields)) ≡ with_front (map part_seen l.all.items) (read_all part_field (drop l.place (texts l.fields)))
