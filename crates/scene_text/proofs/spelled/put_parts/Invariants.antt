use Rattle.std.proofs.Common.{◌≡◌, ◌++◌, take, map}
use Rattle.spelling_model.specs.FieldSpelling.{part_spelled}
use Rattle.scene_text.specs.Seen.{part_seen}
use Rattle.scene_text.specs.Spelled.{behind}
use Rattle.scene_text.proofs.spelled.put_parts.Given as goal

-- the fields so far
abbrev pub invariant-loop-part : goal.invariant-loop-part
invariant-loop-part l = l.text.items ≡ l.initial.text.items ++ behind (map (λ p. part_spelled (part_seen p)) (take l.part-index l.parts))
