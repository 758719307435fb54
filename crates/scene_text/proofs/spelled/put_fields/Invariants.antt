use Rattle.std.proofs.Common.{◌≡◌, ◌++◌, take, map}
use Rattle.scene_text.specs.Spelled.{spelled, behind}
use Rattle.scene_text.proofs.spelled.put_fields.Given as goal

-- the fields so far
abbrev pub invariant-loop-field : goal.invariant-loop-field
invariant-loop-field l = l.text.items ≡ l.initial.text.items ++ behind (map spelled (take l.field-index l.fields))
