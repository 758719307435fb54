-- The line of a text that is no scene.
use Rattle.std.specs.Prelude.{ℕ, List, ◌++◌, Option, Some, None, decimal, codes}
use Rattle.scene_model.specs.Grammar.{Fault}
use Rattle.fault_fields.specs.Fields.{fault_field}

-- the end of the line: the field, where there is one
abbrev pub in_field : Option ℕ → List ℕ
in_field None = codes "\n"
in_field (Some k) = codes " in field " ++ (decimal k ++ codes "\n")

-- the line of a text that is refused at a line, for a cause, in a field
abbrev pub refusal_line : (line cause : ℕ) → (field : Option ℕ) → List ℕ
refusal_line line cause field = codes "scene refused at line " ++ (decimal line ++ (codes " for cause " ++ (decimal cause ++ in_field field)))

-- the line of a text by its fault: where and why it is refused, and in which field
abbrev pub told_fault : List ℕ → Fault → List ℕ
told_fault bytes fault = refusal_line fault.line fault.cause (fault_field bytes fault.line fault.cause)
