-- The field at which a line fails, by its cause.
use Rattle.std.specs.Prelude.{ℕ, ◌-◌, false, ◌&&◌, ◌==◌, if◌then◌else◌, List, [], ◌∷◌, take, Option, Some, None, slice_index_or, bytes_eq, codes}
use Rattle.scene_model.specs.Field.{split_at, bad_byte, ends_early, unknown_word, misplaced_word, wrong_field_count}
use Rattle.scene_model.specs.Grammar.{Field, field}
use Rattle.fault_fields.specs.Names.{opens_after}
use Rattle.fault_fields.specs.Kinds.{first_wrong}
use Rattle.fault_fields.specs.Forms.{line_kinds}
use Rattle.fault_fields.specs.declared.kind.Kind.{Kind}
use Rattle.fault_fields.specs.declared.kind.Kind.TheVariants as kinds

-- the lines of a text before one of them
abbrev pub lines_before : List ℕ → (line : ℕ) → List (List ℕ)
lines_before bytes line = take (line - 1) (split_at 10 bytes)

-- a line of a text, counted from 1
abbrev pub line_at : List ℕ → (line : ℕ) → List ℕ
line_at bytes line = slice_index_or (split_at 10 bytes) (line - 1) []

-- the field of a word that can't stand: an encoder's number where a block can begin, else the word
abbrev pub misplaced_field : List (List ℕ) → List Field → ℕ
misplaced_field before fs = if bytes_eq (codes "encoder") (field fs 0) && opens_after false before then 2 else 1

-- what the fields of a line must be that fails for a cause
abbrev pub kinds_for : (cause : ℕ) → List Field → List Kind
kinds_for cause fs =
    if cause == bad_byte then kinds.Text ∷ []
    else (if cause == wrong_field_count then kinds.Filled ∷ [] else line_kinds (field fs 0) (field fs 2))

-- the first field where no field is wrong by itself: the line fails as a whole
abbrev pub or_first : Option ℕ → ℕ
or_first None = 1
or_first (Some n) = n

-- the number, counted from 1, of the field at which a line fails for a cause, behind some lines
abbrev pub field_of : List (List ℕ) → List Field → (cause : ℕ) → ℕ
field_of before fs cause =
    if cause == unknown_word then 1
    else (if cause == misplaced_word then misplaced_field before fs else or_first (first_wrong before 1 (kinds_for cause fs) fs))

-- the number of the field at which a text fails in a line for a cause; none where the text ends early
abbrev pub fault_field : List ℕ → (line cause : ℕ) → Option ℕ
fault_field bytes line cause = if cause == ends_early then None else Some (field_of (lines_before bytes line) (split_at 32 (line_at bytes line)) cause)
