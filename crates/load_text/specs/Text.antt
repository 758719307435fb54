-- The text of a load: which bytes are which load, or the first line that fails.
use Rattle.std.specs.Prelude.{ℕ, ◌+◌, ◌-◌, Bool, true, false, ◌==◌, if◌then◌else◌, List, [], ◌∷◌, ◌++◌, length, Option, Some, None, Result, Ok, Err, bytes_eq, codes}
use Rattle.gfx_model.specs.Words.{ProgramKind, UniformKind}
use Rattle.scene_model.specs.Field.{Read, split_at, number_in, word_in, programs, uniform_kinds, BoundName, used_name, create_name}
use Rattle.scene_model.specs.Grammar.{Field, field, is_skipped, on_last}
use Rattle.load_text.specs.Loads.{BlockLine, program_line, uniform_line, destroy_line, frame_line, Block}

infixl 10 ◌>>=◌
-- what is read, handed on; what is refused stays so
abbrev pub ◌>>=◌ : {A B : Type 0} → Option A → (A → Option B) → Option B
(Some x) >>= f = f x
None >>= f = None

-- what is read, without the cause of a refusal
abbrev pub some_read : {A : Type 0} → Read A → Option A
some_read (Ok x) = Some x
some_read (Err cause) = None

-- nothing, where the test holds
abbrev pub when : Bool → Option Bool
when true = Some true
when false = None

-- ---- fields

-- the first field is a word
abbrev pub is_word : List ℕ → List Field → Bool
is_word word fs = bytes_eq word (field fs 0)

-- there are so many fields
abbrev pub has_count : ℕ → List Field → Option Bool
has_count n fs = when (length fs == n)

-- a number from low up to high
unfoldable pub number : ℕ → ℕ → Field → Option ℕ
number low high f = some_read (number_in low high f)

-- the kind of a program
unfoldable pub program_word : Field → Option ProgramKind
program_word f = some_read (word_in programs f)

-- the kind of a uniform
unfoldable pub uniform_word : Field → Option UniformKind
uniform_word f = some_read (word_in uniform_kinds f)

-- the names without the place of the new one
abbrev pub names_read : Read (ℕ × List BoundName) → Option (List BoundName)
names_read (Ok r) = Some r.1
names_read (Err cause) = None

-- the names of a block with a new one, which is not bound yet
unfoldable pub with_name : List BoundName → Field → Option (List BoundName)
with_name names f = names_read (create_name names false f)

-- the place of a name that is bound: which create line of the block has it
unfoldable pub place_of : List BoundName → Field → Option ℕ
place_of names f = some_read (used_name names f)

-- ---- the order of lines

-- where in the order of lines a text stands
pub data Stage : Type 0 where
  at_front : Stage
  at_callers : Stage
  at_first_block : Stage
  in_block : (caller : ℕ) → Stage
  at_end : Stage

-- the stage, how many callers there are, the names of the last block, and the blocks
pub record Reading : Type 0 where
  pub stage : Stage
  pub callers : ℕ
  pub names : List BoundName
  pub blocks : List Block

-- before the first line
abbrev pub nothing_read : Reading
nothing_read = record { stage = at_front; callers = 0; names = []; blocks = [] }

-- a line more behind those of a block
abbrev pub with_one : BlockLine → Block → Block
with_one l b = record b { lines = b.lines ++ l ∷ [] }

-- a line more in the last block
abbrev pub with_line : BlockLine → Reading → Reading
with_line l r = record r { blocks = on_last (with_one l) r.blocks }

-- behind `load 1`
unfoldable pub front_after : Reading → List Field → Option Reading
front_after r fs = when (is_word (codes "load") fs) >>= λ _. has_count 2 fs >>= λ _. number 1 1 (field fs 1) >>= λ _. Some (record r { stage = at_callers })

-- behind `callers N`
unfoldable pub callers_after : Reading → List Field → Option Reading
callers_after r fs =
    when (is_word (codes "callers") fs) >>= λ _. has_count 2 fs >>= λ _. number 1 8 (field fs 1) >>= λ n. Some (record r { stage = at_first_block; callers = n })

-- behind `caller C`, where C is not below a number and below the number of callers; a block begins without names
unfoldable pub caller_after : (low : ℕ) → Reading → List Field → Option Reading
caller_after low r fs =
    has_count 2 fs >>= λ _. number low (r.callers - 1) (field fs 1)
    >>= λ c. Some (record r { stage = in_block c; names = []; blocks = r.blocks ++ record { caller = c; lines = [] } ∷ [] })

-- behind `done`
unfoldable pub done_after : Reading → List Field → Option Reading
done_after r fs = has_count 1 fs >>= λ _. Some (record r { stage = at_end })

-- behind a line between blocks: the next block's number is not below a number
unfoldable pub between_after : (low : ℕ) → Reading → List Field → Option Reading
between_after low r fs = if is_word (codes "caller") fs then caller_after low r fs else (if is_word (codes "done") fs then done_after r fs else None)

-- behind `program NAME KIND`
unfoldable pub program_after : Reading → List Field → Option Reading
program_after r fs =
    has_count 3 fs >>= λ _. with_name r.names (field fs 1) >>= λ names. program_word (field fs 2) >>= λ k. Some (with_line (program_line k) (record r { names = names }))

-- behind `uniform NAME KIND`
unfoldable pub uniform_after : Reading → List Field → Option Reading
uniform_after r fs =
    has_count 3 fs >>= λ _. with_name r.names (field fs 1) >>= λ names. uniform_word (field fs 2)
    >>= λ k. Some (with_line (uniform_line (field fs 1) k) (record r { names = names }))

-- behind `destroy NAME`
unfoldable pub destroy_after : Reading → List Field → Option Reading
destroy_after r fs = has_count 2 fs >>= λ _. place_of r.names (field fs 1) >>= λ n. Some (with_line (destroy_line n) r)

-- behind `frame`, which caller 0 alone has
unfoldable pub frame_after : (caller : ℕ) → Reading → List Field → Option Reading
frame_after caller r fs = when (caller == 0) >>= λ _. has_count 1 fs >>= λ _. Some (with_line frame_line r)

-- behind a line where the last block is a caller's: a line of the block, or one that ends it
unfoldable pub block_after : (caller : ℕ) → Reading → List Field → Option Reading
block_after caller r fs =
    if is_word (codes "program") fs then program_after r fs
    else (if is_word (codes "uniform") fs then uniform_after r fs
    else (if is_word (codes "destroy") fs then destroy_after r fs
    else (if is_word (codes "frame") fs then frame_after caller r fs else between_after (caller + 1) r fs)))

-- behind a line by the stage
abbrev pub after_fields : Stage → Reading → List Field → Option Reading
after_fields at_front r fs = front_after r fs
after_fields at_callers r fs = callers_after r fs
after_fields at_first_block r fs = between_after 0 r fs
after_fields (in_block caller) r fs = block_after caller r fs
after_fields at_end r fs = None

-- behind a line: its fields stand between blanks; an empty line and one that begins with `#` are passed over
abbrev pub after_line : Reading → List ℕ → Option Reading
after_line r line = if is_skipped line then Some r else after_fields r.stage r (split_at 32 line)

-- ---- whole texts

-- whether a text may end here
abbrev pub is_complete : Stage → Bool
is_complete at_end = true
is_complete _ = false

-- what no newline ends is no line, so nothing stands there where the text ends behind `done`
abbrev pub at_last_piece : ℕ → Reading → List ℕ → Result (List Block) ℕ
at_last_piece n r [] = if is_complete r.stage then Ok r.blocks else Err n
at_last_piece n r (b ∷ bs) = Err n

-- the pieces between the newlines from line n on; the line before it fails where nothing is read
abbrev pub read_pieces : ℕ → Option Reading → List (List ℕ) → Result (List Block) ℕ
read_pieces n None pieces = Err (n - 1)
read_pieces n (Some r) [] = Err n
read_pieces n (Some r) (p ∷ []) = at_last_piece n r p
read_pieces n (Some r) (p ∷ q ∷ rest) = read_pieces (n + 1) (after_line r p) (q ∷ rest)

-- the blocks of the load that the bytes are, or the first line that fails, counted from 1
abbrev pub load_of : List ℕ → Result (List Block) ℕ
load_of bytes = read_pieces 1 (Some nothing_read) (split_at 10 bytes)
