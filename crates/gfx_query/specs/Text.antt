-- The text of a query script: which bytes are which script, or the first line that fails.
use Rattle.std.specs.Prelude.{ℕ, ◌+◌, ◌*◌, ◌%◌, ◌-◌, ◌^◌, Bool, true, false, ◌==◌, nat_lt, if◌then◌else◌, List, [], ◌∷◌, ◌++◌, length, Option, Some, None, Result, Ok, Err, bytes_eq, codes}
use Rattle.gfx_model.specs.Words.{is_state_word, is_stencil_word}
use Rattle.scene_model.specs.Field.{Read, split_at, number_in, is_dash, hex_bytes}
use Rattle.scene_model.specs.Grammar.{Field, field, is_skipped, on_last}
use Rattle.gfx_query.specs.Queries.{Condition, always, where_seen, where_unseen, Draw, Step, clear_step, state_step, stencil_step, draw_step, Script}

infixl 10 ◌>>=◌
-- what is read, handed on; what is refused stays so
abbrev pub ◌>>=◌ : {A B : Type 0} → Option A → (A → Option B) → Option B
(Some x) >>= f = f x
None >>= f = None

-- what is read, without the cause of a refusal
abbrev pub some_read : {A : Type 0} → Read A → Option A
some_read (Ok x) = Some x
some_read (Err cause) = None

-- a number from low up to high
unfoldable pub number : ℕ → ℕ → Field → Option ℕ
number low high f = some_read (number_in low high f)

-- nothing, where the test holds
abbrev pub when : Bool → Option Bool
when true = Some true
when false = None

-- the first field is a word
abbrev pub is_word : List ℕ → List Field → Bool
is_word word fs = bytes_eq word (field fs 0)

-- there are so many fields
abbrev pub has_count : ℕ → List Field → Option Bool
has_count n fs = when (length fs == n)

-- pairs of digits of sixteen that are whole units of so many bytes, or `-` for no bytes
unfoldable pub packed : ℕ → Field → Option (List ℕ)
packed unit f = some_read (hex_bytes f) >>= λ bytes. when (length bytes % unit == 0) >>= λ _. Some bytes

-- a number that is an admitted word
unfoldable pub state_word : Field → Option ℕ
state_word f = number 0 (2 ^ 64 - 1) f >>= λ n. when (is_state_word n) >>= λ _. Some n

-- a number that is an admitted stencil word
unfoldable pub stencil_word : Field → Option ℕ
stencil_word f = number 0 4294967295 f >>= λ n. when (is_stencil_word n) >>= λ _. Some n

-- `-` or a query
abbrev pub some_query : Option ℕ → Option (Option ℕ)
some_query None = None
some_query (Some q) = Some (Some q)

-- `-` or the number of a query
unfoldable pub query_field : Field → Option (Option ℕ)
query_field f = if is_dash f then Some None else some_query (number 0 63 f)

-- a query whose last result is to be other than 0
abbrev pub seen_field : Field → Option Condition
seen_field f = number 0 63 f >>= λ q. Some (where_seen q)

-- a query whose last result is to be 0
abbrev pub unseen_field : Field → Option Condition
unseen_field f = number 0 63 f >>= λ q. Some (where_unseen q)

-- `+` or `!` and a query
abbrev pub condition_of : Field → Option Condition
condition_of [] = None
condition_of (b ∷ rest) = if b == 43 then seen_field rest else (if b == 33 then unseen_field rest else None)

-- `-`, or one of them
unfoldable pub condition_field : Field → Option Condition
condition_field f = if is_dash f then Some always else condition_of f

-- ---- the forms of lines

-- `query 1`
unfoldable pub version_form : List Field → Option ℕ
version_form fs = when (is_word (codes "query") fs) >>= λ _. has_count 2 fs >>= λ _. number 1 1 (field fs 1)

-- `size W H`
unfoldable pub size_form : List Field → Option (ℕ × ℕ)
size_form fs = when (is_word (codes "size") fs) >>= λ _. has_count 3 fs >>= λ _. number 1 2048 (field fs 1) >>= λ w. number 1 2048 (field fs 2) >>= λ h. Some (w, h)

-- `clear DEPTH STENCIL`
unfoldable pub clear_form : List Field → Option Step
clear_form fs = has_count 3 fs >>= λ _. number 0 16777215 (field fs 1) >>= λ d. number 0 255 (field fs 2) >>= λ s. Some (clear_step (d + 2 ^ 24 * s))

-- `state N`
unfoldable pub state_form : List Field → Option Step
state_form fs = has_count 2 fs >>= λ _. state_word (field fs 1) >>= λ n. Some (state_step n)

-- `stencil FRONT BACK`
unfoldable pub stencil_form : List Field → Option Step
stencil_form fs = has_count 3 fs >>= λ _. stencil_word (field fs 1) >>= λ front. stencil_word (field fs 2) >>= λ back. Some (stencil_step front back)

-- `instances HEX`, whole transforms
unfoldable pub instances_form : List Field → Option (List ℕ)
instances_form fs = has_count 2 fs >>= λ _. packed 48 (field fs 1)

-- the query and the condition of `draw Q C HEX`
unfoldable pub draw_head : List Field → Option (Option ℕ × Condition)
draw_head fs = has_count 4 fs >>= λ _. query_field (field fs 1) >>= λ q. condition_field (field fs 2) >>= λ c. Some (q, c)

-- `draw Q C HEX`, whole vertices, with the transforms that stand for it
unfoldable pub draw_form : List ℕ → List Field → Option Draw
draw_form instances fs =
    draw_head fs >>= λ h. packed 12 (field fs 3) >>= λ bytes. Some (record { query = h.0; condition = h.1; vertices = bytes; instances = instances })

-- ---- the order of lines

-- where in the order of lines a text stands
pub data Stage : Type 0 where
  at_front : Stage
  at_size : Stage
  at_first_frame : Stage
  in_frame : Stage
  at_end : Stage

-- the stage, what the lines so far say, and the transforms for the next draw
pub record Reading : Type 0 where
  pub stage : Stage
  pub width : ℕ
  pub height : ℕ
  pub frames : List (List Step)
  pub instances : List ℕ

-- before the first line
abbrev pub nothing_read : Reading
nothing_read = record { stage = at_front; width = 1; height = 1; frames = []; instances = [] }

-- a step more behind those of a frame
abbrev pub with_one : Step → List Step → List Step
with_one s steps = steps ++ s ∷ []

-- a step more in the last frame
abbrev pub with_step : Step → Reading → Reading
with_step s r = record r { frames = on_last (with_one s) r.frames }

-- behind a line `frame`, one of at most 1,024
unfoldable pub after_frame : Reading → List Field → Option Reading
after_frame r fs = has_count 1 fs >>= λ _. when (nat_lt (length r.frames) 1024) >>= λ _. Some (record r { stage = in_frame; frames = r.frames ++ [] ∷ []; instances = [] })

-- behind the line `done`
unfoldable pub after_done : Reading → List Field → Option Reading
after_done r fs = has_count 1 fs >>= λ _. Some (record r { stage = at_end })

-- behind an `instances` line, which takes the place of an earlier one
unfoldable pub after_instances : Reading → List Field → Option Reading
after_instances r fs = instances_form fs >>= λ bytes. Some (record r { instances = bytes })

-- behind a `draw` line, which takes the transforms
unfoldable pub after_draw_line : Reading → List Field → Option Reading
after_draw_line r fs = draw_form r.instances fs >>= λ d. Some (record (with_step (draw_step d) r) { instances = [] })

-- a line that sets something
unfoldable pub setting_form : List Field → Option Step
setting_form fs =
    if is_word (codes "clear") fs then clear_form fs
    else (if is_word (codes "state") fs then state_form fs
    else (if is_word (codes "stencil") fs then stencil_form fs else None))

-- behind a line that clears or sets a word
unfoldable pub after_setting : Reading → List Field → Option Reading
after_setting r fs = setting_form fs >>= λ s. Some (with_step s r)

-- behind a line of a frame
unfoldable pub in_frame_after : Reading → List Field → Option Reading
in_frame_after r fs =
    if is_word (codes "frame") fs then after_frame r fs
    else (if is_word (codes "done") fs then after_done r fs
    else (if is_word (codes "instances") fs then after_instances r fs
    else (if is_word (codes "draw") fs then after_draw_line r fs else after_setting r fs)))

-- behind the first line
unfoldable pub front_after : Reading → List Field → Option Reading
front_after r fs = version_form fs >>= λ _. Some (record r { stage = at_size })

-- behind the `size` line
unfoldable pub size_after : Reading → List Field → Option Reading
size_after r fs = size_form fs >>= λ s. Some (record r { stage = at_first_frame; width = s.0; height = s.1 })

-- behind the first `frame` line
unfoldable pub first_frame_after : Reading → List Field → Option Reading
first_frame_after r fs = when (is_word (codes "frame") fs) >>= λ _. after_frame r fs

-- behind a line by the stage
abbrev pub after_fields : Stage → Reading → List Field → Option Reading
after_fields at_front r fs = front_after r fs
after_fields at_size r fs = size_after r fs
after_fields at_first_frame r fs = first_frame_after r fs
after_fields in_frame r fs = in_frame_after r fs
after_fields at_end r fs = None

-- behind a line: its fields stand between blanks; an empty line and one that begins with `#` are passed over
abbrev pub after_line : Reading → List ℕ → Option Reading
after_line r line = if is_skipped line then Some r else after_fields r.stage r (split_at 32 line)

-- ---- whole texts

-- whether a text may end here
abbrev pub is_complete : Stage → Bool
is_complete at_end = true
is_complete _ = false

-- the script that was read
abbrev pub script_read : Reading → Script
script_read r = record { width = r.width; height = r.height; frames = r.frames }

-- what no newline ends is no line, so nothing stands there where the text ends behind `done`
abbrev pub at_last_piece : ℕ → Reading → List ℕ → Result Script ℕ
at_last_piece n r [] = if is_complete r.stage then Ok (script_read r) else Err n
at_last_piece n r (b ∷ bs) = Err n

-- the pieces between the newlines from line n on; the line before it fails where nothing is read
abbrev pub read_pieces : ℕ → Option Reading → List (List ℕ) → Result Script ℕ
read_pieces n None pieces = Err (n - 1)
read_pieces n (Some r) [] = Err n
read_pieces n (Some r) (p ∷ []) = at_last_piece n r p
read_pieces n (Some r) (p ∷ q ∷ rest) = read_pieces (n + 1) (after_line r p) (q ∷ rest)

-- the script that the bytes are, or the first line that fails, counted from 1
abbrev pub script_of : List ℕ → Result Script ℕ
script_of bytes = read_pieces 1 (Some nothing_read) (split_at 10 bytes)
