-- The rule of a letter box: each letter in it is of the table that the box is of, and its word says whether its encoder was given up.
use Rattle.std.specs.Prelude.{◌≡◌, ◌≢◌, ℕ, ◌+◌, List, [], ◌∷◌, Option, Some, None}
use mathlib.Core.Option.{some, none}
use mathlib.Core.Option as maybe
use lib.ListN.{get_elem?}
use Rattle.atomic_table.specs.Table.{State, Me, Step}
use Rattle.atomic_table.specs.Seated.{TableId}
use Rattle.hold_table.specs.declared.table.HoldTable.{HoldTable}
use Rattle.hold_table.specs.Seats.{table_of}
use Rattle.letter_boxes.specs.Letters.{Letter, IsOf}
use Rattle.letter_boxes.specs.Mails.{MailView}

-- what a seat knows and holds
abbrev pub Mine : Type 0
Mine = Me (Option Letter) MailView

-- what the first seat of a box knows: the table
abbrev pub first_view : HoldTable → MailView
first_view key = record { holds = 0; of = table_of key }

-- a box is empty, is worked on by one seat, or has a letter
pub data Phase : Type 0 where
  empty : Phase
  busy : Phase
  full : Letter → Phase

-- the word of a box with a letter
abbrev pub letter_code : Letter → ℕ
letter_code (Some r, seat) = 2
letter_code (None, seat) = 3

-- the box's word
abbrev pub code : Phase → ℕ
code empty = 0
code busy = 1
code (full l) = letter_code l

-- what lies in the box's place, where no seat holds it
abbrev pub home : Phase → maybe.Option (Option Letter)
home empty = some None
home busy = none
home (full l) = some (Some l)

-- how many seats hold the place
abbrev pub holders : Phase → ℕ
holders empty = 0
holders busy = 1
holders (full l) = 0

-- a letter that lies in the box is of the table
abbrev pub Fits : TableId → Phase → Type 0
Fits table empty = Unit {0}
Fits table busy = Unit {0}
Fits table (full l) = IsOf table l

-- how many seats say that they hold the place
abbrev pub total : List MailView → ℕ
total [] = 0
total (v ∷ vs) = v.holds + total vs

-- what the phase says is so, and each seat knows the table
pub record Kept (table : TableId) (phase : Phase) (views : List MailView) : Type 0 where
  pub fits : Fits table phase
  pub sum : total views ≡ holders phase
  pub each : (i : ℕ) (v : MailView) → get_elem? views i ≡ some v → v.of ≡ table

-- the rule: word and place are those of a phase
pub record IsMail (key : HoldTable) (s : State (Option Letter) MailView) : Type 0 where
  pub phase : Phase
  pub words : s.words ≡ code phase ∷ []
  pub homes : s.homes ≡ home phase ∷ []
  pub kept : Kept (table_of key) phase s.views

-- what a seat that holds the place has of it
abbrev pub carrying : Option Letter → List (ℕ × Option Letter)
carrying x = (0, x) ∷ []

-- a seat that holds the place
abbrev pub holding : MailView → MailView
holding v = record v { holds = 1 }

-- a seat that does not
abbrev pub resting : MailView → MailView
resting v = record v { holds = 0 }

-- a seat is made
abbrev pub Enters : Step (Option Letter) → Mine → ℕ → Mine → Type 0
Enters st m r m' = m' ≡ m

-- the place was taken where the box was empty
abbrev pub Claims : Step (Option Letter) → Mine → ℕ → Mine → Type 0
Claims st m r m' = (r ≡ 0 → m' ≡ (holding m.0, carrying None)) × (r ≢ 0 → m' ≡ m)

-- the letter was taken where the word was its own, and it is of the table
abbrev pub TakesAt : ℕ → Step (Option Letter) → Mine → ℕ → Mine → Type 0
TakesAt n st m r m' = (r ≡ n → (l : Letter) × (m' ≡ (holding m.0, carrying (Some l))) × IsOf m.0.of l × (letter_code l ≡ n)) × (r ≢ n → m' ≡ m)

-- the letter of an encoder that was ended was taken, where there was one
abbrev pub Grabs : Step (Option Letter) → Mine → ℕ → Mine → Type 0
Grabs = TakesAt 2

-- the letter of an encoder that was given up was taken, where there was one
abbrev pub Finds : Step (Option Letter) → Mine → ℕ → Mine → Type 0
Finds = TakesAt 3

-- the place is given back
abbrev pub Rests : Step (Option Letter) → Mine → ℕ → Mine → Type 0
Rests st m r m' = m' ≡ (resting m.0, [])
