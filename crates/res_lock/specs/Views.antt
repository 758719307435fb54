-- What a seat of the history's table knows, and what each kind of step changes and tells.
use Rattle.std.specs.Prelude.{◌≡◌, ℕ, ◌+◌, ◌<◌, nat_le, if◌then◌else◌, List, [], ◌∷◌, ◌++◌, length, Option, Some, None}
use Rattle.atomic_table.specs.Table.{Me, Step}
use Rattle.schedule_model.specs.Held.{count_of, IsPrefix}
use Rattle.res_lock.specs.Histories.{LockEntry, part_of}

-- the callers whose whole part a pass has seen, and what it has seen
pub record Heard : Type 0 where
  pub callers : List ℕ
  pub seen : List LockEntry

-- what a pass knows: the callers whose whole part of the history it has seen, the next caller's number where it is the first pass (0 where it is another),
-- what it has seen of the history, the whole history where it may append to it, and what a pass that it joined has seen until it is learnt
pub record PassView : Type 0 where
  pub callers : List ℕ
  pub next : ℕ
  pub seen : List LockEntry
  pub pen : Option (List LockEntry)
  pub heard : Option Heard

-- a pass of no caller that knows nothing
abbrev pub no_view : PassView
no_view = record { callers = []; next = 0; seen = []; pen = None; heard = None }

-- the first pass: caller 0
abbrev pub first_view : PassView
first_view = record { callers = 0 ∷ []; next = 1; seen = []; pen = None; heard = None }

-- the first pass of a new table may append
abbrev pub opening_view : PassView
opening_view = record first_view { pen = Some [] }

-- the history that a pen stands for
abbrev pub written_in : Option (List LockEntry) → List LockEntry
written_in None = []
written_in (Some log) = log

-- ---- passes are split off and joined

-- the number of the next caller is given
abbrev pub split_from : PassView → PassView
split_from v = record v { next = v.next + 1 }

-- the pass of the next caller has seen what the first has
abbrev pub split_off : PassView → PassView
split_off v = record no_view { callers = v.next ∷ []; seen = v.seen }

-- what another pass has seen is heard
abbrev pub hears : PassView → PassView → PassView
hears v w = record v { heard = Some (record { callers = w.callers; seen = w.seen }) }

-- the longer of two histories
abbrev pub longer : List LockEntry → List LockEntry → List LockEntry
longer xs ys = if nat_le (length ys) (length xs) then xs else ys

-- what was heard is learnt
abbrev pub learnt : Heard → PassView → PassView
learnt h v = record v { callers = v.callers ++ h.callers; seen = longer v.seen h.seen; heard = None }

-- what the first pass knows after it joined another
abbrev pub joined_with : PassView → PassView → PassView
joined_with v w = learnt (record { callers = w.callers; seen = w.seen }) v

-- ---- the right to append

-- the right to append is given up
abbrev pub without_pen : PassView → PassView
without_pen v = record v { pen = None }

-- the right to append alone
abbrev pub pen_view : List LockEntry → PassView
pen_view log = record no_view { pen = Some log }

-- the right to append alone, as a pass has it
abbrev pub pen_of : PassView → PassView
pen_of v = record no_view { pen = v.pen }

-- the right to append is taken over
abbrev pub with_pen : PassView → PassView → PassView
with_pen v w = record v { pen = w.pen }

-- ---- what each kind of step tells

-- of the callers the history so far is in the first list already
abbrev pub IsWholeIn : List ℕ → (seen log : List LockEntry) → Type 0
IsWholeIn callers seen log = (c : ℕ) → 0 < count_of c callers → part_of c log ≡ part_of c seen

-- the second list goes on behind the first, with no entry of the callers
abbrev pub GoesOn : List ℕ → (seen log : List LockEntry) → Type 0
GoesOn callers seen log = IsPrefix seen log × IsWholeIn callers seen log

-- a seat's view, and the slots in hand, of which this table has none
abbrev pub Mine : Type 0
Mine = Me (Unit {0}) PassView

-- the next caller has made nothing of what the first pass has seen
abbrev pub Looks : Step (Unit {0}) → Mine → ℕ → Mine → Type 0
Looks st m r m' = (m' ≡ m) × (0 < m.0.next → part_of m.0.next m.0.seen ≡ [])

-- what was heard is learnt: both histories are beginnings of the longer one, which has the whole part of each of their callers
abbrev pub Learns : Step (Unit {0}) → Mine → ℕ → Mine → Type 0
Learns st m r m' = (h : Heard) → m.0.heard ≡ Some h
    → (m' ≡ (learnt h m.0, m.1)) × GoesOn m.0.callers m.0.seen (longer m.0.seen h.seen) × GoesOn h.callers h.seen (longer m.0.seen h.seen)

-- an entry is appended to the history and seen
abbrev pub appended : LockEntry → List LockEntry → PassView → PassView
appended e log v = record v { seen = log ++ e ∷ []; pen = Some (log ++ e ∷ []) }

-- an entry is appended to the history, which has gone on from what the pass has seen without a call of its own
abbrev pub Appends : LockEntry → Step (Unit {0}) → Mine → ℕ → Mine → Type 0
Appends e st m r m' = (log : List LockEntry) → m.0.pen ≡ Some log → (m' ≡ (appended e log m.0, m.1)) × GoesOn m.0.callers m.0.seen log
