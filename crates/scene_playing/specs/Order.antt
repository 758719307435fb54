-- The order in which the items of a play are to be recorded.
use Rattle.std.specs.Prelude.{◌≡◌, ℕ, Bool, true, ◌&&◌, nat_le, List, [], ◌∷◌, length, take, Option, Some, None, option_map, slice_get, ⊤}
use Rattle.std.specs.Borrow.{Bor}
use Rattle.std.specs.List.{AllByRecursion}
use Rattle.scene_model.specs.Journal.{Entry, Journal}
use Rattle.scene_text.specs.Seen.{journal_seen}
use Rattle.scene_text.specs.declared.journal.Journal as code
use Rattle.scene_playing.specs.declared.ordered.Order.{Order}
use Rattle.scene_playing.specs.declared.ordered.Order.TheVariants as orders

-- ---- for whoever plays

-- the given journal, if there is one
abbrev pub order_seen : Option (Bor code.Journal) → Option Journal
order_seen order = option_map (λ j. journal_seen j.now) order

-- what was recorded so far is a front of it
abbrev pub Follows : Option Journal → Journal → Type 0
Follows None recorded = ⊤
Follows (Some journal) recorded = recorded ≡ take (length recorded) journal

-- ---- frame by frame

-- the order that is asked of a frame's items: any, one encoder after another, or that of a journal
pub data Wanted : Type 0 where
  any_order : Wanted
  serial_order : Wanted
  given_order : Journal → Wanted

-- the same of the code
abbrev pub wanted_seen : Order → Wanted
wanted_seen orders.Any = any_order
wanted_seen orders.Serial = serial_order
wanted_seen (orders.Of journal) = given_order (journal_seen journal.now)

-- the order of a play on one thread: that of a journal where one is given, and else one encoder after another
abbrev pub wanted_here : Option Journal → Wanted
wanted_here None = serial_order
wanted_here (Some journal) = given_order journal

-- whether the encoders of entries ascend from a number on
abbrev pub ascend_from : ℕ → List Entry → Bool
ascend_from least [] = true
ascend_from least (n ∷ rest) = nat_le least n.encoder && ascend_from n.encoder rest

-- no encoder has an entry behind one of a later encoder
abbrev pub StandByEncoder : List Entry → Type 0
StandByEncoder entries = ascend_from 0 entries ≡ true

-- the entries may be those of frame k
abbrev pub Allows : Wanted → ℕ → List Entry → Type 0
Allows any_order k entries = ⊤
Allows serial_order k entries = StandByEncoder entries
Allows (given_order journal) k entries = slice_get journal k ≡ Some entries

-- the frames that were recorded so far have the order
abbrev pub Keeps : Wanted → Journal → Type 0
Keeps any_order recorded = ⊤
Keeps serial_order recorded = AllByRecursion StandByEncoder recorded
Keeps (given_order journal) recorded = Follows (Some journal) recorded
