-- What a seat knows, and what each kind of step changes and tells.
use Rattle.std.specs.Prelude.{◌≡◌, ℕ, suc, ◌+◌, ◌<◌, ◌≤◌, ◌==◌, nat_le, nat_lt, ◌&&◌, ◌⊎◌, if◌then◌else◌, slice_set, List, [], ◌∷◌, ◌++◌, replicate, length, IsTrue}
use Rattle.std.specs.List.{AllByRecursion}
use Rattle.atomic_table.specs.Table.{Me, Step}
use Rattle.gfx_model.specs.Words.{Handle, place_of_handle, is_usable_in}
use Rattle.schedule_model.specs.Machine.{Place, free, live, dying, place_at, has_usable, place_count}
use Rattle.schedule_model.specs.Held.{Follows, count_of, Ascends}
use Rattle.hold_table.specs.Words.{word_of, IsUpTo}

-- ---- what a seat knows

-- whose seat it is: the API's, a recorder's, or one that was joined
pub data Role : Type 0 where
  api : Role
  recorder : Role
  spent : Role

-- a place, and the word that a load found there
pub record Asked : Type 0 where
  pub place : ℕ
  pub word : ℕ

-- what a recorder that was joined shows until it is learnt: its frame, how often its encoder number was off, what it asked and drew
pub record Shown : Type 0 where
  pub frame : ℕ
  pub times_off : ℕ
  pub asked : List Asked
  pub numbers : List ℕ

-- a recorder knows its encoder number, its frame, the places and the greatest serial at its beginning, the numbers that it drew and what it asked.
-- The API knows the frame, the places and the greatest serial as they are, the numbers gathered in this frame,
-- the frame's first number, the encoder numbers that are off, and how many joined seats had numbers
pub record SeatView : Type 0 where
  pub role : Role
  pub encoder : ℕ
  pub frame : ℕ
  pub places : List Place
  pub greatest : ℕ
  pub numbers : List ℕ
  pub asked : List Asked
  pub base : ℕ
  pub off : List ℕ
  pub joined : ℕ
  pub shows : List Shown

-- the API's view of a new table
abbrev pub first_view : ℕ → SeatView
first_view first = record {
  role = api;
  encoder = 0;
  frame = first;
  places = replicate place_count free;
  greatest = 0;
  numbers = [];
  asked = [];
  base = 0;
  off = [];
  joined = 0;
  shows = [];
}

-- the view of a seat that was joined
abbrev pub spent_view : SeatView
spent_view = record {
  role = spent;
  encoder = 0;
  frame = 0;
  places = [];
  greatest = 0;
  numbers = [];
  asked = [];
  base = 0;
  off = [];
  joined = 0;
  shows = [];
}

-- ---- a recorder begins and is joined

-- the encoder number e is off
abbrev pub lent : ℕ → SeatView → SeatView
lent e v = record v { off = e ∷ v.off }

-- a recorder with the encoder number e, which begins with what the API knows
abbrev pub fresh : ℕ → SeatView → SeatView
fresh e v = record {
  role = recorder;
  encoder = e;
  frame = v.frame;
  places = v.places;
  greatest = v.greatest;
  numbers = [];
  asked = [];
  base = 0;
  off = [];
  joined = 0;
  shows = [];
}

-- the list without the first e
abbrev pub without : ℕ → List ℕ → List ℕ
without e [] = []
without e (x ∷ xs) = if x == e then xs else (x ∷ without e xs)

-- one more where there are numbers
abbrev pub more : List ℕ → ℕ → ℕ
more [] n = n
more (x ∷ xs) n = suc n

-- the numbers of a recorder are gathered, its encoder number is off no longer, and what it knows is shown
abbrev pub gathered : SeatView → SeatView → SeatView
gathered v w = record v {
  numbers = v.numbers ++ w.numbers;
  off = without w.encoder v.off;
  joined = more w.numbers v.joined;
  shows = record { frame = w.frame; times_off = count_of w.encoder v.off; asked = w.asked; numbers = w.numbers } ∷ [];
}

-- what was shown is learnt
abbrev pub learnt : SeatView → SeatView
learnt v = record v { shows = [] }

-- what the API knows after it joined a recorder
abbrev pub joined_with : SeatView → SeatView → SeatView
joined_with v w = learnt (gathered v w)

-- each serial that is usable in the frame by the word asked is still usable there
abbrev pub IsThere : ℕ → List Place → Asked → Type 0
IsThere frame places a = (serial : ℕ) → IsTrue (is_usable_in frame a.word serial) → IsTrue (has_usable frame serial (place_at places a.place))

-- each that was asked is there
abbrev pub AllThere : ℕ → List Place → List Asked → Type 0
AllThere frame places asked = AllByRecursion (IsThere frame places) asked

-- a place of the list was the handle's, and its word had the handle's serial usable in the frame
abbrev pub IsNamedIn : ℕ → Handle → List Asked → Type 0
IsNamedIn frame h [] = ⊥
IsNamedIn frame h (a ∷ rest) = ((a.place ≡ place_of_handle h) × IsTrue (is_usable_in frame a.word h.serial)) ⊎ IsNamedIn frame h rest

-- the seat asked the handle's place, and found its thing usable
abbrev pub HasNamed : SeatView → Handle → Type 0
HasNamed v h = IsNamedIn v.frame h v.asked

-- what was shown is of the frame, its encoder number was off once, all that it asked is there, and its numbers ascend
abbrev pub IsOfFrame : ℕ → List Place → Shown → Type 0
IsOfFrame frame places x = (x.frame ≡ frame) × (x.times_off ≡ 1) × AllThere frame places x.asked × Ascends x.numbers

-- each that was shown is of the frame
abbrev pub AllShown : ℕ → List Place → List Shown → Type 0
AllShown frame places shows = AllByRecursion (IsOfFrame frame places) shows

-- ---- numbers

-- one number more
abbrev pub drawn : ℕ → SeatView → SeatView
drawn n v = record v { numbers = v.numbers ++ n ∷ [] }

-- the next frame starts with the number n
abbrev pub advanced : ℕ → SeatView → SeatView
advanced n v = record v { frame = suc v.frame; numbers = []; base = n; joined = 0; shows = [] }

-- 1 where a number lies from low to below high, and 0 elsewhere
abbrev pub once_between : ℕ → ℕ → ℕ → ℕ
once_between low high n = if nat_le low n && nat_lt n high then 1 else 0

-- ---- places

-- a place was asked, and its word was w
abbrev pub asks : ℕ → ℕ → SeatView → SeatView
asks p w v = record v { asked = v.asked ++ record { place = p; word = w } ∷ [] }

-- the word is that of a place which follows from the one that the view has
abbrev pub IsWordSince : SeatView → ℕ → ℕ → Type 0
IsWordSince v p w = (x : Place) × (w ≡ word_of x) × IsUpTo 4294967295 x × Follows v.frame v.greatest (place_at v.places p) x

-- a recorder asked one place and word more, and the word follows from its beginning
abbrev pub HasAsked : SeatView → SeatView → ℕ → ℕ → Type 0
HasAsked old new p w = (new ≡ asks p w old) × IsWordSince old p w

-- a place holds something else
abbrev pub placed : ℕ → Place → SeatView → SeatView
placed p x v = record v { places = slice_set v.places p x }

-- a place holds a live thing, whose serial is the greatest
abbrev pub created : ℕ → ℕ → SeatView → SeatView
created p serial v = record v { places = slice_set v.places p (live serial); greatest = serial }

-- ---- what each kind of step tells

-- a seat's view, and the slots in hand, of which this table has none
abbrev pub Mine : Type 0
Mine = Me (Unit {0}) SeatView

-- a number is drawn, above all that the seat drew before
abbrev pub Draws : Step (Unit {0}) → Mine → ℕ → Mine → Type 0
Draws st m r m' = (m' ≡ (drawn r m.0, m.1)) × AllByRecursion (λ n. n < r) m.0.numbers

-- what was shown is learnt; the numbers gathered differ, are not below the base, and are at most 65,528
abbrev pub Learns : Step (Unit {0}) → Mine → ℕ → Mine → Type 0
Learns st m r m' = (m' ≡ (learnt m.0, m.1)) × AllShown m.0.frame m.0.places m.0.shows
    × ((n : ℕ) → count_of n m.0.numbers ≤ 1) × ((n : ℕ) → n < m.0.base → count_of n m.0.numbers ≡ 0) × (length m.0.numbers ≤ 65528)

-- the next frame starts; each number from the old base to below the new one was gathered once, and no other
abbrev pub Advances : Step (Unit {0}) → Mine → ℕ → Mine → Type 0
Advances st m r m' = (m' ≡ (advanced r m.0, m.1))
    × ((n : ℕ) → count_of n m.0.numbers ≡ once_between m.0.base r n) × (m.0.base + length m.0.numbers ≡ r)

-- a place is asked
abbrev pub Asks : Step (Unit {0}) → Mine → ℕ → Mine → Type 0
Asks st m r m' = (p : ℕ) → st.word ≡ suc p → (m' ≡ (asks p r m.0, m.1)) × IsWordSince m.0 p r

-- a place becomes live with a serial that is now the greatest
abbrev pub Creates : Step (Unit {0}) → Mine → ℕ → Mine → Type 0
Creates st m r m' = (p serial : ℕ) → st.word ≡ suc p → r ≡ word_of (live serial) → m' ≡ (created p serial m.0, m.1)

-- a place becomes dying in the frame
abbrev pub Destroys : Step (Unit {0}) → Mine → ℕ → Mine → Type 0
Destroys st m r m' = (p serial : ℕ) → st.word ≡ suc p → r ≡ word_of (dying serial m.0.frame) → m' ≡ (placed p (dying serial m.0.frame) m.0, m.1)

-- a place becomes free
abbrev pub Reclaims : Step (Unit {0}) → Mine → ℕ → Mine → Type 0
Reclaims st m r m' = (p : ℕ) → st.word ≡ suc p → m' ≡ (placed p free m.0, m.1)
