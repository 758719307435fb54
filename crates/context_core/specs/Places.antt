-- Places of the hold table and things.
use Rattle.std.specs.Prelude.{ℕ, ◌≡◌, ◌<◌, ◌+◌, List, Option, Some, None, IsTrue}
use Rattle.std.specs.List.{find}
use Rattle.gfx_model.specs.Words.{Kind, Handle, greatest, first_place, place_of_handle}
use Rattle.gfx_model.specs.Resources.{Thing, is_at}
use Rattle.schedule_model.specs.Machine.{Place, free, live, dying, place_at, has_usable}

-- the place of a serial that lives, or that dies in a frame
abbrev pub place_by : ℕ → Option ℕ → Place
place_by serial None = live serial
place_by serial (Some death) = dying serial death

-- the place of a thing; free without one
abbrev pub place_of : Option Thing → Place
place_of None = free
place_of (Some t) = place_by t.handle.serial t.death

-- each place has the thing of its kind and index
abbrev pub IsPlaced : List Place → List Thing → Type 0
IsPlaced places things = (k : Kind) (index : ℕ) → index < greatest k → place_at places (first_place k + index) ≡ place_of (find (is_at k index) things)

-- the handle's thing can be named in the frame
abbrev pub IsUsable : ℕ → List Place → Handle → Type 0
IsUsable frame places h = IsTrue (has_usable frame h.serial (place_at places (place_of_handle h)))

-- what can be named in a frame can be named still
abbrev pub Stays : ℕ → (old new : List Place) → Type 0
Stays frame old new = (h : Handle) → IsUsable frame old h → IsUsable frame new h
