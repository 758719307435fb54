-- The frames of a turn.
use Rattle.std.specs.Prelude.{◌≡◌, ℕ, ◌≤◌, List, ◌++◌, length, map}
use Rattle.std.specs.List.{AllByRecursion, range_with_len}
use Rattle.gfx.specs.Definitions.{count_of}
use Rattle.gfx.specs.Frames.{items_of, Frame, encoders_in, once_below}
use Rattle.ring_turning.specs.Ring.{IsHalf, IsPart}

-- a frame is what encoders 0 and 1 recorded, each once, and each its half of the ring
pub record IsOfRing (f : Frame) : Type 0 where
  pub encoders : (e : ℕ) → count_of e (encoders_in f.recordings.items) ≡ once_below 2 e
  pub halves : AllByRecursion (λ r. IsHalf r.encoder f.number (items_of r)) f.recordings.items

-- a frame is what encoders 0 and 1 recorded, each once, and each its half of the ring where none of its draws was refused
pub record HasParts (f : Frame) : Type 0 where
  pub encoders : (e : ℕ) → count_of e (encoders_in f.recordings.items) ≡ once_below 2 e
  pub parts : AllByRecursion (λ r. IsPart r.encoder f.number (items_of r) r.dropped) f.recordings.items

-- frames are numbered from 0
abbrev pub AreNumbered : List Frame → Type 0
AreNumbered fs = map (λ f. f.number) fs ≡ range_with_len 0 (length fs)

-- so many frames, numbered from 0, each of the ring
pub record IsTurn (many : ℕ) (fs : List Frame) : Type 0 where
  pub count : length fs ≡ many
  pub numbered : AreNumbered fs
  pub drawn : AllByRecursion IsOfRing fs

-- the first of so many frames, numbered from 0, each of the ring, and at most one more, of which draws may have been refused
pub record AreFirst (many : ℕ) (fs : List Frame) : Type 0 where
  pub drawn : List Frame
  pub last : List Frame
  pub parts : fs ≡ drawn ++ last
  pub one : length last ≤ 1
  pub within : length fs ≤ many
  pub numbered : AreNumbered fs
  pub of_ring : AllByRecursion IsOfRing drawn
  pub in_parts : AllByRecursion HasParts last
