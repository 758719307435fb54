-- Pictures, and the texts that stand for them.
use Rattle.std.specs.Prelude.{◌≡◌, ◌≢◌, ◌≤◌, ◌<◌, ◌*◌, ℕ, List, ◌++◌, length, take, drop, flat_map}
use Rattle.std.specs.List.{AllByRecursion}
use Rattle.frame_capture.specs.Film.{text_head}

-- a picture: its sides, and three bytes for each pixel, row by row from the top
pub record Picture : Type 0 where
  pub width : ℕ
  pub height : ℕ
  pub bytes : List ℕ

-- a side of a picture
abbrev pub IsSide : ℕ → Type 0
IsSide n = (1 ≤ n) × (n ≤ 65535)

-- red, green and blue of each pixel are there
pub record IsPicture (p : Picture) : Type 0 where
  pub wide : IsSide p.width
  pub high : IsSide p.height
  pub whole : length p.bytes ≡ 3 * (p.width * p.height)

-- a picture's text: its head in the P6 format of Netpbm, and its bytes
abbrev pub picture_text : Picture → List ℕ
picture_text p = text_head p.width p.height ++ p.bytes

-- the bytes are the texts of these pictures, one behind the other
pub record AreTextsOf (bytes : List ℕ) (ps : List Picture) : Type 0 where
  pub each : AllByRecursion IsPicture ps
  pub joined : bytes ≡ flat_map picture_text ps

-- no picture's text stands at the front of the bytes
abbrev pub HasNoPicture : List ℕ → Type 0
HasNoPicture bytes = (p : Picture) (others : List ℕ) → IsPicture p → bytes ≢ picture_text p ++ others

-- so many pictures' texts stand at the front, up to this place, and behind them bytes that begin with none
pub record IsBroken (bytes : List ℕ) (count at : ℕ) : Type 0 where
  pub front : List Picture
  pub many : length front ≡ count
  pub read : AreTextsOf (take at bytes) front
  pub more : at < length bytes
  pub broken : HasNoPicture (drop at bytes)
