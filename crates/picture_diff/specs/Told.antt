-- What functions answer, against what is read.
use Rattle.std.specs.Prelude.{◌≡◌, ◌⊎◌, ℕ, List, length, map, max, min, Option, Some, None, Result, Ok, Err, ⊤}
use Rattle.picture_diff.specs.Picture.{Picture, AreTextsOf, IsBroken}
use Rattle.picture_diff.specs.Difference.{spread_of}
use Rattle.picture_diff.specs.Frames.{judged}
use Rattle.picture_diff.specs.declared.difference.Place.{Place}
use Rattle.picture_diff.specs.declared.difference.Spread.{Spread}
use Rattle.picture_diff.specs.declared.difference.Difference.{Difference}
use Rattle.picture_diff.specs.declared.fault.PictureFault.{PictureFault}
use Rattle.picture_diff.specs.declared.fault.PictureFault.TheVariants as faults
use Rattle.picture_diff.specs.declared.found.Found.{Found}
use Rattle.picture_diff.specs.declared.picture.Picture as code

-- a picture of the code
abbrev pub picture_seen : code.Picture → Picture
picture_seen p = record { width = p.width; height = p.height; bytes = p.bytes.now }

-- a spread with one place more
abbrev pub widened : Option Spread → Place → Spread
widened None place = record { first = place; left = place.x; top = place.y; right = place.x; bottom = place.y }
widened (Some s) place = record { first = s.first; left = min s.left place.x; top = min s.top place.y; right = max s.right place.x; bottom = max s.bottom place.y }

-- how many places, and where they are
abbrev pub found_of : List Place → Found
found_of ps = record { differ = length ps; spread = spread_of ps }

-- the answer for these pictures, unless memory ran out
abbrev pub Gives : {X : Type 0} → (X → List Difference) → Result X PictureFault → Result (List Difference) PictureFault → Type 0
Gives view (Ok x) read = read ≡ Ok (view x)
Gives view (Err faults.OutOfMemory) read = ⊤
Gives view (Err (faults.NoPicture count at)) read = ⊥
Gives view (Err fault) read = read ≡ Err fault

-- the bytes are pictures, and this is told of them
abbrev pub IsJudged : (near : ℕ) → Option ℕ → (bytes : List ℕ) → Result (List Difference) PictureFault → Type 0
IsJudged near asked bytes answer = (ps : List Picture) × AreTextsOf bytes ps × (judged near asked ps ≡ answer)

-- what is told of bytes: of the pictures that they are, or where they are none
abbrev pub Told : {X : Type 0} → (near : ℕ) → Option ℕ → (bytes : List ℕ) → (X → List Difference) → Result X PictureFault → Type 0
Told near asked bytes view (Ok x) = IsJudged near asked bytes (Ok (view x))
Told near asked bytes view (Err faults.OutOfMemory) = ⊤
Told near asked bytes view (Err (faults.NoPicture count at)) = IsBroken bytes count at
Told near asked bytes view (Err fault) = IsJudged near asked bytes (Err fault)

-- the bytes are these pictures, or where they are none
abbrev pub Read : {X : Type 0} → (bytes : List ℕ) → (X → List Picture) → Result X PictureFault → Type 0
Read bytes view (Ok x) = AreTextsOf bytes (view x)
Read bytes view (Err faults.OutOfMemory) = ⊤
Read bytes view (Err (faults.NoPicture count at)) = IsBroken bytes count at
Read bytes view (Err fault) = ⊥
