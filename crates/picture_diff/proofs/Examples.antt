-- Worked examples, each by computation.
use Rattle.std.proofs.Common.{◌≡◌, ℕ, List, [], ◌∷◌, ◌++◌, None, Some, Err, refl}
use Rattle.std.specs.Prelude.{codes, replicate}
use Rattle.std.specs.Fmt.{digits}
use Rattle.picture_diff.specs.Picture.{Picture, picture_text}
use Rattle.picture_diff.specs.Difference.{difference}
use Rattle.picture_diff.specs.Frames.{judged}
use Rattle.picture_diff.specs.Lines.{frame_line}
use Rattle.picture_diff.specs.declared.fault.PictureFault.TheVariants as faults

-- three by two pixels of these bytes
abbrev six : List ℕ → Picture
six bytes = record { width = 3; height = 2; bytes = bytes }

abbrev black : Picture
black = six (replicate 18 0)

-- the second pixel is 9 more blue and the last 40 more red
abbrev marked : Picture
marked = six (0 ∷ 0 ∷ 0 ∷ 0 ∷ 0 ∷ 9 ∷ 0 ∷ 0 ∷ 0 ∷ 0 ∷ 0 ∷ 0 ∷ 0 ∷ 0 ∷ 0 ∷ 40 ∷ 0 ∷ 0 ∷ [])

same-line : frame_line 0 (difference 0 black black) ≡ codes "frame 0 pixels 6 differ 0 most 0\n"
unfolding digits
same-line = refl

two-line : frame_line 0 (difference 0 black marked) ≡ codes "frame 0 pixels 6 differ 2 most 40 first 1 0 within 1 0 2 1\n"
unfolding digits
two-line = refl

one-line : frame_line 12 (difference 9 marked black) ≡ codes "frame 12 pixels 6 differ 1 most 40 first 2 1 within 2 1 2 1\n"
unfolding digits
one-line = refl

near-line : frame_line 0 (difference 40 black marked) ≡ codes "frame 0 pixels 6 differ 0 most 40\n"
unfolding digits
near-line = refl

text-is : picture_text black ≡ codes "P6\n3 2\n255\n" ++ replicate 18 0
unfolding digits
text-is = refl

-- no picture, an odd number, another number than was asked for, other sides
none-at-all : judged 0 None [] ≡ Err (faults.Count 0)
none-at-all = refl

odd-number : judged 0 None (black ∷ black ∷ black ∷ []) ≡ Err (faults.Count 3)
odd-number = refl

asked-for : judged 0 (Some 2) (black ∷ black ∷ []) ≡ Err (faults.Count 2)
asked-for = refl

other-sides : judged 0 (Some 2) (black ∷ marked ∷ black ∷ record { width = 2; height = 3; bytes = replicate 18 0 } ∷ []) ≡ Err (faults.Sides 1)
other-sides = refl
