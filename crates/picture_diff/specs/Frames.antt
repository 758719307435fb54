-- Two streams of pictures, one behind the other, and what is told of their frames.
use Rattle.std.specs.Prelude.{ℕ, ◌+◌, Bool, true, not, ◌&&◌, ◌==◌, nat_lt, ◌/◌, ◌%◌, if◌then◌else◌, List, [], ◌∷◌, ◌++◌, length, take, drop, Option, Some, None, Result, Ok, Err}
use Rattle.std.specs.List.{AllZip, list_all}
use Rattle.picture_diff.specs.Picture.{Picture}
use Rattle.picture_diff.specs.Difference.{AreNear, difference}
use Rattle.picture_diff.specs.declared.difference.Difference.{Difference}
use Rattle.picture_diff.specs.declared.fault.PictureFault.{PictureFault}
use Rattle.picture_diff.specs.declared.fault.PictureFault.TheVariants as faults

-- the count that was asked for, if one was
abbrev pub is_asked : Option ℕ → ℕ → Bool
is_asked None frames = true
is_asked (Some asked) frames = asked == frames

-- so many pictures are two streams of equally many, at least one, and of as many as were asked for
abbrev pub are_halves : Option ℕ → ℕ → Bool
are_halves asked pictures = nat_lt 0 pictures && ((pictures % 2 == 0) && is_asked asked (pictures / 2))

-- the first stream, and the second
abbrev pub first_half : List Picture → List Picture
first_half ps = take (length ps / 2) ps

abbrev pub second_half : List Picture → List Picture
second_half ps = drop (length ps / 2) ps

-- two pictures have other sides
abbrev pub have_other_sides : (p q : Picture) → Bool
have_other_sides p q = not ((p.width == q.width) && (p.height == q.height))

-- differences before those that are told
abbrev pub onto : List Difference → Result (List Difference) PictureFault → Result (List Difference) PictureFault
onto front (Ok ds) = Ok (front ++ ds)
onto front (Err fault) = Err fault

-- the differences of two streams, frame by frame from number k on, or the first frame whose pictures have other sides
abbrev pub compared : (near k : ℕ) → (ps qs : List Picture) → Result (List Difference) PictureFault
compared near k (p ∷ ps) (q ∷ qs) = if have_other_sides p q then Err (faults.Sides k) else onto (difference near p q ∷ []) (compared near (k + 1) ps qs)
compared near k ps qs = Ok []

-- what is told of pictures as two streams
abbrev pub judged : (near : ℕ) → Option ℕ → List Picture → Result (List Difference) PictureFault
judged near asked ps = if are_halves asked (length ps) then compared near 0 (first_half ps) (second_half ps) else Err (faults.Count (length ps))

-- in each frame each channel of one picture is within `near` of the other's
abbrev pub AreAllNear : (near : ℕ) → List Picture → Type 0
AreAllNear near ps = AllZip (AreNear near) (first_half ps) (second_half ps)

-- no pixel differs in any frame
abbrev pub are_all_same : List Difference → Bool
are_all_same ds = list_all (λ d. d.differ == 0) ds
