-- Worked rows by computation: the deed to which a pixel owes its colour, of short histories, and a number's bytes.
use Rattle.std.specs.Prelude.{◌≡◌, ℕ, [], ◌∷◌, Some, refl}
use Rattle.gfx_model.specs.Pixel.{Pixel}
use Rattle.trace_laws.specs.History.{clear_stroke, fragment_stroke, Made, no_pixel}
use Rattle.frame_blame.specs.Blame.{blame_of, number_bytes}

-- a clear with these flags, of depth 100
abbrev clears : (deed flags : ℕ) → Made
clears deed flags = record { deed = deed; stroke = clear_stroke (record { flags = flags; color = 1 ∷ 2 ∷ 3 ∷ 4 ∷ []; depth = 100; stencil = 0 }) }

-- a fragment of this depth
abbrev draws : (deed state depth : ℕ) → Made
draws deed state depth = record { deed = deed; stroke = fragment_stroke 0 state 0 (record { color = 5 ∷ 6 ∷ 7 ∷ 8 ∷ []; depth = depth }) }

-- a pixel with a depth word
abbrev deep : Pixel
deep = record { color = 0 ∷ 0 ∷ 0 ∷ 0 ∷ []; depth = Some 50 }

-- no deed, and deeds that give no colour: a clear of depth and stencil, a fragment whose write mask has no channel
none : (blame_of no_pixel [] ≡ 0) × (blame_of deep (clears 0 6 ∷ []) ≡ 0) × (blame_of deep (draws 3 0 10 ∷ []) ≡ 0)
none = (refl, refl, refl)

-- the first deed is 1: a clear of colours, and a fragment in all channels or in that of alpha alone
one : (blame_of no_pixel (clears 0 1 ∷ []) ≡ 1) × (blame_of no_pixel (draws 0 15 10 ∷ []) ≡ 1) × (blame_of deep (draws 0 8 10 ∷ []) ≡ 1)
one = (refl, refl, refl)

-- the last that gives a colour: the fragment of depth 60 fails the test `less` (state 31) at 50, and passes it behind a clear of depth 100 alone
last : (blame_of deep (clears 0 1 ∷ draws 2 31 40 ∷ draws 5 31 60 ∷ []) ≡ 3) × (blame_of deep (clears 0 1 ∷ draws 2 31 60 ∷ []) ≡ 1) × (blame_of deep (clears 0 2 ∷ draws 2 31 60 ∷ clears 7 4 ∷ draws 8 16 30 ∷ []) ≡ 3)
last = (refl, refl, refl)

-- the greatest number of a frame, 512 clears and 65,528 items
bytes : (number_bytes 0 ≡ 0 ∷ 0 ∷ 0 ∷ []) × (number_bytes 66040 ≡ 1 ∷ 1 ∷ 248 ∷ [])
bytes = (refl, refl)
