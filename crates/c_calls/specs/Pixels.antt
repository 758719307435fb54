-- How pixels are read.
use Rattle.std.specs.Prelude.{◌≡◌, ℕ, List, Result, Err, MatchOption}
use Rattle.c_words.specs.declared.faults.Fault.{Fault}
use Rattle.c_words.specs.declared.faults.Fault.TheVariants as faults
use Rattle.c_words.specs.Things.{named_or_none}
use Rattle.pixel_reading.specs.Formats.{pixels_of_number}
use Rattle.pixel_reading.specs.Reads.{Reads}
use Rattle.c_calls.specs.Views.{ContextView}

-- the back buffer is read, or the texture that a word names, as the frames so far left it; or the number stands for no pixels; or the word names nothing
abbrev pub ReadsHere : Result (Unit {0}) Fault → (texture format stride : ℕ) → (before after : List ℕ) → ContextView → Type 0
ReadsHere result texture format stride before after c =
    MatchOption (pixels_of_number format)
    ((result ≡ Err faults.BadValue) × (after ≡ before))
    (λ p. MatchOption (named_or_none c.rows texture)
    ((result ≡ Err faults.Unknown) × (after ≡ before))
    (λ o. Reads result c.renderer.stores o p stride before after))
