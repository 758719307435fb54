-- How pixels are read.
use Rattle.std.specs.Prelude.{◌≡◌, ℕ, ◌<◌, ◌≤◌, ◌*◌, Bool, true, false, List, length, Option, Some, None, Result, Ok, Err, MatchResult}
use Rattle.gfx_model.specs.Words.{Handle}
use Rattle.gfx_model.specs.Raster.{Texels}
use Rattle.gfx_model.specs.World.{Surface}
use Rattle.gfx_model.specs.Recorder.{format_of}
use Rattle.gfx_words.specs.declared.refusals.Refusal.TheVariants as refusals
use Rattle.store_model.specs.Textures.{texels_at}
use Rattle.store_laws.specs.ByIndex.{Stores}
use Rattle.c_words.specs.declared.faults.Fault.{Fault}
use Rattle.c_words.specs.declared.faults.Fault.TheVariants as faults
use Rattle.texel_rows.specs.Rows.{rows_in, with_rows, least_room}
use Rattle.pixel_reading.specs.declared.formats.Pixels.{Pixels}
use Rattle.pixel_reading.specs.declared.formats.Pixels.TheVariants as pixels
use Rattle.pixel_reading.specs.Formats.{order_of, is_of_format}

-- the colours of a surface, or its depths
abbrev pub texels_of_surface : Surface → Pixels → Option Texels
texels_of_surface s pixels.Rgba8 = Some s.color
texels_of_surface s pixels.D24S8 = s.depth
texels_of_surface s pixels.Bgra8 = Some s.color

-- texels, or that there are none
abbrev pub or_not_there : Option Texels → Result Texels Fault
or_not_there None = Err faults.NotThere
or_not_there (Some t) = Ok t

-- texels where they are of the format that is asked
abbrev pub of_kind : Bool → Option Texels → Result Texels Fault
of_kind false o = Err (faults.Refused refusals.WrongKind)
of_kind true o = or_not_there o

-- the texels that are read, or why there are none: those of the back buffer, or those of a texture. A handle of another kind, and a texture of
-- another format, are refused first; then a texture that the stores do not have
abbrev pub texels_for : Stores → Option Handle → Pixels → Result Texels Fault
texels_for stores None p = or_not_there (texels_of_surface stores.back p)
texels_for stores (Some h) p = of_kind (is_of_format (format_of h) p) (texels_at stores.textures h.index)

-- why texels are not written: the stride is shorter than a row; or the buffer too short
abbrev pub IsNotWritten : Fault → Texels → (stride : ℕ) → (before : List ℕ) → Type 0
IsNotWritten (faults.Refused refusals.BadSize) t stride before = stride < 4 * t.width
IsNotWritten faults.TooSmall t stride before = (4 * t.width ≤ stride) × (length before < least_room stride t)
IsNotWritten _ t stride before = ⊥

-- texels are written into a buffer as rows with a stride, or the buffer is as before
abbrev pub Writes : Result (Unit {0}) Fault → Pixels → Texels → (stride : ℕ) → (before after : List ℕ) → Type 0
Writes result p t stride before after =
    MatchResult result
    (λ _. (4 * t.width ≤ stride) × (least_room stride t ≤ length before) × (after ≡ with_rows stride (rows_in (order_of p) t) before))
    (λ f. IsNotWritten f t stride before × (after ≡ before))

-- the back buffer or a texture is read
abbrev pub Reads : Result (Unit {0}) Fault → Stores → Option Handle → Pixels → (stride : ℕ) → (before after : List ℕ) → Type 0
Reads result stores texture p stride before after =
    MatchResult (texels_for stores texture p)
    (λ t. Writes result p t stride before after)
    (λ f. (result ≡ Err f) × (after ≡ before))
