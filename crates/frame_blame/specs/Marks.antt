-- What is kept of a pixel while deeds are done.
use Rattle.std.specs.Prelude.{◌≡◌, ◌<◌, ℕ, ◌+◌, ◌*◌, if◌then◌else◌, List, fold, length, slice_index_or, Option, None}
use Rattle.gfx_model.specs.Pixel.{Pixel}
use Rattle.gfx_model.specs.Raster.{no_color}
use Rattle.gfx_model.specs.World.{Surface, pixels_of}
use Rattle.trace_laws.specs.History.{Stroke, after_stroke, Made, no_pixel}
use Rattle.frame_blame.specs.Blame.{gives_color}
use Rattle.frame_blame.specs.declared.marks.Mark.{Mark}

-- a pixel of a depth word, of whatever colour
abbrev pub bare : Option ℕ → Pixel
bare depth = record { color = no_color; depth = depth }

-- the mark of a pixel that no deed has given a colour
abbrev pub new_mark : Pixel → Mark
new_mark p = record { depth = p.depth; deed = 0 }

-- no mark
abbrev pub no_mark : Mark
no_mark = record { depth = None; deed = 0 }

-- a mark after a stroke of a deed
abbrev pub mark_after : ℕ → Mark → Stroke → Mark
mark_after number m s = record {
  depth = (after_stroke (bare m.depth) s).depth;
  deed = if gives_color (bare m.depth) s then number else m.deed;
}

-- a mark after strokes of deeds, each with its deed's number counted from 1
abbrev pub marked : Mark → List Made → Mark
marked m history = fold (λ k made. mark_after (made.deed + 1) k made.stroke) m history

-- the mark at a column and a row of so many columns
abbrev pub mark_at : ℕ → List Mark → ℕ → ℕ → Mark
mark_at width marks x y = slice_index_or marks (y * width + x) no_mark

-- each mark of so many columns and rows is made of the one that stood there
pub record Changes (width height : ℕ) (change : (x y : ℕ) → Mark → Mark) (old new : List Mark) : Type 0 where
  pub many : length new ≡ length old
  pub each : (x y : ℕ) → x < width → y < height → mark_at width new x y ≡ change x y (mark_at width old x y)

-- a mark after the strokes of a deed at its pixel
abbrev pub stroked : ℕ → ((x y : ℕ) → List Stroke) → (x y : ℕ) → Mark → Mark
stroked number strokes x y m = fold (mark_after number) m (strokes x y)

-- a mark after what deeds do to its pixel
abbrev pub marked_by : ((x y : ℕ) → List Made) → (x y : ℕ) → Mark → Mark
marked_by history x y m = marked m (history x y)

-- the depth word of a surface's pixel at a place
abbrev pub word_at : Surface → ℕ → Option ℕ
word_at s place = (slice_index_or (pixels_of s) place no_pixel).depth
