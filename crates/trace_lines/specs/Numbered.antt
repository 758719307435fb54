-- The lines of a pixel's history, each item with the number of the line of the scene's text that records it.
use Rattle.std.specs.Prelude.{ℕ, List, [], ◌∷◌, ◌++◌, Option, Some, None, slice_get, slice_index_or, decimal, codes}
use Rattle.gfx_model.specs.Pixel.{Pixel}
use Rattle.gfx_model.specs.Frames.{Entry}
use Rattle.scene_model.specs.Scene.{Scene}
use Rattle.scene_model.specs.Fold.{FramePlan, plans}
use Rattle.scene_model.specs.Journal.{Journal}
use Rattle.trace_laws.specs.Doers.{Doer, clear_doer, item_doer, doers}
use Rattle.trace_laws.specs.History.{Stroke, after_stroke, Made, pixel_at, pixel_history}
use Rattle.trace_laws.specs.Moments.{Moment, moments}
use Rattle.trace_laws.specs.Text.{doer_text, stroke_text}
use Rattle.trace_lines.specs.Seen.{change_text}

-- the number of a line of a scene's text
abbrev pub number_text : Option ℕ → List ℕ
number_text None = []
number_text (Some n) = codes " line " ++ decimal n

-- the line of an item, by the numbers of the lines of each encoder's items
abbrev pub line_of : List (List ℕ) → Option Doer → Option ℕ
line_of numbers (Some (item_doer v n)) = slice_get (slice_index_or numbers n.encoder []) n.ordinal
line_of numbers _ = None

-- the line of a stroke of a deed on a pixel, as `stroke_line`, with a number behind whose the deed is
abbrev pub numbered_line : ℕ → Option Doer → Option ℕ → Pixel → Stroke → List ℕ
numbered_line deed doer line p s = codes "deed " ++ (decimal deed ++ (doer_text doer ++ (number_text line ++ (stroke_text s ++ change_text p s))))

-- the lines of strokes in order, from a pixel on
abbrev pub numbered_lines : List (List ℕ) → List Doer → Pixel → List Made → List ℕ
numbered_lines numbers ds p [] = []
numbered_lines numbers ds p (m ∷ ms) =
    numbered_line m.deed (slice_get ds m.deed) (line_of numbers (slice_get ds m.deed)) p m.stroke ++ numbered_lines numbers ds (after_stroke p m.stroke) ms

-- the lines of a pixel of a frame that begins at a moment; none where there is no such frame
abbrev pub lines_at : List (List ℕ) → (x y : ℕ) → Option Moment → Option FramePlan → Option (List Entry) → List ℕ
lines_at numbers x y (Some m) (Some p) (Some entries) = numbered_lines numbers (doers p entries) (pixel_at m.world.back x y) (pixel_history m.world m.content x y)
lines_at numbers x y _ _ _ = []

-- the lines of a pixel of a scene's frame by a journal
abbrev pub scene_numbered_lines : List (List ℕ) → Scene → Journal → (k x y : ℕ) → List ℕ
scene_numbered_lines numbers s j k x y = lines_at numbers x y (slice_get (moments s j) k) (slice_get (plans s) k) (slice_get j k)
