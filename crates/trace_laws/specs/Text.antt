-- The lines of a pixel's history.
use Rattle.std.specs.Prelude.{ℕ, ◌/◌, ◌%◌, ◌^◌, List, [], ◌∷◌, ◌++◌, Option, Some, None, slice_get, slice_index_or, decimal, codes}
use Rattle.gfx_model.specs.Pixel.{Pixel}
use Rattle.gfx_model.specs.Frames.{Entry}
use Rattle.gfx_model.specs.World.{World, first_world, frame_step}
use Rattle.scene_model.specs.Scene.{Scene}
use Rattle.scene_model.specs.Fold.{FramePlan, plans}
use Rattle.scene_model.specs.Journal.{Journal, frame_content}
use Rattle.spelling_model.specs.FieldSpelling.{color_spelled}
use Rattle.store_laws.specs.ByIndex.{Stores, FrameData}
use Rattle.trace_laws.specs.ByIndex.{begun_in, deeds_in, history_in}
use Rattle.trace_laws.specs.Doers.{Doer, clear_doer, item_doer, doers}
use Rattle.trace_laws.specs.History.{Stroke, clear_stroke, fragment_stroke, after_stroke, Made, pixel_history, pixel_at, Fate, is_cleared, is_stored, is_masked, fails_depth, fails_stencil, fate_of}

-- a blank, the depth, a blank, and the stencil
abbrev pub word_text : Option ℕ → List ℕ
word_text None = []
word_text (Some word) = codes " " ++ (decimal (word % 2 ^ 24) ++ (codes " " ++ decimal (word / 2 ^ 24)))

-- a pixel: its colour, and its depth and stencil where there are such
abbrev pub pixel_text : Pixel → List ℕ
pixel_text p = color_spelled p.color ++ word_text p.depth

-- whose deed it is
abbrev pub doer_text : Option Doer → List ℕ
doer_text None = []
doer_text (Some (clear_doer v)) = codes " view " ++ decimal v
doer_text (Some (item_doer v n)) = codes " view " ++ (decimal v ++ (codes " encoder " ++ (decimal n.encoder ++ (codes " item " ++ decimal n.ordinal))))

-- the triangle's number and what is painted, or that it is a clear
abbrev pub stroke_text : Stroke → List ℕ
stroke_text (clear_stroke c) = codes " clear"
stroke_text (fragment_stroke n state word shaded) = codes " triangle " ++ (decimal n ++ (codes " color " ++ (color_spelled shaded.color ++ (codes " depth " ++ decimal shaded.depth))))

-- what became of it
abbrev pub fate_text : Fate → List ℕ
fate_text is_cleared = codes "cleared"
fate_text is_stored = codes "stored"
fate_text is_masked = codes "masked"
fate_text fails_depth = codes "depth"
fate_text fails_stencil = codes "stencil"

-- the line of a stroke of a deed on a pixel: the deed and whose it is, what the stroke is, what stood before it, what stands after it, and what became of it
abbrev pub stroke_line : ℕ → Option Doer → Pixel → Stroke → List ℕ
stroke_line deed doer p s =
    codes "deed " ++ (decimal deed ++ (doer_text doer ++ (stroke_text s ++ (codes " was " ++ (pixel_text p ++ (codes " is " ++ (pixel_text (after_stroke p s) ++ (codes " " ++ (fate_text (fate_of p s) ++ codes "\n")))))))))

-- the lines of strokes in order, from a pixel on
abbrev pub stroke_lines : List Doer → Pixel → List Made → List ℕ
stroke_lines ds p [] = []
stroke_lines ds p (m ∷ ms) = stroke_line m.deed (slice_get ds m.deed) p m.stroke ++ stroke_lines ds (after_stroke p m.stroke) ms

-- the lines of a pixel of a frame that begins in a world
abbrev pub pixel_lines : World → FramePlan → List Entry → (x y : ℕ) → List ℕ
pixel_lines w p entries x y = stroke_lines (doers p entries) (pixel_at w.back x y) (pixel_history w (frame_content p entries) x y)

-- the same of each frame, in the order of a journal, from a world on
abbrev pub pixel_lines_from : World → List FramePlan → Journal → (x y : ℕ) → List (List ℕ)
pixel_lines_from w [] j x y = []
pixel_lines_from w (p ∷ ps) [] x y = []
pixel_lines_from w (p ∷ ps) (entries ∷ rest) x y = pixel_lines w p entries x y ∷ pixel_lines_from (frame_step w (frame_content p entries)) ps rest x y

-- the lines of a pixel of a scene's frame by a journal; none where there is no such frame
abbrev pub scene_pixel_lines : Scene → Journal → (k x y : ℕ) → List ℕ
scene_pixel_lines s j k x y = slice_index_or (pixel_lines_from (first_world s.width s.height) (plans s) j x y) k []

-- ---- by index

-- the lines of a pixel of a frame by index that begins in stores, with whose its deeds are
abbrev pub lines_in : Stores → FrameData → List Doer → (x y : ℕ) → List ℕ
lines_in h f ds x y = stroke_lines ds (pixel_at h.back x y) (history_in x y 0 (begun_in h f) (deeds_in f))
