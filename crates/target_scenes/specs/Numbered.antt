-- The lines of the history of a frame buffer's pixel, each item with the number of the line of the scene's text that records it.
use Rattle.std.specs.Prelude.{ℕ, if◌then◌else◌, List, [], ◌∷◌, ◌++◌, Option, Some, None, option_and_then, slice_get, decimal, codes}
use Rattle.gfx_model.specs.Words.{Handle}
use Rattle.gfx_model.specs.Pixel.{Pixel}
use Rattle.gfx_model.specs.Frames.{Entry}
use Rattle.gfx_model.specs.World.{surface_of}
use Rattle.scene_model.specs.Scene.{Scene}
use Rattle.scene_model.specs.Fold.{FramePlan, plans}
use Rattle.scene_model.specs.Journal.{Journal}
use Rattle.trace_laws.specs.Deeds.{begun}
use Rattle.trace_laws.specs.Doers.{Doer, doers}
use Rattle.trace_laws.specs.Moments.{Moment, moments}
use Rattle.trace_laws.specs.Text.{pixel_text, doer_text}
use Rattle.trace_lines.specs.Numbered.{line_of, number_text, numbered_line}
use Rattle.target_laws.specs.Names.{target_named}
use Rattle.target_laws.specs.Targets.{TargetStroke, own_stroke, left_stroke, after_target_stroke, TargetMade, has_pixel, target_pixel, target_history}

-- what stood before another deed, and what it leaves
abbrev pub left_text : (before after : Pixel) → List ℕ
left_text p q = codes " was " ++ (pixel_text p ++ (codes " is " ++ (pixel_text q ++ codes " changed\n")))

-- the line of a stroke of a deed on a pixel, as `target_line`, with a number behind whose the deed is
abbrev pub numbered_target_line : ℕ → Option Doer → Option ℕ → Pixel → TargetStroke → List ℕ
numbered_target_line deed doer line p (own_stroke s) = numbered_line deed doer line p s
numbered_target_line deed doer line p (left_stroke q) =
    codes "deed " ++ (decimal deed ++ (doer_text doer ++ (number_text line ++ left_text p q)))

-- the lines of strokes in order, from a pixel on
abbrev pub numbered_target_lines : List (List ℕ) → List Doer → Pixel → List TargetMade → List ℕ
numbered_target_lines numbers ds p [] = []
numbered_target_lines numbers ds p (m ∷ ms) =
    numbered_target_line m.deed (slice_get ds m.deed) (line_of numbers (slice_get ds m.deed)) p m.stroke ++ numbered_target_lines numbers ds (after_target_stroke p m.stroke) ms

-- the lines of a pixel of a frame buffer in a frame that begins at a moment, where it has the pixel
abbrev pub target_lines_from : List (List ℕ) → Moment → FramePlan → List Entry → (x y : ℕ) → Option Handle → Option (List ℕ)
target_lines_from numbers m p entries x y None = None
target_lines_from numbers m p entries x y (Some t) =
    if has_pixel (surface_of (begun m.world m.content) (Some t)) x y
    then Some (numbered_target_lines numbers (doers p entries) (target_pixel (begun m.world m.content) t x y) (target_history m.world m.content t x y)) else None

-- the same of a frame that is there
abbrev pub target_lines_at : List (List ℕ) → Scene → (k : ℕ) → (name : List ℕ) → (x y : ℕ) → Option Moment → Option FramePlan → Option (List Entry) → Option (List ℕ)
target_lines_at numbers s k name x y (Some m) (Some p) (Some entries) = target_lines_from numbers m p entries x y (target_named s k name m.content.views)
target_lines_at numbers s k name x y _ _ _ = None

-- the lines of a pixel of the frame buffer of a name in frame k of a scene by a journal; none where there is no such frame, frame buffer or pixel
abbrev pub scene_numbered_target_lines : List (List ℕ) → Scene → Journal → (k : ℕ) → (name : List ℕ) → (x y : ℕ) → Option (List ℕ)
scene_numbered_target_lines numbers s j k name x y = target_lines_at numbers s k name x y (slice_get (moments s j) k) (slice_get (plans s) k) (slice_get j k)

-- the frame buffer of a name in frame k of a scene, where a view of the frame draws on it; none where there is no such frame
abbrev pub scene_target_named : Scene → (k : ℕ) → (name : List ℕ) → Option Handle
scene_target_named s k name = option_and_then (λ p. target_named s k name p.views) (slice_get (plans s) k)
