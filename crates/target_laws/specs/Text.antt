-- The lines of the history of a frame buffer's pixel.
use Rattle.std.specs.Prelude.{ℕ, if◌then◌else◌, List, [], ◌∷◌, ◌++◌, Option, Some, None, slice_get, decimal, codes}
use Rattle.gfx_model.specs.Words.{Handle}
use Rattle.gfx_model.specs.Pixel.{Pixel}
use Rattle.gfx_model.specs.Frames.{Entry}
use Rattle.gfx_model.specs.World.{World, FrameContent, surface_of}
use Rattle.scene_model.specs.Scene.{Scene}
use Rattle.scene_model.specs.Fold.{FramePlan, plans}
use Rattle.scene_model.specs.Journal.{Journal}
use Rattle.trace_laws.specs.Deeds.{begun}
use Rattle.trace_laws.specs.Doers.{Doer, doers}
use Rattle.trace_laws.specs.Moments.{Moment, moments}
use Rattle.trace_laws.specs.Text.{pixel_text, doer_text, stroke_line}
use Rattle.target_laws.specs.Names.{target_named}
use Rattle.target_laws.specs.Targets.{TargetStroke, own_stroke, left_stroke, after_target_stroke, TargetMade, has_pixel, target_pixel, target_history}

-- the line of a stroke: of a view that draws on the frame buffer as for the back buffer, of another deed what stood before it and what it leaves
abbrev pub target_line : ℕ → Option Doer → Pixel → TargetStroke → List ℕ
target_line deed doer p (own_stroke s) = stroke_line deed doer p s
target_line deed doer p (left_stroke q) =
    codes "deed " ++ (decimal deed ++ (doer_text doer ++ (codes " was " ++ (pixel_text p ++ (codes " is " ++ (pixel_text q ++ codes " changed\n"))))))

-- the lines of strokes in order, from a pixel on
abbrev pub target_lines : List Doer → Pixel → List TargetMade → List ℕ
target_lines ds p [] = []
target_lines ds p (m ∷ ms) = target_line m.deed (slice_get ds m.deed) p m.stroke ++ target_lines ds (after_target_stroke p m.stroke) ms

-- the lines of a pixel of a frame buffer in a frame that begins in a world, where it has the pixel
abbrev pub frame_target_lines : World → FramePlan → List Entry → FrameContent → (x y : ℕ) → Option Handle → Option (List ℕ)
frame_target_lines w p entries f x y None = None
frame_target_lines w p entries f x y (Some t) =
    if has_pixel (surface_of (begun w f) (Some t)) x y then Some (target_lines (doers p entries) (target_pixel (begun w f) t x y) (target_history w f t x y)) else None

-- the same of a frame that is there
abbrev pub target_lines_at : Scene → (k : ℕ) → (name : List ℕ) → (x y : ℕ) → Option Moment → Option FramePlan → Option (List Entry) → Option (List ℕ)
target_lines_at s k name x y (Some m) (Some p) (Some entries) = frame_target_lines m.world p entries m.content x y (target_named s k name m.content.views)
target_lines_at s k name x y _ _ _ = None

-- the lines of a pixel of the frame buffer of a name in frame k of a scene by a journal; none where there is no such frame, frame buffer or pixel
abbrev pub scene_target_lines : Scene → Journal → (k : ℕ) → (name : List ℕ) → (x y : ℕ) → Option (List ℕ)
scene_target_lines s j k name x y = target_lines_at s k name x y (slice_get (moments s j) k) (slice_get (plans s) k) (slice_get j k)
