-- To which deed of a frame of a scene each pixel is due.
use Rattle.std.specs.Prelude.{ℕ, ◌*◌, ◌/◌, ◌%◌, List, [], map, Option, Some, None, slice_get}
use Rattle.std.specs.List.{range_with_len}
use Rattle.scene_model.specs.Scene.{Scene}
use Rattle.scene_model.specs.Journal.{Journal}
use Rattle.trace_laws.specs.Moments.{Moment, moments}
use Rattle.frame_blame.specs.Blame.{numbers_text, pixel_blame}

-- numbers of the pixels of a picture, row by row from the top
abbrev pub by_rows : (width height : ℕ) → (number : (x y : ℕ) → ℕ) → List ℕ
by_rows width height number = map (λ i. number (i % width) (i / width)) (range_with_len 0 (width * height))

-- the deed to which each pixel of the back buffer is due in a frame that begins at a moment, as a picture; none where there is no such frame
abbrev pub blame_at : Option Moment → List ℕ
blame_at (Some m) =
    let picture = m.world.back.color in
    numbers_text picture.width picture.height (by_rows picture.width picture.height (pixel_blame m.world m.content))
blame_at None = []

-- the same of frame k of a scene by a journal
abbrev pub scene_blame_text : Scene → Journal → (k : ℕ) → List ℕ
scene_blame_text s j k = blame_at (slice_get (moments s j) k)
