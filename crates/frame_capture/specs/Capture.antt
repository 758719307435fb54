-- Which bytes are the capture of some pictures.
use Rattle.std.specs.Prelude.{◌≡◌, ◌≢◌, ◌≤◌, ◌<◌, ◌+◌, ℕ, List, [], ◌∷◌, ◌++◌, length, flat_map, replicate, codes, ⊤}
use Rattle.std.specs.Int.{w16, w32, to_le_bytes}
use Rattle.frame_capture.specs.declared.run.Color.{Color}
use Rattle.frame_capture.specs.declared.run.Run.{Run}
use Rattle.frame_capture.specs.Film.{Film, CanBeCaptured, color_bytes}

-- a run's bytes: its count and its colour
abbrev pub run_bytes : Run → List ℕ
run_bytes r = r.count ∷ color_bytes r.color

-- the pixels that a run stands for
abbrev pub run_pixels : Run → List Color
run_pixels r = replicate r.count r.color

-- their bytes in a picture text
abbrev pub run_text : Run → List ℕ
run_text r = flat_map color_bytes (run_pixels r)

-- a run that is not full is followed by a run of another colour, or by none
abbrev pub MayGoOn : Run → List Run → Type 0
MayGoOn r [] = ⊤
MayGoOn r (next ∷ rs) = r.count < 255 → r.color ≢ next.color

-- the runs of a frame: each is of 1 to 255 pixels, and none could have been longer
abbrev pub AreRuns : List Run → Type 0
AreRuns [] = ⊤
AreRuns (r ∷ rs) = (1 ≤ r.count) × (r.count ≤ 255) × MayGoOn r rs × AreRuns rs

-- the bytes are runs that stand for these pixels
pub record AreRunsOf (bytes : List ℕ) (picture : List Color) : Type 0 where
  pub runs : List Run
  pub lawful : AreRuns runs
  pub stand_for : picture ≡ flat_map run_pixels runs
  pub spelled : bytes ≡ flat_map run_bytes runs

-- the bytes are the frames of these pictures from number k on: each is its number and its runs
abbrev pub AreFrames : (k : ℕ) → (bytes : List ℕ) → (pictures : List (List Color)) → Type 0
AreFrames k bytes [] = bytes ≡ []
AreFrames k bytes (p ∷ ps) =
    (runs : List ℕ) × (others : List ℕ) × (bytes ≡ to_le_bytes w32 k ++ (runs ++ others)) × AreRunsOf runs p × AreFrames (k + 1) others ps

-- the mark, the sides and the number of frames
abbrev pub head_of : (width height frames : ℕ) → List ℕ
head_of width height frames = codes "GFX1" ++ (to_le_bytes w16 width ++ (to_le_bytes w16 height ++ to_le_bytes w32 frames))

-- the bytes are the capture of these pictures: a head, and the frames from number 0 on
pub record IsCapture (bytes : List ℕ) (f : Film) : Type 0 where
  pub frames : List ℕ
  pub can : CanBeCaptured f
  pub spelled : bytes ≡ head_of f.width f.height (length f.pictures) ++ frames
  pub framed : AreFrames 0 frames f.pictures
