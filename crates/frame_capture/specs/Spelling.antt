-- How pictures are spelled: the longest runs from the left.
use Rattle.std.specs.Prelude.{◌≡◌, ℕ, zero, suc, ◌+◌, Bool, ◌&&◌, nat_lt, if◌then◌else◌, List, [], ◌∷◌, ◌++◌, take, drop, Option, Some, None}
use Rattle.std.specs.Int.{w32, to_le_bytes}
use Rattle.frame_capture.specs.declared.run.Color.{Color}
use Rattle.frame_capture.specs.declared.run.Run.{Run}
use Rattle.frame_capture.specs.Film.{Film, CanBeCaptured, texts}
use Rattle.frame_capture.specs.Capture.{run_bytes}
use Rattle.frame_capture.specs.Fault.{same_color}

-- pictures of these sides
abbrev pub film : (width height : ℕ) → List (List Color) → Film
film width height pictures = record { width = width; height = height; pictures = pictures }

-- the joined texts of these pictures, which can be captured
abbrev pub AreTextsOf : (width height : ℕ) → (bytes : List ℕ) → (pictures : List (List Color)) → Type 0
AreTextsOf width height bytes pictures = CanBeCaptured (film width height pictures) × (bytes ≡ texts (film width height pictures))

-- the joined texts of some pictures of these sides, which can be captured
abbrev pub AreTexts : (width height : ℕ) → (bytes : List ℕ) → Type 0
AreTexts width height bytes = (pictures : List (List Color)) × AreTextsOf width height bytes pictures

-- a pixel of this colour can be one more of the run
abbrev pub goes_on : Run → Color → Bool
goes_on r c = nat_lt r.count 255 && same_color r.color c

-- the color of three bytes
abbrev pub color_of : (red green blue : ℕ) → Color
color_of red green blue = record { red = red; green = green; blue = blue }

-- a run of so many pixels
abbrev pub run_with : ℕ → Color → Run
run_with count color = record { count = count; color = color }

-- the first pixel, and the bytes behind it
abbrev pub pixel_at : List ℕ → Option (Color × List ℕ)
pixel_at (red ∷ green ∷ blue ∷ bytes) = Some (color_of red green blue, bytes)
pixel_at bytes = None

-- the bytes of a run so far and of the pixels behind it
unfoldable pub runs_behind : Run → List ℕ → List ℕ
runs_behind r (red ∷ green ∷ blue ∷ pixels) =
    if goes_on r (color_of red green blue)
    then runs_behind (run_with (r.count + 1) r.color) pixels
    else run_bytes r ++ runs_behind (run_with 1 (color_of red green blue)) pixels
runs_behind r pixels = run_bytes r

-- the bytes of the runs of these pixels
unfoldable pub runs_of : List ℕ → List ℕ
runs_of (red ∷ green ∷ blue ∷ pixels) = runs_behind (run_with 1 (color_of red green blue)) pixels
runs_of pixels = []

-- the bytes of the frame of a picture text with so long a head
abbrev pub frame_of : (k head : ℕ) → (text : List ℕ) → List ℕ
frame_of k head text = to_le_bytes w32 k ++ runs_of (drop head text)

-- the bytes of the frames of so many picture texts of this length, from number k on
unfoldable pub frames_of : (head length k frames : ℕ) → (texts : List ℕ) → List ℕ
frames_of head length k zero texts = []
frames_of head length k (suc n) texts = frame_of k head (take length texts) ++ frames_of head length (k + 1) n (drop length texts)
