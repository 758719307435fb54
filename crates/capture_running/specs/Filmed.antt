-- A scene's pictures as those of a capture.
use Rattle.std.specs.Prelude.{◌≡◌, ◌*◌, ℕ, List, length, map, slice_index_or, Ok}
use Rattle.gfx_model.specs.Raster.{Texels}
use Rattle.scene_model.specs.Scene.{Scene}
use Rattle.scene_model.specs.Journal.{Journal, pictures}
use Rattle.scene_model.specs.Output.{pictures_text}
use Rattle.frame_capture.specs.Film.{Film, text_length}
use Rattle.frame_capture.specs.Spelling.{color_of, film}
use Rattle.frame_capture.specs.Capture.{IsCapture}
use Rattle.frame_capture.specs.Fault.{shown}

-- the colours of a picture's pixels, each made of its red, green and blue; alpha is not kept
abbrev pub pixels_by : {X : Type 0} → (make : (red green blue : ℕ) → X) → Texels → List X
pixels_by make t = map (λ c. make (slice_index_or c 0 0) (slice_index_or c 1 0) (slice_index_or c 2 0)) t.texels

-- a scene's pictures by a journal
abbrev pub film_of : Scene → Journal → Film
film_of s j = film s.width s.height (map (pixels_by color_of) (pictures s j))

-- the bytes of the texts of all pictures that a scene has
abbrev pub all_texts_length : Scene → ℕ
all_texts_length s = length s.frames * text_length s.width s.height

-- picture texts of at most 128 MiB are captured
abbrev pub longest_texts : ℕ
longest_texts = 134217728

-- the bytes are the capture of a scene's pictures by a journal, and are read as the texts of these pictures
pub record IsCaptureOf (s : Scene) (journal : Journal) (bytes : List ℕ) : Type 0 where
  pub is : IsCapture bytes (film_of s journal)
  pub shows : shown bytes ≡ Ok (pictures_text s journal)
