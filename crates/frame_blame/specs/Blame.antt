-- The deed to which a pixel of the back buffer owes its colour.
use Rattle.std.specs.Prelude.{◌≡◌, ◌<◌, ℕ, ◌+◌, ◌*◌, ◌/◌, ◌%◌, ◌^◌, Bool, true, false, if◌then◌else◌, List, [], ◌∷◌, ◌++◌, flat_map, length, slice_index_or}
use Rattle.std.specs.List.{AllByRecursion}
use Rattle.gfx_model.specs.Number.{is_bit_set}
use Rattle.gfx_model.specs.Pixel.{Pixel}
use Rattle.gfx_model.specs.World.{World, FrameContent}
use Rattle.scene_model.specs.Output.{picture_header}
use Rattle.store_laws.specs.ByIndex.{Stores, FrameData}
use Rattle.trace_laws.specs.ByIndex.{begun_in, deeds_in, history_in}
use Rattle.trace_laws.specs.History.{Stroke, clear_stroke, fragment_stroke, after_stroke, Made, pixel_at, pixel_history, Fate, is_stored, fate_of}

-- whether a fragment is stored
abbrev pub stores : Fate → Bool
stores is_stored = true
stores _ = false

-- whether a stroke gives its pixel a colour: a clear that takes colours, not one of depth or stencil alone, or a fragment that is stored
abbrev pub gives_color : Pixel → Stroke → Bool
gives_color p (clear_stroke c) = is_bit_set c.flags 0
gives_color p (fragment_stroke triangle state stencil shaded) = stores (fate_of p (fragment_stroke triangle state stencil shaded))

-- the deeds whose strokes give a pixel a colour, in order
abbrev pub coloring_deeds : Pixel → List Made → List ℕ
coloring_deeds p [] = []
coloring_deeds p (m ∷ ms) = (if gives_color p m.stroke then m.deed ∷ [] else []) ++ coloring_deeds (after_stroke p m.stroke) ms

-- the last of these deeds, counted from 1; another number where there is none
abbrev pub last_or : ℕ → List ℕ → ℕ
last_or none [] = none
last_or none (deed ∷ deeds) = last_or (deed + 1) deeds

-- the deed that gave a pixel its colour last, counted from 1; 0 where none did
abbrev pub blame_of : Pixel → List Made → ℕ
blame_of p history = last_or 0 (coloring_deeds p history)

-- the same of a pixel of the back buffer in a frame
abbrev pub pixel_blame : World → FrameContent → (x y : ℕ) → ℕ
pixel_blame w f x y = blame_of (pixel_at w.back x y) (pixel_history w f x y)

-- the same of a frame by index
abbrev pub blame_in : Stores → FrameData → (x y : ℕ) → ℕ
blame_in h f x y = blame_of (pixel_at h.back x y) (history_in x y 0 (begun_in h f) (deeds_in f))

-- numbers of the pixels of a picture, row by row from the top; each can be told in three bytes
pub record AreNumbers (width height : ℕ) (number : (x y : ℕ) → ℕ) (numbers : List ℕ) : Type 0 where
  pub many : length numbers ≡ width * height
  pub each : (x y : ℕ) → x < width → y < height → slice_index_or numbers (y * width + x) 0 ≡ number x y
  pub small : AllByRecursion (λ n. n < 2 ^ 24) numbers

-- ---- as a picture

-- a number in three bytes, the greatest first
abbrev pub number_bytes : ℕ → List ℕ
number_bytes n = n / 2 ^ 16 % 256 ∷ n / 2 ^ 8 % 256 ∷ n % 256 ∷ []

-- numbers as a picture in the P6 format
abbrev pub numbers_text : (width height : ℕ) → List ℕ → List ℕ
numbers_text width height numbers = picture_header width height ++ flat_map number_bytes numbers
