-- How many fragments of a draw pass both tests.
use Rattle.std.specs.Prelude.{ℕ, ◌+◌, ◌/◌, ◌%◌, if◌then◌else◌, List, [], ◌∷◌, map, sum_by, fold, Some, unwrap_or}
use Rattle.gfx_model.specs.Number.{map_from}
use Rattle.gfx_model.specs.Vertex.{Color}
use Rattle.gfx_model.specs.Raster.{covers, fragment_at}
use Rattle.gfx_model.specs.Pixel.{Pixel, pixel_step}
use Rattle.gfx_model.specs.World.{Facing}
use Rattle.pixel_ops.specs.Tests.{passes_tests}

-- the colour of each fragment; the tests do not read it
abbrev pub white : Color
white = 255 ∷ 255 ∷ 255 ∷ 255 ∷ []

-- a pixel with a depth word, which is the depth plus 2^24 times the stencil
abbrev pub pixel_of : ℕ → Pixel
pixel_of word = record { color = white; depth = Some word }

-- the depth word of a pixel
abbrev pub word_of : Pixel → ℕ
word_of p = unwrap_or p.depth 0

-- a pixel's depth word, and how many fragments have passed both tests there
pub record Counted : Type 0 where
  pub word : ℕ
  pub passed : ℕ

-- a pixel at which nothing is counted yet
abbrev pub fresh : ℕ → Counted
fresh word = record { word = word; passed = 0 }

-- a pixel after a fragment of a depth: the pixel step, and one more where the fragment passes the stencil test and the depth test
abbrev pub after_fragment : (state stencil depth : ℕ) → Counted → Counted
after_fragment state stencil depth p = record {
  word = word_of (pixel_step (pixel_of p.word) (record { color = white; depth = depth }) state stencil);
  passed = p.passed + (if passes_tests (Some p.word) depth state stencil then 1 else 0);
}

-- a pixel that a triangle covers, after it
abbrev pub covered_count : ℕ → Facing → ℕ → ℕ → Counted → Counted
covered_count state f x y p = after_fragment state f.stencil (fragment_at f.triangle x y).depth p

-- a pixel after a triangle
abbrev pub triangle_count : ℕ → ℕ → ℕ → Counted → Facing → Counted
triangle_count state x y p f = if covers f.triangle x y then covered_count state f x y p else p

-- the pixels of a target of a width, row by row from the top, after triangles in their order, each pixel by itself
abbrev pub counted_by : (width state : ℕ) → List Facing → List Counted → List Counted
counted_by width state facings pixels = map_from (λ i p. fold (triangle_count state (i % width) (i / width)) p facings) 0 pixels

-- the pixels after a draw of these triangles on the depth words of a target
abbrev pub counted_on : (width state : ℕ) → List Facing → List ℕ → List Counted
counted_on width state facings words = counted_by width state facings (map fresh words)

-- the depth words of pixels
abbrev pub words_in : List Counted → List ℕ
words_in pixels = map (λ p. p.word) pixels

-- the pairs of triangle and pixel whose fragment passed
abbrev pub passed_in : List Counted → ℕ
passed_in pixels = sum_by (λ p. p.passed) pixels
