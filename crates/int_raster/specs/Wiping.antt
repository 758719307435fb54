-- Rectangles of a surface that are cleared before its draws.
use Rattle.std.specs.Prelude.{ℕ, List, map}
use Rattle.gfx_model.specs.Number.{u32_at}
use Rattle.gfx_model.specs.Vertex.{Color}
use Rattle.gfx_model.specs.Raster.{Rect, contains}
use Rattle.gfx_model.specs.Views.{Clear}
use Rattle.gfx_model.specs.Pixel.{Pixel}
use Rattle.gfx_model.specs.World.{Surface, cleared, cleared_color, cleared_word, on_each_pixel}
use Rattle.fix_math.specs.Seen.{rect_seen}
use Rattle.int_raster.specs.Places.{where_test}
use Rattle.int_raster.specs.declared.wipe.Wipe.{Wipe}

-- what is cleared of a rectangle
pub record Wiping : Type 0 where
  pub cut : Rect
  pub clear : Clear

-- a wipe of the code
abbrev pub wipe_seen : Wipe → Wiping
wipe_seen w = record { cut = rect_seen w.cut; clear = record { flags = w.flags; color = w.color; depth = w.depth; stencil = w.stencil } }

abbrev pub wipes_seen : List Wipe → List Wiping
wipes_seen ws = map wipe_seen ws

-- a pixel after a wipe
abbrev pub wiped_step : Wiping → ℕ → ℕ → Pixel → Pixel
wiped_step w = where_test (contains w.cut) (λ x y p. cleared w.clear p)

-- a surface after a wipe
abbrev pub wiped : Surface → Wiping → Surface
wiped s w = on_each_pixel (wiped_step w) s

-- ---- its parts

-- the texel everywhere
abbrev pub one_texel : Color → ℕ → ℕ → Color → Color
one_texel t x y old = t

-- the colour of a pixel after a wipe
abbrev pub wiped_color : Wiping → ℕ → ℕ → Color → Color
wiped_color w = where_test (contains w.cut) (λ x y c. cleared_color w.clear c)

-- the depth word that a texel holds
abbrev pub word_in : Color → ℕ
word_in z = u32_at z 0

-- the depth word of a pixel after a wipe
abbrev pub wiped_word : Wiping → ℕ → ℕ → ℕ → ℕ
wiped_word w = where_test (contains w.cut) (λ x y word. cleared_word w.clear word)
