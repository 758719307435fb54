-- The clears of views, as wipes of their target.
use Rattle.std.proofs.Common.{◌≡◌, ℕ, List, [], ◌∷◌, map, refl, ap, sym, ◌∙◌}
use Rattle.std.specs.Prelude.{fold}
use Rattle.gfx_model.specs.Views.{View}
use Rattle.gfx_model.specs.World.{Surface, clear_surface}
use Rattle.pass_laws.specs.Passed.{Turn, all_cleared}
use Rattle.int_raster.specs.Wiping.{wiped}
use Rattle.view_drawing.specs.Cleared.{wiping_of, wipings_of}

-- a clear is a wipe
one_wiped : (width height : ℕ) (v : View) (s : Surface) → s.color.width ≡ width → s.color.height ≡ height → wiped s (wiping_of width height v) ≡ clear_surface v s
one_wiped width height v s ew eh = sym (λ i. wiped s (wiping_of (ew i) (eh i) v))

-- clears keep the sides of a surface
pub cleared_wide : (s : Surface) (ts : List Turn) → (all_cleared s ts).color.width ≡ s.color.width
cleared_wide s [] = refl
cleared_wide s (t ∷ ts) = cleared_wide (clear_surface t.view s) ts

pub cleared_high : (s : Surface) (ts : List Turn) → (all_cleared s ts).color.height ≡ s.color.height
cleared_high s [] = refl
cleared_high s (t ∷ ts) = cleared_high (clear_surface t.view s) ts

-- clears are wipes
pub all_wiped : (width height : ℕ) (s : Surface) (ts : List Turn) → s.color.width ≡ width → s.color.height ≡ height → fold wiped s (wipings_of width height ts) ≡ all_cleared s ts
all_wiped width height s [] ew eh = refl
all_wiped width height s (t ∷ ts) ew eh =
    ap (λ x. fold wiped x (wipings_of width height ts)) (one_wiped width height t.view s ew eh)
    ∙ all_wiped width height (clear_surface t.view s) ts ew eh
