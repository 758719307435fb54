-- Depth words with one count for all pixels.
use Rattle.std.specs.Prelude.{◌≡◌, ℕ, ◌/◌, ◌%◌, ◌||◌, ◌==◌, if◌then◌else◌, Bool, List, Option, option_and_then, filter_map}
use Rattle.gfx_model.specs.Vertex.{Triangle}
use Rattle.gfx_model.specs.Raster.{ScreenVertex}
use Rattle.gfx_model.specs.World.{Facing, all_three}
use Rattle.tri_cover.specs.Shown.{Shown, setup_seen, shown_unless_culled}
use Rattle.tri_cover.specs.declared.triangles.Setup.{Setup}
use Rattle.gfx_query.specs.Counting.{Counted, words_in, passed_in, triangle_count}

-- the words are those of the pixels, and the count is the sum of theirs
pub record Stand (words : List ℕ) (passed : ℕ) (pixels : List Counted) : Type 0 where
  pub words_are : words ≡ words_in pixels
  pub passed_is : passed ≡ passed_in pixels

-- a triangle with a stencil word
abbrev pub facing_with : ℕ → Setup → Facing
facing_with stencil s = record { triangle = (setup_seen s).triangle; stencil = stencil }

-- a triangle with the stencil word of the side that it shows
abbrev pub facing_shown : (front back : ℕ) → Shown → Facing
facing_shown front back s = record { triangle = s.triangle; stencil = if s.is_front || (back == 0) then front else back }

-- what a triangle does to the pixel of a place on a target of a width
abbrev pub place_change : (width state : ℕ) → Facing → ℕ → Counted → Counted
place_change width state f i p = triangle_count state (i % width) (i / width) p f

-- the same of a triangle that is ready to be drawn
abbrev pub facing_seen : (front back : ℕ) → Setup → Facing
facing_seen front back s = facing_shown front back (setup_seen s)

-- a triangle's corners on the target, if all are there, and the triangle is not culled
abbrev pub shown_of_corners : ℕ → Triangle (Option ScreenVertex) → Option Shown
shown_of_corners cull t = option_and_then (shown_unless_culled cull) (all_three t.a t.b t.c)

-- the triangles that are not culled
abbrev pub shown_of : ℕ → List (Triangle (Option ScreenVertex)) → List Shown
shown_of cull triangles = filter_map (shown_of_corners cull) triangles

-- the corners of a triangle of a strip, of which the first two may change places
abbrev pub turned : {V : Type 0} → Bool → V → V → V → Triangle V
turned odd a b c = if odd then record { a = b; b = a; c = c } else record { a = a; b = b; c = c }
