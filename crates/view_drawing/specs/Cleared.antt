-- The clears of views, as wipes of their target.
use Rattle.std.specs.Prelude.{ℕ, List, map}
use Rattle.gfx_model.specs.Raster.{view_rect}
use Rattle.gfx_model.specs.Views.{View}
use Rattle.int_raster.specs.Wiping.{Wiping}
use Rattle.pass_laws.specs.Passed.{Turn}

-- what the clear of a view takes of a target of these sides
abbrev pub wiping_of : (width height : ℕ) → View → Wiping
wiping_of width height v = record { cut = view_rect v.rect width height; clear = v.clear }

-- the same of views
abbrev pub wipings_of : (width height : ℕ) → List Turn → List Wiping
wipings_of width height ts = map (λ t. wiping_of width height t.view) ts
