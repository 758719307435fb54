-- A change of a surface that keeps the sides of its textures; a clear is one.
use Rattle.std.proofs.Common.{◌≡◌, ℕ, List, Option, Some, None, refl}
use Rattle.std.specs.Prelude.{option_map}
use Rattle.gfx_model.specs.Raster.{Texels}
use Rattle.gfx_model.specs.Views.{View}
use Rattle.gfx_model.specs.World.{Surface, clear_surface}

abbrev pub sides : Texels → ℕ × ℕ
sides t = (t.width, t.height)

-- a change of surfaces keeps their sides
pub record KeepsSides (change : Surface → Surface) : Type 0 where
  pub wide : (s : Surface) → (change s).color.width ≡ s.color.width
  pub high : (s : Surface) → (change s).color.height ≡ s.color.height
  pub deep : (s : Surface) → option_map sides (change s).depth ≡ option_map sides s.depth

pub map_sides : (texels : List Rattle.gfx_model.specs.Vertex.Color) (o : Option Texels) → option_map sides (option_map (Rattle.gfx_model.specs.World.with_texel_list texels) o) ≡ option_map sides o
map_sides texels None = refl
map_sides texels (Some t) = refl

pub clear_sides : (view : View) → KeepsSides (clear_surface view)
clear_sides view = record { wide = λ s. refl; high = λ s. refl; deep = λ s. map_sides _ s.depth }
