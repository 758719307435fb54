-- Pictures that are whole.
use Rattle.std.specs.Prelude.{◌≡◌, ℕ, ◌*◌, length}
use Rattle.std.specs.List.{AllByRecursion}
use Rattle.gfx_model.specs.Raster.{Texels}
use Rattle.gfx_model.specs.Vertex.{Color}
use Rattle.gfx_model.specs.Views.{Views, view_at}
use Rattle.scene_model.specs.Scene.{Scene}
use Rattle.scene_model.specs.Fold.{plans}
use Rattle.scene_model.specs.Journal.{Journal, IsLawful, pictures}
use Rattle.scene_model.specs.Output.{pictures_text}
use Rattle.spelling_model.specs.Readable.{IsReadable}

-- a colour of four bytes
abbrev pub IsFour : Color → Type 0
IsFour c = length c ≡ 4

-- texels of these sides, one of four bytes for each pixel
pub record AreWhole (width height : ℕ) (t : Texels) : Type 0 where
  pub width_is : t.width ≡ width
  pub height_is : t.height ≡ height
  pub many : length t.texels ≡ width * height
  pub four : AllByRecursion IsFour t.texels

-- each view clears to a colour of four bytes
abbrev pub ClearsToColors : Views → Type 0
ClearsToColors vs = (v : ℕ) → IsFour (view_at vs v).clear.color

-- the views of each frame do
abbrev pub HasClears : Scene → Type 0
HasClears s = AllByRecursion (λ p. ClearsToColors p.views) (plans s)

-- the pictures of such a scene are whole, by any journal
abbrev pub ClearedLaw : Type 0
ClearedLaw = (s : Scene) (j : Journal) → HasClears s → AllByRecursion (AreWhole s.width s.height) (pictures s j)

-- the pictures of a readable scene are whole, by any journal
abbrev pub WholeLaw : Type 0
WholeLaw = (s : Scene) (j : Journal) → IsReadable s → AllByRecursion (AreWhole s.width s.height) (pictures s j)

-- the texts of a readable scene's pictures are of one length in all, by any lawful journal
abbrev pub LengthLaw : Type 0
LengthLaw = (s : Scene) (j k : Journal) → IsReadable s → IsLawful s j → IsLawful s k → length (pictures_text s j) ≡ length (pictures_text s k)
