-- The laws of blame.
use Rattle.std.specs.Prelude.{◌≡◌, ℕ}
use Rattle.gfx_model.specs.World.{World, FrameContent}
use Rattle.store_laws.specs.ByIndex.{Stores, FrameData}
use Rattle.trace_laws.specs.ByIndex.{IsTraced}
use Rattle.frame_blame.specs.Blame.{blame_in, pixel_blame}

-- where a frame by index is traced as the definition's, the deed that gave a pixel its colour last is the definition's
abbrev pub BlameLaw : Type 0
BlameLaw = (h : Stores) (w : World) (f : FrameData) (content : FrameContent) → IsTraced h w f content → (x y : ℕ) → blame_in h f x y ≡ pixel_blame w content x y
