-- What the frames of a scene leave that were played and rendered.
use Rattle.std.specs.Prelude.{◌≡◌, ℕ, Bool, List, []}
use Rattle.gfx_model.specs.World.{first_world}
use Rattle.scene_model.specs.Scene.{Scene}
use Rattle.scene_model.specs.Journal.{Journal}
use Rattle.store_laws.specs.ByIndex.{first_stores}
use Rattle.frame_record.specs.declared.frame.Frame.{Frame}
use Rattle.frame_record.specs.declared.frame.Outcome.{Outcome}
use Rattle.frame_record.specs.declared.frame.RenderedFrame.{RenderedFrame}
use Rattle.render_core.specs.Rendered.{Rendering, AreRendered}
use Rattle.scene_playing.specs.Frames.{ArePlayed}

-- a renderer of the scene's sides that has rendered nothing
pub record IsNew (s : Scene) (r : Rendering) : Type 0 where
  pub stores : r.stores ≡ first_stores (first_world s.width s.height).back
  pub outcomes : r.outcomes ≡ []

-- the frames of the scene were played, and those that were given were rendered one after another
pub record AreShown (s : Scene) (old : Rendering) (journal : Journal) (notes : List (ℕ × ℕ)) (outcome : Outcome) (is_whole : Bool) (new : Rendering) : Type 0 where
  pub given : List Frame
  pub back : List RenderedFrame
  pub played : ArePlayed s given back journal notes outcome is_whole
  pub frames : ∥ AreRendered old back new ∥₁
