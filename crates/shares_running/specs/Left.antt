-- The views that are left of a scene's frames when harmless ones are left out.
use Rattle.std.specs.Prelude.{◌≡◌, ℕ, List, [], ◌∷◌, map, length, Some, slice_get, ⊤}
use Rattle.gfx_model.specs.World.{World, first_world}
use Rattle.store_laws.specs.ByIndex.{Stores, first_stores}
use Rattle.scene_model.specs.Scene.{Scene}
use Rattle.scene_model.specs.Fold.{FramePlan, plans}
use Rattle.shared_keys.specs.Lines.{shared_views}
use Rattle.frame_record.specs.declared.frame.Frame.{Frame}
use Rattle.render_core.specs.Seen.{frame_seen, recordings_of}
use Rattle.bare_worlds.specs.Bare.{bare_worlds, bare_stores, bare_after, begun_by}
use Rattle.bare_worlds.specs.Views.{IsHarmlessView}
use Rattle.harmless_views.specs.Left.{AreLeft, IsNotHarmless, HasLeft}
use Rattle.shares_running.specs.Listed.{lines_of}

-- of each frame of a scene the views in which two encoders share a key, without those that are harmless in the world in which nothing is drawn
pub record AreLeftOf (s : Scene) (lists : List (List (ℕ × (ℕ × ℕ)))) : Type 0 where
  pub many : length lists ≡ length (plans s)
  pub each : (k : ℕ) (p : FramePlan) (w : World) (kept : List (ℕ × (ℕ × ℕ))) → slice_get (plans s) k ≡ Some p → slice_get (bare_worlds s) k ≡ Some w → slice_get lists k ≡ Some kept
      → AreLeft (IsHarmlessView w p) (IsNotHarmless w p) (shared_views p) kept

-- a text is the lines of such views
abbrev pub HasLeftLines : Scene → List ℕ → Type 0
HasLeftLines s text = (lists : List (List (ℕ × (ℕ × ℕ)))) × (AreLeftOf s lists × (text ≡ lines_of 0 lists))

-- ---- frames that are judged one after another

-- the lists of frames of which the first begins in stores
abbrev pub AreJudged : Stores → List Frame → List (List (ℕ × (ℕ × ℕ))) → Type 0
AreJudged h [] [] = ⊤
AreJudged h (f ∷ fs) (kept ∷ lists) = HasLeft (begun_by h (frame_seen f)) f.views (recordings_of f) kept × AreJudged (bare_after h (frame_seen f)) fs lists
AreJudged h _ _ = ⊥

-- the same of frames that begin in empty stores with a back buffer of these sides
abbrev pub AreJudgedFrom : (width height : ℕ) → List (List (ℕ × (ℕ × ℕ))) → List Frame → Type 0
AreJudgedFrom width height lists frames = AreJudged (first_stores (first_world width height).back) frames lists

-- so many frames are judged, and their commands are executed
abbrev pub Judges : (width height : ℕ) → Stores → List (List (ℕ × (ℕ × ℕ))) → List Frame → Type 0
Judges width height h lists frames = (h ≡ bare_stores width height (map frame_seen frames)) × AreJudgedFrom width height lists frames
