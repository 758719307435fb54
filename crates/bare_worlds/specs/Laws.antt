-- Laws of frames of which no item is done.
use Rattle.std.specs.Prelude.{◌≡◌, ℕ, None, Some, take, slice_get}
use Rattle.gfx_model.specs.World.{World, Draw, draw_item, vertex_range, index_range}
use Rattle.store_model.specs.Slots.{at}
use Rattle.store_laws.specs.ByIndex.{Stores, FrameData, vertices_at, indices_at}
use Rattle.scene_model.specs.Scene.{Scene}
use Rattle.scene_model.specs.Fold.{FramePlan, plans}
use Rattle.scene_model.specs.Journal.{Entry, Journal, IsLawful, item_of, pictures}
use Rattle.scene_laws.specs.SceneFrames.{HasColors, scene_frames}
use Rattle.shared_keys.specs.Members.{In}
use Rattle.shared_keys.specs.Lines.{shared_views}
use Rattle.bare_worlds.specs.Bare.{bare_worlds, bare_stores, begun_by}
use Rattle.bare_worlds.specs.Views.{IsHarmlessView}

-- what a draw takes its triangles from is in the stores what it is in the world, the back buffers have the same sides, and the stores have the draw's program
pub record IsShapedIn (h : Stores) (w : World) (d : Draw) : Type 0 where
  pub width : h.back.color.width ≡ w.back.color.width
  pub height : h.back.color.height ≡ w.back.color.height
  pub vertices : vertices_at h.buffers d.vertices ≡ vertex_range w d.vertices
  pub indices : indices_at h.buffers d.indices ≡ index_range w d.indices
  pub program : at h.programs d.program.index ≡ None → ⊥

-- the stores in which nothing is drawn of a scene's frames by index, when a frame's first commands are executed, stand for the world in which its
-- items begin where no item is done: each draw of the frame takes its triangles from the same
abbrev pub ShapedLaw : Type 0
ShapedLaw = (s : Scene) (j : Journal) → HasColors s → (k : ℕ) (f : FrameData) (p : FramePlan) (w : World) (n : Entry) (d : Draw)
    → slice_get (scene_frames s j) k ≡ Some f → slice_get (plans s) k ≡ Some p → slice_get (bare_worlds s) k ≡ Some w → item_of p.encoders n ≡ Some (draw_item d)
    → IsShapedIn (begun_by (bare_stores s.width s.height (take k (scene_frames s j))) f) w d

-- where each view of each frame in which two encoders share a key is harmless in the world in which nothing is drawn, any two lawful journals give the same pictures
abbrev pub HarmlessLaw : Type 0
HarmlessLaw = (s : Scene) (j k : Journal)
    → ((n : ℕ) (p : FramePlan) (w : World) (x : ℕ × (ℕ × ℕ)) → slice_get (plans s) n ≡ Some p → slice_get (bare_worlds s) n ≡ Some w → In x (shared_views p) → IsHarmlessView w p x.0)
    → IsLawful s j → IsLawful s k → pictures s j ≡ pictures s k
