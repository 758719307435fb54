-- Views that are left when harmless ones are left out.
use Rattle.std.specs.Prelude.{◌≡◌, ◌⊎◌, ℕ, List, [], ◌∷◌, Some, None, slice_get}
use Rattle.gfx_model.specs.Frames.{Entry, Recorded}
use Rattle.gfx_model.specs.Views.{Views}
use Rattle.gfx_model.specs.World.{World, Draw, draw_item}
use Rattle.store_laws.specs.ByIndex.{Stores}
use Rattle.scene_model.specs.Scene.{Scene}
use Rattle.scene_model.specs.Fold.{FramePlan, plans}
use Rattle.scene_model.specs.Journal.{item_of}
use Rattle.scene_laws.specs.Gathered.{IsGathered}
use Rattle.shared_keys.specs.Lines.{shared_views}
use Rattle.covered_rows.specs.declared.runs.Run.{Run}
use Rattle.covered_rows.specs.Apart.{AreApart}
use Rattle.bare_worlds.specs.Laws.{IsShapedIn}
use Rattle.bare_worlds.specs.Views.{IsHarmlessView}
use Rattle.harmless_views.specs.Checked.{Looked, AllChecked}

-- a view draws onto the back buffer, all entries are checked, and no two encoders' runs of one key meet
abbrev pub IsJudged : Looked → List Recorded → List Entry → Type 0
IsJudged k rs entries = (k.view.target ≡ None) × ((runs : List Run) × (AllChecked k runs rs entries × AreApart runs))

-- views without some that have a property; those that are kept have another
abbrev pub AreLeft : (P Q : ℕ → Type 0) → (all kept : List (ℕ × (ℕ × ℕ))) → Type 0
AreLeft P Q [] kept = kept ≡ []
AreLeft P Q (x ∷ xs) kept = (P x.0 × AreLeft P Q xs kept) ⊎ (Q x.0 × ((rest : List (ℕ × (ℕ × ℕ))) × ((kept ≡ x ∷ rest) × AreLeft P Q xs rest)))

-- each draw of a frame takes its triangles from the same things of the begun stores and of the world, and the stores have its program
abbrev pub AreShaped : Stores → FramePlan → World → Type 0
AreShaped h p w = (n : Entry) (d : Draw) → item_of p.encoders n ≡ Some (draw_item d) → IsShapedIn h w d

-- a view is not harmless
abbrev pub IsNotHarmless : World → FramePlan → ℕ → Type 0
IsNotHarmless w p v = IsHarmlessView w p v → ⊥

-- the views of a frame that begins in stores, in which two encoders share a key, without those that are harmless: of whatever scene's frame it is
abbrev pub HasLeft : Stores → Views → List Recorded → (kept : List (ℕ × (ℕ × ℕ))) → Type 0
HasLeft h vs rs kept =
    (s : Scene) (k : ℕ) (p : FramePlan) (w : World) → slice_get (plans s) k ≡ Some p → vs ≡ p.views → IsGathered p rs → AreShaped h p w
    → AreLeft (IsHarmlessView w p) (IsNotHarmless w p) (shared_views p) kept
