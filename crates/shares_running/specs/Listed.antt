-- What is listed of the frames of a scene.
use Rattle.std.specs.Prelude.{◌≡◌, ℕ, ◌+◌, List, [], ◌∷◌, ◌++◌, map, length, take}
use Rattle.std.specs.declared.vec.Vec.{Vec}
use Rattle.gfx_model.specs.Frames.{Entry}
use Rattle.scene_model.specs.Scene.{Scene}
use Rattle.scene_model.specs.Fold.{FramePlan, plans}
use Rattle.scene_model.specs.Journal.{Journal}
use Rattle.shared_keys.specs.declared.marks.SharedView.{SharedView}
use Rattle.shared_keys.specs.Lines.{shared_views, frame_lines}
use Rattle.shared_keys.specs.Marks.{shared_seen}
use Rattle.shared_items.specs.declared.pairs.ItemPair.{ItemPair}
use Rattle.shared_items.specs.Items.{frame_pairs}
use Rattle.shared_items.specs.Seen.{pair_seen}
use Rattle.frame_record.specs.declared.frame.Frame.{Frame}
use Rattle.scene_playing.specs.Given.{HavePlans}

-- lists of views, each view with its pair of encoders
abbrev pub lists_seen : {A : Type 0} → List (Vec SharedView A) → List (List (ℕ × (ℕ × ℕ)))
lists_seen lists = map (λ l. map shared_seen l.items) lists

-- what is listed of frames is what is told of the plans of whatever scene's first frames they are
abbrev pub AreListedBy : {A : Type 0} → (FramePlan → A) → List A → List Frame → Type 0
AreListedBy told lists frames = (s : Scene) (journal : Journal) → HavePlans (plans s) journal frames → lists ≡ map told (take (length frames) (plans s))

-- the lists are the definition's shared views
abbrev pub AreListed : List (List (ℕ × (ℕ × ℕ))) → List Frame → Type 0
AreListed lists frames = AreListedBy shared_views lists frames

-- pairs of items, each with its view
abbrev pub pairs_seen : {A : Type 0} → List (Vec ItemPair A) → List (List (ℕ × (Entry × Entry)))
pairs_seen lists = map (λ l. map pair_seen l.items) lists

-- the lists are the definition's pairs
abbrev pub ArePaired : List (List (ℕ × (Entry × Entry))) → List Frame → Type 0
ArePaired lists frames = AreListedBy frame_pairs lists frames

-- the lines of lists, the first of which is of frame k
abbrev pub lines_of : (k : ℕ) → List (List (ℕ × (ℕ × ℕ))) → List ℕ
lines_of k [] = []
lines_of k (views ∷ rest) = frame_lines k views ++ lines_of (k + 1) rest
