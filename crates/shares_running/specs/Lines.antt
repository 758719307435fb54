-- The lines that a run puts.
use Rattle.std.specs.Prelude.{◌≡◌, ℕ, ◌+◌, List, [], ◌∷◌, ◌++◌, map}
use Rattle.gfx_model.specs.Frames.{Entry}
use Rattle.scene_model.specs.Scene.{Scene}
use Rattle.scene_model.specs.Fold.{plans}
use Rattle.shared_keys.specs.Lines.{shared_lines}
use Rattle.shared_items.specs.Items.{frame_pairs}
use Rattle.shared_items.specs.Lines.{paired_lines}
use Rattle.item_lines.specs.Items.{item_lines}
use Rattle.shares_running.specs.Left.{HasLeftLines}
use Rattle.shares_running.specs.declared.words.Job.{Job}
use Rattle.shares_running.specs.declared.words.Job.TheVariants as jobs

-- the lines of frames' pairs, the first of which is of frame k, with the numbers of the lines of a scene's text that record the items
abbrev pub pairs_from : (bytes : List ℕ) → Scene → (k : ℕ) → List (List (ℕ × (Entry × Entry))) → List ℕ
pairs_from bytes s k [] = []
pairs_from bytes s k (pairs ∷ rest) = paired_lines k (item_lines bytes s k) pairs ++ pairs_from bytes s (k + 1) rest

-- two lines for each frame and view in which two encoders share a key: that of `shared_lines`, and behind it that of the least pair of items
abbrev pub pair_lines : (bytes : List ℕ) → Scene → List ℕ
pair_lines bytes s = pairs_from bytes s 0 (map frame_pairs (plans s))

-- a text is the lines that a job asks for of a scene that was read of bytes
abbrev pub IsText : Job → (bytes : List ℕ) → Scene → List ℕ → Type 0
IsText jobs.Views bytes s text = text ≡ shared_lines s
IsText jobs.Pairs bytes s text = text ≡ pair_lines bytes s
IsText jobs.Harmless bytes s text = ∥ HasLeftLines s text ∥₁
