-- What holds of the lines, and of the marks of a frame's items.
use Rattle.std.specs.Prelude.{◌≡◌, ◌↔◌, ℕ, false, List, [], length, Some, slice_get}
use Rattle.std.specs.List.{AllByRecursion}
use Rattle.gfx_model.specs.Views.{view_count}
use Rattle.scene_model.specs.Scene.{Scene}
use Rattle.scene_model.specs.Fold.{FramePlan, plans}
use Rattle.scene_model.specs.Journal.{Entry, Journal, IsLawfulFrame, IsLawful, shares_key, pictures}
use Rattle.shared_keys.specs.declared.marks.Mark.{Mark}
use Rattle.shared_keys.specs.Pairs.{sharing_views}
use Rattle.shared_keys.specs.Lines.{shared_views, shared_lines}
use Rattle.shared_keys.specs.Marks.{marks_share, marks_by, AreMarksOf, IsMarkOf, IsThere}

-- each accepted item of a scene is of a view that is there, and what a draw draws with is a program
abbrev pub ThereLaw : Type 0
ThereLaw = (s : Scene) (k : ℕ) (p : FramePlan) → slice_get (plans s) k ≡ Some p → AllByRecursion (λ a. AllByRecursion (IsThere (view_count p.views)) a.items) p.encoders

-- marks that are just those of the items of a scene's frame are of its views and encoders, and tell the definition's views
abbrev pub MarksLaw : Type 0
MarksLaw = (s : Scene) (k : ℕ) (p : FramePlan) (marks : List Mark) → slice_get (plans s) k ≡ Some p → AreMarksOf p marks
    → AllByRecursion (IsMarkOf (view_count p.views) (length p.encoders)) marks × (sharing_views (marks_share marks) (length p.encoders) (view_count p.views) ≡ shared_views p)

-- the marks of the items in the order of a lawful journal are just those of the frame's items
abbrev pub JournalMarksLaw : Type 0
JournalMarksLaw = (p : FramePlan) (entries : List Entry) → IsLawfulFrame p entries → AreMarksOf p (marks_by p entries)

-- there is no line exactly where no two encoders share a key
abbrev pub NoLineLaw : Type 0
NoLineLaw = (s : Scene) → (shared_lines s ≡ []) ↔ (shares_key s ≡ false)

-- where there is no line, any two lawful journals give the same pictures
abbrev pub FreeLaw : Type 0
FreeLaw = (s : Scene) (j k : Journal) → shared_lines s ≡ [] → IsLawful s j → IsLawful s k → pictures s j ≡ pictures s k
