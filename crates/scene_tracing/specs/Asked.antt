-- What is asked of a scene's play.
use Rattle.std.specs.Prelude.{◌≡◌, ℕ, List, map, Option, Some, None, ⊤}
use Rattle.std.specs.declared.vec.Vec.{Vec}
use Rattle.scene_model.specs.Scene.{Scene}
use Rattle.scene_model.specs.Fold.{plans}
use Rattle.scene_model.specs.Journal.{Journal, serial, fault_place}

-- the journal of a play: one that is given, or that of one thread
abbrev pub journal_asked : Scene → Option Journal → Journal
journal_asked s None = serial s
journal_asked s (Some j) = j

-- a journal that is given is lawful for the scene
abbrev pub IsLawfulOrder : Scene → Option Journal → Type 0
IsLawfulOrder s None = ⊤
IsLawfulOrder s (Some j) = fault_place (plans s) j ≡ None

-- the numbers of lines, of each encoder's items
abbrev pub numbers_told : {A : Type 0} → List (Vec ℕ A) → List (List ℕ)
numbers_told numbers = map (λ v. v.items) numbers
