-- What names stand for, as a list of handles.
use Rattle.std.specs.Prelude.{◌≡◌, ℕ, ◌<◌, List, length, Option, Some, None, slice_index_or, slice_set, ⊤}
use Rattle.gfx_model.specs.Words.{Handle}
use Rattle.std.specs.List.{AllByRecursion}
use Rattle.scene_model.specs.Scene.{Name, ResourceLine, SceneFrame, Scene}
use Rattle.spelling_model.specs.Readable.{IsReadable}
use Rattle.scene_model.specs.Fold.{Bindings, thing_named, created_name}

-- the handle that a list has for a name; none where the name stands for nothing
abbrev pub handle_of : List (Option Handle) → Name → Option Handle
handle_of handles n = slice_index_or handles n None

-- the list has for each name what the name stands for
abbrev pub AreNamed : List (Option Handle) → Bindings → Type 0
AreNamed handles bs = (n : Name) → handle_of handles n ≡ thing_named bs n

-- the list when a name stands for what was made
abbrev pub with_bound : Option Name → Option Handle → List (Option Handle) → List (Option Handle)
with_bound None made handles = handles
with_bound (Some n) None handles = handles
with_bound (Some n) (Some h) handles = slice_set handles n (Some h)

-- a name, if there is one, has a place in a list of that length
abbrev pub HasPlace : ℕ → Option Name → Type 0
HasPlace many None = ⊤
HasPlace many (Some n) = n < many

-- the name that a line binds has a place in a list of that length
abbrev pub LineHasPlace : ℕ → ResourceLine → Type 0
LineHasPlace many line = HasPlace many (created_name line)

-- the names that the lines of a frame bind have places in a list of that length
pub record FrameHasPlaces (many : ℕ) (f : SceneFrame) : Type 0 where
  pub before : AllByRecursion (LineHasPlace many) f.before
  pub beside : AllByRecursion (LineHasPlace many) f.beside

-- each name that a line of a readable scene binds has its place in the list of the scene's names
abbrev pub PlacesLaw : Type 0
PlacesLaw = (s : Scene) → IsReadable s → AllByRecursion (FrameHasPlaces (length s.names)) s.frames
