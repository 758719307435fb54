-- What the lines of a scene write for the renderer, frame by frame.
use Rattle.std.specs.Prelude.{◌≡◌, ℕ, ◌+◌, List, [], ◌∷◌, ◌++◌, filter_map, Option, Some, None, ⊤}
use Rattle.std.specs.List.{AllByRecursion}
use Rattle.gfx_model.specs.World.{Item}
use Rattle.gfx_model.specs.Resources.{Refusal, Resources, ResourceCall, refusal_of}
use Rattle.store_laws.specs.ByIndex.{FrameData}
pub use Rattle.call_laws.specs.Calls.{HasColor}
use Rattle.call_laws.specs.Calls.{Written}
use Rattle.call_laws.specs.Context.{after_calls, data_of}
use Rattle.scene_model.specs.Scene.{ResourceLine, texture_line, SceneFrame, Scene}
use Rattle.scene_model.specs.Fold.{Progress, resource_call, after_line, after_lines, at_start, first_progress, Accepted, plan_of}
use Rattle.scene_model.specs.Journal.{Entry, Journal, item_of}

-- a call, where it is not refused
abbrev pub unless_refused : ResourceCall → Option Refusal → List ResourceCall
unless_refused c None = c ∷ []
unless_refused c (Some refusal) = []

-- the call of a line, where there is one and it is accepted
abbrev pub accepted_call : Resources → Option ResourceCall → List ResourceCall
accepted_call r None = []
accepted_call r (Some c) = unless_refused c (refusal_of r c)

-- the accepted calls of lines, in order
abbrev pub calls_of : List (List ℕ) → Progress → List ResourceLine → List ResourceCall
calls_of names p [] = []
calls_of names p (line ∷ rest) = accepted_call p.resources (resource_call p.bindings names line) ++ calls_of names (after_line names p line) rest

-- what the calls of a frame wrote, from the state at its start
abbrev pub written_by : List (List ℕ) → Progress → SceneFrame → Written
written_by names first f = after_calls first.resources (calls_of names first f.before ++ calls_of names (after_lines names first f.before) f.beside)

-- the items of a frame in the journal's order
abbrev pub items_by : List Accepted → List Entry → List Item
items_by encoders entries = filter_map (item_of encoders) entries

-- a frame by index: what its calls wrote, and its items in the journal's order
abbrev pub frame_data : Scene → ℕ → Progress → SceneFrame → List Entry → FrameData
frame_data s k first f entries =
    let before = after_lines s.names first f.before in
    let all = after_lines s.names before f.beside in
    data_of (written_by s.names first f) (items_by (plan_of s k f [] before all).encoders entries)

-- the frames by index from number k on, as far as the journal goes
abbrev pub frames_from : Scene → ℕ → Progress → List SceneFrame → Journal → List FrameData
frames_from s k p [] j = []
frames_from s k p (f ∷ rest) [] = []
frames_from s k p (f ∷ rest) (entries ∷ later) =
    let first = at_start k p in
    frame_data s k first f entries ∷ frames_from s (k + 1) (after_lines s.names (after_lines s.names first f.before) f.beside) rest later

-- the frames of a scene by index, as far as the journal goes
abbrev pub scene_frames : Scene → Journal → List FrameData
scene_frames s j = frames_from s 0 (first_progress s) s.frames j

-- ---- a texture's colour

-- a line that fills a texture has a colour
abbrev pub LineHasColor : ResourceLine → Type 0
LineHasColor (texture_line n width height f d source) = HasColor source
LineHasColor _ = ⊤

-- each line of a frame that fills a texture has a colour
pub record FrameHasColors (f : SceneFrame) : Type 0 where
  pub before : AllByRecursion LineHasColor f.before
  pub beside : AllByRecursion LineHasColor f.beside

-- each line of a scene that fills a texture has a colour
abbrev pub HasColors : Scene → Type 0
HasColors s = AllByRecursion FrameHasColors s.frames
