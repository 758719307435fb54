-- What the lines of a scene's frames have done before a frame, in it and behind it.
use Rattle.std.specs.Prelude.{◌≡◌, ℕ, ◌+◌, ◌<◌, List, [], ◌∷◌, take, Some}
use Rattle.gfx_model.specs.Words.{Handle, greatest}
use Rattle.scene_model.specs.Scene.{Name, SceneFrame, Scene}
use Rattle.scene_model.specs.Fold.{Progress, thing_named, after_lines, at_start, first_progress}

-- the state of the calls and names after all lines of frame k, from the state before it
abbrev pub after_frame : List (List ℕ) → ℕ → Progress → SceneFrame → Progress
after_frame names k p f = after_lines names (after_lines names (at_start k p) f.before) f.beside

-- the state after frames from number k on
abbrev pub progress_from : List (List ℕ) → ℕ → Progress → List SceneFrame → Progress
progress_from names k p [] = p
progress_from names k p (f ∷ rest) = progress_from names (k + 1) (after_frame names k p f) rest

-- the state before frame k of a scene
abbrev pub progress_before : Scene → ℕ → Progress
progress_before s k = progress_from s.names 0 (first_progress s) (take k s.frames)

-- the state at the start of frame k, before its lines
abbrev pub start_of : Scene → ℕ → Progress
start_of s k = at_start k (progress_before s k)

-- the state after the `before` lines of frame k
abbrev pub before_of : Scene → ℕ → SceneFrame → Progress
before_of s k f = after_lines s.names (start_of s k) f.before

-- the state after all lines of frame k
abbrev pub all_of : Scene → ℕ → SceneFrame → Progress
all_of s k f = after_lines s.names (before_of s k f) f.beside

-- each name stands for a handle that was given: its serial was, and its index is one of its kind
abbrev pub AreGiven : Progress → Type 0
AreGiven p = (n : Name) (h : Handle) → thing_named p.bindings n ≡ Some h → (h.serial < p.resources.next_serial) × (h.index < greatest h.kind)
