-- The frame buffer that a name stands for in a frame of a scene.
use Rattle.std.specs.Prelude.{ℕ, zero, suc, ◌+◌, Bool, if◌then◌else◌, List, [], ◌∷◌, Option, Some, None, option_and_then, bytes_eq}
use Rattle.std.specs.List.{list_any}
use Rattle.gfx_model.specs.Words.{Handle}
use Rattle.gfx_model.specs.Views.{Views}
use Rattle.scene_model.specs.Scene.{Name, SceneFrame, Scene}
use Rattle.scene_model.specs.Fold.{Progress, thing_named, after_lines, at_start, first_progress}
use Rattle.target_laws.specs.Targets.{is_target}

-- the place of a text among names that are numbered from n on
abbrev pub name_from : (n : ℕ) → List (List ℕ) → List ℕ → Option Name
name_from n [] text = None
name_from n (x ∷ xs) text = if bytes_eq x text then Some n else name_from (n + 1) xs text

-- the state of the calls and of the names after all lines of the frame behind so many of these, the first of which is frame n
abbrev pub progress_after : Scene → (n : ℕ) → Progress → List SceneFrame → ℕ → Option Progress
progress_after s n p [] skip = None
progress_after s n p (f ∷ rest) zero = Some (after_lines s.names (after_lines s.names (at_start n p) f.before) f.beside)
progress_after s n p (f ∷ rest) (suc skip) = progress_after s (n + 1) (after_lines s.names (after_lines s.names (at_start n p) f.before) f.beside) rest skip

-- the thing that a name stands for after all lines of frame k
abbrev pub thing_in : Scene → (k : ℕ) → (name : List ℕ) → Option Handle
thing_in s k name = option_and_then (λ p. option_and_then (thing_named p.bindings) (name_from 0 s.names name)) (progress_after s 0 (first_progress s) s.frames k)

-- whether a view draws on a frame buffer
abbrev pub is_drawn_on : Views → Handle → Bool
is_drawn_on views t = list_any (λ v. is_target t v.target) views.settings

-- the frame buffer that a name stands for in frame k, where one of the frame's views draws on it
abbrev pub target_named : Scene → (k : ℕ) → (name : List ℕ) → Views → Option Handle
target_named s k name views = option_and_then (λ t. if is_drawn_on views t then Some t else None) (thing_in s k name)
