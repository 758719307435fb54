-- The targets that views keep.
use Rattle.std.specs.Prelude.{Bool, if◌then◌else◌, map, Option, Some, None}
use Rattle.gfx_model.specs.Views.{View, Views}
use Rattle.gfx_model.specs.Words.{Handle}

-- a target that the test admits
abbrev pub kept_target : (Handle → Bool) → Option Handle → Option Handle
kept_target test None = None
kept_target test (Some h) = if test h then Some h else None

-- a view whose target the test refuses has the back buffer
abbrev pub with_target_kept : (Handle → Bool) → View → View
with_target_kept test v = record v { target = kept_target test v.target }

-- all views with the targets that the test admits
abbrev pub with_targets_kept : (Handle → Bool) → Views → Views
with_targets_kept test vs = record vs { settings = map (with_target_kept test) vs.settings }
