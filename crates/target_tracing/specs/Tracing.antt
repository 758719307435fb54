-- How the deeds of doers are traced one after another.
use Rattle.std.specs.Prelude.{◌≡◌, ℕ, ◌+◌, Bool, true, false, ◌&&◌, List, [], ◌∷◌, ◌++◌, map, Option, Some, None}
use Rattle.gfx_model.specs.Words.{Handle}
use Rattle.gfx_model.specs.Frames.{Recorded, item_of_entry}
use Rattle.gfx_model.specs.Views.{View}
use Rattle.gfx_model.specs.World.{Item}
use Rattle.store_laws.specs.ByIndex.{Stores, FrameData}
use Rattle.trace_laws.specs.ByIndex.{deeds_in}
use Rattle.trace_laws.specs.Deeds.{Deed}
use Rattle.trace_laws.specs.Doers.{Doer, clear_doer, item_doer}
use Rattle.frame_steps.specs.Doing.{stores_after_some}
use Rattle.target_laws.specs.Targets.{TargetStroke, TargetMade, has_pixel, is_target, is_draw}
use Rattle.target_laws.specs.ByIndex.{surface_at, target_pixel_in, target_strokes_in, target_history_in}
use Rattle.pixel_ops.specs.Seen.{pixel_seen}
use Rattle.target_tracing.specs.Seen.{target_made_of, target_made_seen}
use Rattle.target_tracing.specs.declared.made.TargetHistory.{TargetHistory}

-- whether an item, if there is one, draws
abbrev pub is_draw_some : Option Item → Bool
is_draw_some None = false
is_draw_some (Some i) = is_draw i

-- whether a doer's deed in a view is a clear or a draw on a frame buffer
abbrev pub doer_draws : Handle → View → List Recorded → Doer → Bool
doer_draws t view rs (clear_doer v) = is_target t view.target
doer_draws t view rs (item_doer v n) = is_draw_some (item_of_entry rs n) && is_target t view.target

-- what a deed does to a pixel of a frame buffer, if there is one
abbrev pub strokes_of_some : Handle → ℕ → ℕ → Stores → Option Deed → List TargetStroke
strokes_of_some t x y h None = []
strokes_of_some t x y h (Some d) = target_strokes_in t x y h d

-- the strokes of deeds, each if there is one, that are numbered from n on
abbrev pub history_of_these : Handle → ℕ → ℕ → ℕ → Stores → List (Option Deed) → List TargetMade
history_of_these t x y n h [] = []
history_of_these t x y n h (o ∷ os) = map (target_made_of n) (strokes_of_some t x y h o) ++ history_of_these t x y (n + 1) (stores_after_some h o) os

-- a deed is done, and what it does to the pixel stands behind other strokes
pub record Adds (t : Handle) (x y n : ℕ) (h : Stores) (o : Option Deed) (old new : List TargetMade) (g : Stores) : Type 0 where
  pub made : new ≡ old ++ map (target_made_of n) (strokes_of_some t x y h o)
  pub done : g ≡ stores_after_some h o

-- what a pixel of a frame buffer goes through in a frame by index from its first deed on; none where the frame buffer has no such pixel
abbrev pub IsTargetHistory : Handle → ℕ → ℕ → Stores → FrameData → Option TargetHistory → Type 0
IsTargetHistory t x y h f None = has_pixel (surface_at h t) x y ≡ false
IsTargetHistory t x y h f (Some it) =
    (has_pixel (surface_at h t) x y ≡ true) × (pixel_seen it.before ≡ target_pixel_in h t x y) × (map target_made_seen it.made.items ≡ target_history_in t x y 0 h (deeds_in f))
