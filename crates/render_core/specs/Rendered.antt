-- Frames that a renderer renders one after another.
use Rattle.std.specs.Prelude.{◌≡◌, ℕ, ◌<◌, ◌≤◌, ◌||◌, not, List, [], ◌∷◌, ◌++◌, length, Option}
use Rattle.scene_model.specs.Output.{picture_text}
use Rattle.store_laws.specs.ByIndex.{Stores}
use Rattle.frame_record.specs.declared.frame.Frame.{Frame}
use Rattle.frame_record.specs.declared.frame.Outcome.{Outcome}
use Rattle.frame_record.specs.declared.frame.RenderedFrame.{RenderedFrame}
use Rattle.render_stores.specs.Seen.{stores_seen}
use Rattle.render_core.specs.declared.renderer.Renderer.{Renderer}
use Rattle.frame_record.specs.declared.frame.Outcome.TheVariants as outcomes
use Rattle.render_core.specs.Needs.{NeedsMemory}
use Rattle.render_core.specs.Outcomes.{has_ended, is_shown, is_skipped}
use Rattle.render_core.specs.Seen.{frame_seen}
use Rattle.render_core.specs.Shown.{StoresAfter, HeldAfter, TallyAfter, FaultIf}

-- a renderer: its stores, the outcomes of its frames, and what its sink holds, has counted, how often it failed, and is sure of
pub record Rendering : Type 0 where
  pub stores : Stores
  pub outcomes : List Outcome
  pub held : Option (List ℕ)
  pub tally : Option (ℕ × ℕ)
  pub faults : ℕ
  pub sure : Option ℕ

-- a renderer by what its sink tells
abbrev pub seen_by : {P : Type 0} → (P → Option (List ℕ)) → (P → Option (ℕ × ℕ)) → (P → ℕ) → (P → Option ℕ) → Renderer P → Rendering
seen_by held tally faults sure r =
    record { stores = stores_seen r.canvas.stores; outcomes = r.outcomes; held = held r.sink; tally = tally r.sink; faults = faults r.sink; sure = sure r.sink }

-- a frame is rendered: it is skipped exactly where an earlier one was not shown; else the stores, the sink and the outcomes are by its own outcome; memory
-- is wanting only for a frame that takes some
pub record IsRendered (old : Rendering) (r : RenderedFrame) (new : Rendering) : Type 0 where
  pub skipped : is_skipped r.outcome ≡ has_ended old.outcomes
  pub needs : r.outcome ≡ outcomes.OutOfMemory → NeedsMemory r.frame
  pub stores : StoresAfter r.outcome old.stores (frame_seen r.frame) new.stores
  pub held : HeldAfter r.outcome (picture_text new.stores.back.color) old.held new.held
  pub tally : TallyAfter r.outcome (picture_text new.stores.back.color) old.tally new.tally
  pub faults : FaultIf r.outcome old.faults new.faults
  pub no_fewer : old.faults ≤ new.faults
  pub sure : new.sure ≡ old.sure
  pub ended : has_ended new.outcomes ≡ (has_ended old.outcomes || not (is_shown r.outcome))
  pub added : length old.outcomes < 18446744073709551615 → new.outcomes ≡ old.outcomes ++ r.outcome ∷ []

-- a frame is rendered, and the list of the frames that were has it more, with its outcome
abbrev pub AddsRendered : (frame : Frame) → (before : List RenderedFrame) → (old : Rendering) → (after : List RenderedFrame) → (new : Rendering) → Type 0
AddsRendered frame before old after new = (r : RenderedFrame) × ((r.frame ≡ frame) × ((after ≡ before ++ r ∷ []) × IsRendered old r new))

-- frames are rendered one after another
pub data AreRendered (old : Rendering) : List RenderedFrame → Rendering → Type 0 where
  rendered_none : AreRendered old [] old
  rendered_more : {rs : List RenderedFrame} {mid new : Rendering} (r : RenderedFrame) → AreRendered old rs mid → IsRendered mid r new → AreRendered old (rs ++ r ∷ []) new
