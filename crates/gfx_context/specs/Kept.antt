-- What every context keeps.
use Rattle.std.specs.Prelude.{ℕ, ◌≡◌, ◌≤◌, ◌+◌, ◌-◌, false, List, ◌++◌, map, length}
use Rattle.std.specs.List.{AllByRecursion, range_with_len}
use Rattle.atomic_table.specs.Seated.{TableId}
use Rattle.gfx_model.specs.World.{Item}
use Rattle.gfx_model.specs.Views.{view_count}
use Rattle.schedule_model.specs.Machine.{Place}
use Rattle.draw_encoder.specs.declared.items.Recording.{Recording}
use Rattle.draw_encoder.specs.Bundles.{items_of}
use Rattle.frame_record.specs.declared.frame.Frame.{Frame}
use Rattle.frame_record.specs.declared.frame.RenderedFrame.{RenderedFrame}
use Rattle.frame_record.specs.Links.{frames_of, out_of}
use Rattle.context_core.specs.Gathered.{AreCollected}
pub use Rattle.context_core.specs.Kept.{IsTied, IsTarget, AreTargets, IsNext}
use Rattle.context_core.specs.Kept.{IsCore}
use Rattle.context_core.specs.States.{CoreView}
use Rattle.gfx_context.specs.States.{ContextView, core_in}

-- each thing that a frame names can be named in that frame still: those that its recordings name, and the targets of its views
pub record KeepsNames (admits : ℕ → ℕ → List Item → ℕ → Type 0) (views : ℕ) (places : List Place) (f : Frame) : Type 0 where
  pub recordings : AreCollected admits views f.number places f.recordings.items
  pub targets : AreTargets f.number places f.views.settings

-- the frames that are out are those just before this one, and what they name is in its place
pub record AreOut (admits : ℕ → ℕ → List Item → ℕ → Type 0) (views : ℕ) (places : List Place) (frame out : ℕ) (given : List Frame) (back : List RenderedFrame) : Type 0 where
  pub counted : length given ≡ length back + out
  pub prefix : given ≡ frames_of back ++ out_of given back
  pub some : out ≤ frame
  pub numbers : map (λ f. f.number) (out_of given back) ≡ range_with_len (frame - out) out
  pub names : AllByRecursion (KeepsNames admits views places) (out_of given back)

-- what a context keeps: what its core does, and the frames that are out
abbrev pub IsContext : {L : Type 0} → (admits : ℕ → ℕ → List Item → ℕ → Type 0) (views : ℕ) → ContextView L → Type 0
IsContext admits views v = IsCore admits views (AreOut admits views v.seat.places v.seat.frame v.out v.given v.back) (core_in v)

-- each recording is one that its encoder may end with
abbrev pub AreAdmitted : (admits : ℕ → ℕ → List Item → ℕ → Type 0) → List Recording → Type 0
AreAdmitted admits rs = AllByRecursion (λ r. admits r.encoder r.frame (items_of r) r.dropped) rs

-- what a context keeps beside what its core does
pub record IsLinked (table : TableId) (admits : ℕ → ℕ → List Item → ℕ → Type 0) (views latency : ℕ) (c : CoreView) (given : List Frame) (back : List RenderedFrame) : Type 0 where
  pub table_is : c.table ≡ table
  pub views_are : view_count c.state.book.resources.views ≡ views
  pub latency_is : latency ≡ c.state.book.resources.latency
  pub not_given : c.state.is_given ≡ false
  pub admitted : AreAdmitted admits c.state.gathered
  pub frames : AreOut admits views c.state.seat.places c.state.seat.frame c.state.out given back
