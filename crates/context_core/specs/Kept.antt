-- What every core keeps.
use Rattle.std.specs.Prelude.{ℕ, suc, ◌≡◌, ◌<◌, ◌≤◌, ◌+◌, ◌⊎◌, List, length, Option, Some, None, IsTrue, ⊤}
use Rattle.std.specs.List.{AllByRecursion}
use Rattle.gfx_model.specs.World.{Item}
use Rattle.gfx_model.specs.Views.{View, view_count}
use Rattle.gfx_model.specs.Words.{Handle, frame_buffer_kind, is_kind}
use Rattle.gfx_model.specs.Resources.{Resources}
use Rattle.schedule_model.specs.Machine.{Place}
use Rattle.hold_table.specs.Views.{SeatView}
use Rattle.context_core.specs.Places.{IsPlaced, IsUsable, Stays}
use Rattle.context_core.specs.Gathered.{HasGathered}
use Rattle.context_core.specs.States.{CoreState}

-- what the seat and the state of the calls say of one another
pub record IsTied (r : Resources) (seat : SeatView) : Type 0 where
  pub placed : IsPlaced seat.places r.things
  pub many : length seat.places ≡ 3776
  pub older : seat.greatest < r.next_serial
  pub frame : r.frame ≡ seat.frame
  pub most : seat.frame ≤ 1073741823

-- a target is the back buffer, or a frame buffer that can be named in the frame
abbrev pub IsTarget : ℕ → List Place → Option Handle → Type 0
IsTarget frame places None = ⊤
IsTarget frame places (Some h) = IsTrue (is_kind h.kind frame_buffer_kind) × IsUsable frame places h

-- the targets of views
abbrev pub AreTargets : ℕ → List Place → List View → Type 0
AreTargets frame places vs = AllByRecursion (λ view. IsTarget frame places view.target) vs

-- the next serial is one more than the greatest that was given, or none was given and it is the first
abbrev pub IsNext : (next greatest first : ℕ) → Type 0
IsNext next greatest first = (next ≡ suc greatest) ⊎ ((greatest ≡ 0) × (next ≡ first))

-- what a core keeps, and with it what else is known of the frames that are out
pub record IsCore (admits : ℕ → ℕ → List Item → ℕ → Type 0) (views : ℕ) (Out : Type 0) (v : CoreState) : Type 0 where
  pub tied : IsTied v.book.resources v.seat
  pub newest : IsNext v.book.resources.next_serial v.seat.greatest v.first
  pub targets : AreTargets v.seat.frame v.seat.places v.book.resources.views.settings
  pub counted : view_count v.book.resources.views ≡ views
  pub latency : (1 ≤ v.book.resources.latency) × (v.book.resources.latency ≤ 3)
  pub few : v.out ≤ v.book.resources.latency
  pub encoders : v.begun ≤ 8
  pub gathered : HasGathered v.is_given admits views v.seat v.begun v.gathered
  pub frames : Out

-- what could be named in this frame or in one before it can be named still
abbrev pub KeepsUsable : (old new : CoreState) → Type 0
KeepsUsable old new = (n : ℕ) → n ≤ old.seat.frame → Stays n old.seat.places new.seat.places

-- what could be named in a frame that may be out when the next one starts can be named still
abbrev pub KeepsOut : (old new : CoreState) → Type 0
KeepsOut old new = (n : ℕ) → old.seat.frame + 1 ≤ n + old.book.resources.latency → Stays n old.seat.places new.seat.places
