-- The bundles of a frame are gathered, one after another.
use Rattle.std.proofs.Common.{◌≡◌, ℕ, ◌+◌, Bool, true, false, List, [], ◌∷◌, ◌++◌, length, Option, Some, None, Result, Ok, Err, MatchOption, sym, ap, ◌∙◌, subst, arith, append_assoc}
use Rattle.gfx_model.specs.World.{Item}
use Rattle.gfx_words.specs.declared.refusals.Refusal as words
use Rattle.hold_table.specs.Views.{SeatView, joined_with}
use Rattle.draw_encoder.specs.declared.items.Recording.{Recording}
use Rattle.gfx_context.specs.Gathered.{AreGathered, with_gathered}
use Rattle.gfx_context.specs.Kept.{IsContext}
use Rattle.gfx_context.specs.declared.report.FrameReport.{FrameReport}
use Rattle.gfx_context.specs.Ended.{Collects, Gathers, GivesWhere, IsEnd}
use Rattle.gfx_context.specs.States.{ContextView, state_of, untouched}
use Rattle.gfx_context.proofs.Gathers.{of_frame}
use Rattle.scene_playing.specs.Recording.{HasBegun}

-- what was gathered so far, from a first state
abbrev pub with_gathers : {L : Type 0} → ContextView L → ContextView L → ContextView L
with_gathers first c = record first { seat = c.seat; gathered = c.gathered }

module _ {L : Type 0} (r : Recording) (seat : SeatView) (first old new : ContextView L) (g : Gathers r seat old new) where
  pub seat_still : old.seat ≡ with_gathered old.seat first.seat → new.seat ≡ with_gathered new.seat first.seat
  seat_still e =
      let is : new.seat ≡ joined_with old.seat seat = ap (λ (c : ContextView L). c.seat) g.after in
      is ∙ (λ j. joined_with (e j) seat) ∙ (λ j. with_gathered (sym is j) first.seat)

  pub same_still : old ≡ with_gathers first old → new ≡ with_gathers first new
  same_still e =
      let seats : joined_with old.seat seat ≡ new.seat = sym (ap (λ (c : ContextView L). c.seat) g.after) in
      let lists : old.gathered ++ r ∷ [] ≡ new.gathered = sym (ap (λ (c : ContextView L). c.gathered) g.after) in
      g.after ∙ (λ j. record (e j) { seat = seats j; gathered = lists j })

  pub more_kept : (more : List Recording) × (old.gathered ≡ first.gathered ++ more) → (more : List Recording) × (new.gathered ≡ first.gathered ++ more)
  more_kept m = (m.0 ++ r ∷ [], ap (λ (c : ContextView L). c.gathered) g.after ∙ ap (λ rs. rs ++ r ∷ []) m.1 ∙ append_assoc first.gathered m.0 (r ∷ []))

-- all bundles are gathered
pub all_gathered : {L : Type 0} (admits : ℕ → ℕ → List Item → ℕ → Type 0) (views : ℕ) (first c : ContextView L) → IsContext admits views c → c.seat.off ≡ []
    → (more : List Recording) × (c.gathered ≡ first.gathered ++ more) → c.seat ≡ with_gathered c.seat first.seat → c ≡ with_gathers first c → Collects admits views first c
all_gathered {L} admits views first c k none kept seat same = record {
  none_off = none;
  more = kept.0;
  kept = kept.1;
  recordings = of_frame admits views c.seat first.seat first.begun c.gathered (subst (λ (n : ℕ). AreGathered admits views c.seat n c.gathered) (ap (λ (x : ContextView L). x.begun) same) k.gathered) none seat;
  seat = seat;
  same = same;
}

-- of encoders that begin in a frame of which none was begun, as many are off as were begun
pub off_begun : {L : Type 0} (admits : ℕ → ℕ → List Item → ℕ → Type 0) (views : ℕ) (old new : ContextView L) → IsContext admits views old → IsContext admits views new → old.begun ≡ 0 → HasBegun new.begun old new
    → length new.seat.off ≡ new.begun
off_begun {L} admits views old new k l none has =
    let before = k.gathered.count in
    let after = l.gathered.count in
    let same = ap (λ (x : ContextView L). length x.gathered) has.same in
    omega (arith, before, after, same, none)

-- lines that are played leave the encoders that are off
pub off_kept : {L : Type 0} (old new : ContextView L) → untouched new ≡ untouched old → new.seat.off ≡ old.seat.off
off_kept old new e = ap (λ v. v.seat.off) e

-- ---- the end of a frame

none_off_given : {L : Type 0} (given : Bool) (mid new : ContextView L) → GivesWhere given mid new → mid.seat.off ≡ [] → new.seat.off ≡ []
none_off_given true mid new g none = ap (λ (s : SeatView). s.off) g.seat ∙ none
none_off_given {L} false mid new g none = ap (λ (c : ContextView L). c.seat.off) g ∙ none

-- no encoder is off after it
pub none_off_ended : {L : Type 0} (result : Result FrameReport words.Refusal) (mid new : ContextView L) → IsEnd result mid new → mid.seat.off ≡ [] → new.seat.off ≡ []
none_off_ended (Ok report) mid new e none = none_off_given report.given mid new e.gives none
none_off_ended {L} (Err r) mid new e none = ap (λ (c : ContextView L). c.seat.off) e.1 ∙ none
