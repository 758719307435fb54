-- The bundles of a frame are collected.
use Rattle.std.proofs.Common.{◌≡◌, ℕ, List, [], ◌∷◌, ◌++◌, length, refl, ap, ◌∙◌, sym, arith, subst, append_assoc, append-nil}
use Rattle.schedule_model.proofs.Lists.{all-snoc}
use Rattle.gfx_model.specs.World.{Item}
use Rattle.schedule_model.specs.Held.{count_of}
use Rattle.hold_table.specs.Views.{SeatView, joined_with}
use Rattle.draw_encoder.specs.declared.items.Recording.{Recording}
use Rattle.draw_encoder.specs.Bundles.{items_of}
use Rattle.frame_record.specs.declared.frame.Frame.{Frame}
use Rattle.frame_record.specs.declared.frame.RenderedFrame.{RenderedFrame}
use Rattle.context_core.specs.Gathered.{AreCollected, AreGathered, AreOfFrame, with_gathered}
use Rattle.context_core.specs.Ended as cores
use Rattle.context_core.specs.States.{CoreView}
use Rattle.gfx_context.specs.Ended.{Collects, Gathers}
use Rattle.gfx_context.specs.Kept.{AreAdmitted, IsContext}
use Rattle.gfx_context.specs.States.{ContextView, context_of}

length_none : {A : Type 0} (xs : List A) → length xs ≡ 0 → xs ≡ []
length_none [] e = refl
length_none (x ∷ xs) e = absurd (omega (arith, e))

pub none_off_when : (seat : SeatView) → length seat.off ≡ 0 → seat.off ≡ []
none_off_when seat e = length_none seat.off e

pub of_frame : (admits : ℕ → ℕ → List Item → ℕ → Type 0) (views : ℕ) (seat old : SeatView) (begun : ℕ) (rs : List Recording) → AreGathered admits views seat begun rs → seat.off ≡ [] → seat ≡ with_gathered seat old
    → AreOfFrame admits views old.frame old.places begun rs
of_frame admits views seat old begun rs g none same = record {
  once = (λ e. let a = ap (count_of e) none in let b = g.once e in omega arith);
  collected = subst (λ (x : SeatView). AreCollected admits views x.frame x.places rs) same g.collected;
}

-- one more is admitted
pub one_more : (admits : ℕ → ℕ → List Item → ℕ → Type 0) (r : Recording) (seat : SeatView) (old new : CoreView) → cores.Gathers r seat old new → AreAdmitted admits old.state.gathered → admits r.encoder r.frame (items_of r) r.dropped
    → AreAdmitted admits new.state.gathered
one_more admits r seat old new g a is = subst (λ (rs : List Recording). AreAdmitted admits rs) (sym (ap (λ (c : CoreView). c.state.gathered) g.after)) (all-snoc (λ r. admits r.encoder r.frame (items_of r) r.dropped) old.state.gathered r a is)

-- what was gathered so far, from a first state
abbrev pub with_seat : CoreView → CoreView → CoreView
with_seat first c = record first { state = record first.state { seat = c.state.seat; gathered = c.state.gathered } }

module _ (r : Recording) (seat : SeatView) (first old new : CoreView) (g : cores.Gathers r seat old new) where
  pub seat_still : old.state.seat ≡ with_gathered old.state.seat first.state.seat → new.state.seat ≡ with_gathered new.state.seat first.state.seat
  seat_still e =
      let is : new.state.seat ≡ joined_with old.state.seat seat = ap (λ (c : CoreView). c.state.seat) g.after in
      is ∙ (λ j. joined_with (e j) seat) ∙ (λ j. with_gathered (sym is j) first.state.seat)

  pub same_still : old ≡ with_seat first old → new ≡ with_seat first new
  same_still e =
      let seats : joined_with old.state.seat seat ≡ new.state.seat = sym (ap (λ (c : CoreView). c.state.seat) g.after) in
      let lists : old.state.gathered ++ r ∷ [] ≡ new.state.gathered = sym (ap (λ (c : CoreView). c.state.gathered) g.after) in
      g.after ∙ (λ j. record (e j) { state = record (e j).state { seat = seats j; gathered = lists j } })

  pub more_kept : (more : List Recording) × (old.state.gathered ≡ first.state.gathered ++ more) → (more : List Recording) × (new.state.gathered ≡ first.state.gathered ++ more)
  more_kept m = (m.0 ++ r ∷ [], ap (λ (c : CoreView). c.state.gathered) g.after ∙ ap (λ rs. rs ++ r ∷ []) m.1 ∙ append_assoc first.state.gathered m.0 (r ∷ []))

module _ {L : Type 0} (admits : ℕ → ℕ → List Item → ℕ → Type 0) (views : ℕ) (given : List Frame) (back : List RenderedFrame) (link : L) (a b : CoreView) where
  -- the bundles of a frame are collected, and what was collected stays
  pub collects_told : b.state.seat.off ≡ [] → (more : List Recording) × (b.state.gathered ≡ a.state.gathered ++ more) → b.state.seat ≡ with_gathered b.state.seat a.state.seat → b ≡ with_seat a b
      → AreOfFrame admits views a.state.seat.frame a.state.seat.places a.state.begun b.state.gathered → (old : ContextView L) → context_of a.state given back link ≡ old → Collects admits views old (context_of b.state given back link)
  collects_told none kept seat same of old e = subst (λ (o : ContextView L). Collects admits views o (context_of b.state given back link)) e (record {
    none_off = none;
    more = kept.0;
    kept = kept.1;
    recordings = of;
    seat = seat;
    same = ap (λ (c : CoreView). context_of c.state given back link) same;
  })

  -- a bundle is gathered
  pub gathers_told : (r : Recording) (seat : SeatView) → cores.Gathers r seat a b → (old : ContextView L) → context_of a.state given back link ≡ old → Gathers r seat old (context_of b.state given back link)
  gathers_told r seat g old e = subst (λ (o : ContextView L). Gathers r seat o (context_of b.state given back link)) e (record {
    was_off = g.was_off;
    fewer = g.fewer;
    after = ap (λ (c : CoreView). context_of c.state given back link) g.after;
  })

-- where no encoder is off, all bundles are collected
pub collected_all : {L : Type 0} (admits : ℕ → ℕ → List Item → ℕ → Type 0) (views : ℕ) (v : ContextView L) → IsContext admits views v → v.seat.off ≡ [] → Collects admits views v v
collected_all admits views v k none = record {
  none_off = none;
  more = [];
  kept = sym (append-nil v.gathered);
  recordings = of_frame admits views v.seat v.seat v.begun v.gathered k.gathered none refl;
  seat = refl;
  same = refl;
}
