-- What can be named stays so.
use Rattle.std.proofs.Common.{◌≡◌, ◌≢◌, ℕ, length, ◌<◌, ◌≤◌, ◌==◌, ◌&&◌, Bool, true, false, List, Option, Some, None, refl, sym, ap, ◌∙◌, subst, IsTrue, slice_set}
use Rattle.std.proofs.lemmas.Bool.{le-leb, true≢false}
use mathlib.Core.Logic.{dite}
use native.Mathlib.Decide.{ℕ_discrete}
use Rattle.schedule_model.proofs.Lists.{all-map}
use Rattle.gfx_model.specs.Words.{Handle, place_of_handle}
use Rattle.gfx_model.specs.Views.{View}
use Rattle.gfx_model.specs.World.{Item}
use Rattle.schedule_model.specs.Machine.{Place, free, live, dying, place_at, has_usable}
use Rattle.hold_table.proofs.PlaceLaws.{place-set, place-else}
use Rattle.draw_encoder.specs.declared.items.Recording.{Recording}
use Rattle.draw_encoder.specs.Seen.{uniforms_seen}
use Rattle.draw_encoder.specs.Names.{FitsItem}
use Rattle.draw_encoder.specs.Bundles.{items_of}
use Rattle.draw_encoder.proofs.NameLaws.{item_fits, uniforms_fit}
use Rattle.context_core.specs.Places.{IsUsable, Stays}
use Rattle.context_core.specs.Gathered.{anything, IsCollected, AreCollected}
use Rattle.context_core.specs.Kept.{IsTarget, AreTargets}
use Rattle.context_core.specs.Laws.{StaysLaw}

target_stays : (frame : ℕ) (old new : List Place) → Stays frame old new → (o : Option Handle) → IsTarget frame old o → IsTarget frame new o
target_stays frame old new s None t = tt
target_stays frame old new s (Some h) t = (t.0, s h t.1)

pub targets_stay : (frame : ℕ) (old new : List Place) → Stays frame old new → (vs : List View) → AreTargets frame old vs → AreTargets frame new vs
targets_stay frame old new s vs a = all-map (λ view. IsTarget frame old view.target) (λ view. IsTarget frame new view.target) (λ view t. target_stays frame old new s view.target t) vs a

module _ (admits : ℕ → ℕ → List Item → ℕ → Type 0) (views : ℕ) (old new : List Place) where
  pub collected_stays : (frame : ℕ) → Stays frame old new → (r : Recording) → IsCollected admits views frame old r → IsCollected admits views frame new r
  collected_stays frame s r c = record {
    admitted = c.admitted;
    frame_is = c.frame_is;
    few = c.few;
    ascends = c.ascends;
    within = c.within;
    items = all-map (FitsItem (IsUsable frame old) views) (FitsItem (IsUsable frame new) views) (item_fits (IsUsable frame old) (IsUsable frame new) s views) (items_of r) c.items;
    uniforms = uniforms_fit (IsUsable frame old) (IsUsable frame new) s (uniforms_seen r.uniforms) c.uniforms;
  }

  pub all_stay : (frame : ℕ) → Stays frame old new → (rs : List Recording) → AreCollected admits views frame old rs → AreCollected admits views frame new rs
  all_stay frame s rs c = all-map (IsCollected admits views frame old) (IsCollected admits views frame new) (collected_stays frame s) rs c

pub stays_law : StaysLaw
stays_law views frame old new s = (all_stay anything views old new frame s, targets_stay frame old new s)

-- ---- one place changes

module _ (places : List Place) (p : ℕ) (x : Place) (frame : ℕ) where
  elsewhere : (h : Handle) → place_of_handle h ≢ p → IsUsable frame places h → IsUsable frame (slice_set places p x) h
  elsewhere h ne u = subst (λ (y : Place). IsTrue (has_usable frame h.serial y)) (sym (place-else places p (place_of_handle h) x ne)) u

  -- a place of which nothing could be named
  pub stays_unnamed : ((serial : ℕ) → has_usable frame serial (place_at places p) ≡ false) → Stays frame places (slice_set places p x)
  stays_unnamed none h u = dite (ℕ_discrete (place_of_handle h) p)
      (λ (e : place_of_handle h ≡ p). absurd (true≢false (sym u ∙ ap (λ q. has_usable frame h.serial (place_at places q)) e ∙ none h.serial)))
      (λ (ne : place_of_handle h ≢ p). elsewhere h ne u)

  -- a place of which the same can be named
  pub stays_named : p < length places → ((serial : ℕ) → IsTrue (has_usable frame serial (place_at places p)) → IsTrue (has_usable frame serial x)) → Stays frame places (slice_set places p x)
  stays_named lt named h u = dite (ℕ_discrete (place_of_handle h) p)
      (λ (e : place_of_handle h ≡ p). subst (λ (y : Place). IsTrue (has_usable frame h.serial y)) (sym (ap (place_at (slice_set places p x)) e ∙ place-set places p x lt))
      (named h.serial (subst (λ (q : ℕ). IsTrue (has_usable frame h.serial (place_at places q))) e u)))
      (λ (ne : place_of_handle h ≢ p). elsewhere h ne u)

-- a free place has nothing
pub free_unnamed : (frame : ℕ) (y : Place) → y ≡ free → (serial : ℕ) → has_usable frame serial y ≡ false
free_unnamed frame y e serial = ap (has_usable frame serial) e

-- what lives can be named still where it dies in a frame not before
pub dying_named : (frame now n : ℕ) (y : Place) → y ≡ live n → frame ≤ now → (serial : ℕ) → IsTrue (has_usable frame serial y) → IsTrue (has_usable frame serial (dying n now))
dying_named frame now n y e le serial u = (λ j. (n == serial) && le-leb frame now le j) ∙ and_true (n == serial) ∙ subst (λ (z : Place). IsTrue (has_usable frame serial z)) e u where
  and_true : (b : Bool) → b && true ≡ b
  and_true true = refl
  and_true false = refl
