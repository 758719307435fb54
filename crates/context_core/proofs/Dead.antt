-- A thing that is not kept is dying, of a frame before.
use Rattle.std.proofs.Common.{◌≡◌, ℕ, ◌+◌, ◌<◌, ◌≤◌, ◌==◌, ◌&&◌, Bool, true, false, not, nat_le, Option, Some, None, refl, ap, ◌∙◌, arith, List}
use Rattle.std.proofs.lemmas.Bool.{leb-true, false_from_ne_true}
use Rattle.gfx_model.specs.Resources.{is_kept_death}
use Rattle.schedule_model.specs.Machine.{Place, dying, place_at, has_usable}
use Rattle.context_core.specs.Places.{place_by}

not_false : (b : Bool) → not b ≡ false → b ≡ true
not_false true e = refl
not_false false e = absurd cc

pub dead_place : (o : Option ℕ) (serial latency frame : ℕ) → is_kept_death latency frame o ≡ false → (s : ℕ) × (d : ℕ) × (place_by serial o ≡ dying s d) × (d < frame)
dead_place None serial latency frame e = absurd cc
dead_place (Some d) serial latency frame e = let h = leb-true (d + 1 + latency) frame (not_false (nat_le (d + 1 + latency) frame) e) in (serial, d, refl, omega (arith, h))

pub dead_at : (places : List Place) (p q : ℕ) (o : Option ℕ) (serial latency frame : ℕ) → q ≡ p → place_at places p ≡ place_by serial o → is_kept_death latency frame o ≡ false → (s : ℕ) × (d : ℕ) × (place_at places q ≡ dying s d) × (d < frame)
dead_at places p q o serial latency frame e at k = let h = dead_place o serial latency frame k in (h.0, h.1, ap (place_at places) e ∙ at ∙ h.2, h.3)

-- and it can't be named in a frame that may be out
unnamed : (o : Option ℕ) (serial latency frame n : ℕ) → is_kept_death latency frame o ≡ false → frame ≤ n + latency → (s : ℕ) → has_usable n s (place_by serial o) ≡ false
unnamed None serial latency frame n e le s = absurd cc
unnamed (Some d) serial latency frame n e le s =
    (λ j. (serial == s) && not_le j) ∙ and_false (serial == s) where
      not_le : nat_le n d ≡ false
      not_le = false_from_ne_true (nat_le n d) (λ t. let a = leb-true n d t in let h = leb-true (d + 1 + latency) frame (not_false (nat_le (d + 1 + latency) frame) e) in omega (arith, a, h, le))

      and_false : (b : Bool) → b && false ≡ false
      and_false true = refl
      and_false false = refl

pub dead_unnamed : (places : List Place) (p q : ℕ) (o : Option ℕ) (serial latency frame n : ℕ) → q ≡ p → place_at places p ≡ place_by serial o → is_kept_death latency frame o ≡ false → frame ≤ n + latency → (s : ℕ) → has_usable n s (place_at places q) ≡ false
dead_unnamed places p q o serial latency frame n e at k le s = ap (has_usable n s) (ap (place_at places) e ∙ at) ∙ unnamed o serial latency frame n k le s
