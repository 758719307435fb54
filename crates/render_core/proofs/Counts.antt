-- Outcomes that are kept as numbers.
use Rattle.std.proofs.Common.{◌≡◌, ℕ, zero, suc, ◌+◌, ◌<◌, true, List, [], ◌∷◌, ◌++◌, length, replicate, Option, Some, None, refl, sym, ap, ◌∙◌, arith, append_assoc, append-nil, length-append}
use Rattle.std.specs.Prelude.{min, ◌||◌, not, is_some}
use Rattle.frame_record.specs.declared.frame.Outcome.{Outcome}
use Rattle.frame_record.specs.declared.frame.Outcome.TheVariants as outcomes
use Rattle.render_core.specs.declared.outcomes.Fault.{Fault}
use Rattle.render_core.specs.declared.outcomes.Fault.TheVariants as faults
use Rattle.render_core.specs.declared.outcomes.End.{End}
use Rattle.render_core.specs.Outcomes.{is_shown, is_skipped, has_ended}
use Rattle.render_core.specs.Counted.{fault_seen, end_in, outcomes_in, shown_after, end_after}

shown_then : (n : ℕ) (rest : List Outcome) → has_ended (replicate n outcomes.Shown ++ rest) ≡ has_ended rest
shown_then zero rest = refl
shown_then (suc n) rest = shown_then n rest

fault_ends : (f : Fault) (rest : List Outcome) → has_ended (fault_seen f ∷ rest) ≡ true
fault_ends faults.Picture rest = refl
fault_ends faults.Memory rest = refl

-- a frame was not shown exactly where there is an end
pub ended_is : (n : ℕ) (e : Option End) → is_some e ≡ has_ended (outcomes_in n e)
ended_is n None = sym (shown_then n [])
ended_is n (Some e) = sym (shown_then n (end_in (Some e)) ∙ fault_ends e.fault (replicate e.skipped outcomes.Skipped))

pub ended_after : (n : ℕ) (e : Option End) (o : Outcome) → is_skipped o ≡ has_ended (outcomes_in n e)
    → has_ended (outcomes_in (shown_after n o) (end_after e o)) ≡ (has_ended (outcomes_in n e) || not (is_shown o))
ended_after n e o is = sym (ended_is (shown_after n o) (end_after e o)) ∙ go e o (is ∙ sym (ended_is n e)) ∙ ap (λ b. b || not (is_shown o)) (ended_is n e)
  where
    go : (e : Option End) (o : Outcome) → is_skipped o ≡ is_some e → is_some (end_after e o) ≡ (is_some e || not (is_shown o))
    go None outcomes.Shown is = refl
    go (Some e) outcomes.Shown is = refl
    go None outcomes.PictureFault is = refl
    go (Some e) outcomes.PictureFault is = refl
    go None outcomes.OutOfMemory is = refl
    go (Some e) outcomes.OutOfMemory is = refl
    go None outcomes.Skipped is = cc is
    go (Some e) outcomes.Skipped is = refl

replicate_more : {A : Type 0} (n : ℕ) (x : A) → replicate (suc n) x ≡ replicate n x ++ x ∷ []
replicate_more zero x = refl
replicate_more (suc n) x = ap (λ xs. x ∷ xs) (replicate_more n x)

length_replicate : {A : Type 0} (n : ℕ) (x : A) → length (replicate n x) ≡ n
length_replicate zero x = refl
length_replicate (suc n) x = ap suc (length_replicate n x)

-- a number that can be counted is counted
counted_more : (n : ℕ) → n < 18446744073709551615 → min (n + 1) 18446744073709551615 ≡ suc n
counted_more n lt = omega (arith, lt)

pub added : (n : ℕ) (e : Option End) (o : Outcome) → is_skipped o ≡ has_ended (outcomes_in n e) → length (outcomes_in n e) < 18446744073709551615
    → outcomes_in (shown_after n o) (end_after e o) ≡ outcomes_in n e ++ o ∷ []
added n e o is few = go e o (is ∙ sym (ended_is n e)) few
  where
    shown : List Outcome
    shown = replicate n outcomes.Shown

    go : (e : Option End) (o : Outcome) → is_skipped o ≡ is_some e → length (outcomes_in n e) < 18446744073709551615 → outcomes_in (shown_after n o) (end_after e o) ≡ outcomes_in n e ++ o ∷ []
    go None outcomes.Shown is few =
        let many : length (replicate n outcomes.Shown ++ []) ≡ n = ap length (append-nil (replicate n outcomes.Shown)) ∙ length_replicate n outcomes.Shown in
        let lt : n < 18446744073709551615 = omega (arith, few, many) in
        ap (λ m. replicate m outcomes.Shown ++ []) (counted_more n lt) ∙ append-nil (replicate (suc n) outcomes.Shown) ∙ replicate_more n outcomes.Shown ∙ ap (λ xs. xs ++ outcomes.Shown ∷ []) (sym (append-nil (replicate n outcomes.Shown)))
    go (Some e) outcomes.Shown is few = cc is
    go None outcomes.PictureFault is few = ap (λ xs. xs ++ outcomes.PictureFault ∷ []) (sym (append-nil (replicate n outcomes.Shown)))
    go (Some e) outcomes.PictureFault is few = cc is
    go None outcomes.OutOfMemory is few = ap (λ xs. xs ++ outcomes.OutOfMemory ∷ []) (sym (append-nil (replicate n outcomes.Shown)))
    go (Some e) outcomes.OutOfMemory is few = cc is
    go None outcomes.Skipped is few = cc is
    go (Some e) outcomes.Skipped is few =
        let long = length-append (replicate n outcomes.Shown) (fault_seen e.fault ∷ replicate e.skipped outcomes.Skipped) in
        let many = length_replicate e.skipped outcomes.Skipped in
        let lt : e.skipped < 18446744073709551615 = omega (arith, few, long, many) in
        ap (λ m. replicate n outcomes.Shown ++ fault_seen e.fault ∷ replicate m outcomes.Skipped) (counted_more e.skipped lt)
        ∙ ap (λ xs. replicate n outcomes.Shown ++ fault_seen e.fault ∷ xs) (replicate_more e.skipped outcomes.Skipped)
        ∙ sym (append_assoc (replicate n outcomes.Shown) (fault_seen e.fault ∷ replicate e.skipped outcomes.Skipped) (outcomes.Skipped ∷ []))
