-- One number more of a range.
use Rattle.std.proofs.Common.{◌≡◌, ℕ, ◌+◌, List, [], ◌∷◌, ◌++◌, map, refl, ap, sym, ◌∙◌}
use Rattle.std.specs.List.{range_with_len}
use Rattle.std.proofs.lemmas.List.{map-append}
use Rattle.std.proofs.lemmas.List.FromFn.{map-range_with_len_more}

pub more : {X A B : Type 0} (g : X → B) (p : A → B) (h : ℕ → A) (first n : ℕ) (old new : List X) → map g new ≡ map g old ++ p (h (first + n)) ∷ []
    → map g old ≡ map p (map h (range_with_len first n)) → map g new ≡ map p (map h (range_with_len first (n + 1)))
more {X} {A} {B} g p h first n old new push same =
    push
    ∙ (λ i. same i ++ p (h (first + n)) ∷ [])
    ∙ sym (ap (map p) (map-range_with_len_more h first n (first + n) refl) ∙ map-append p (map h (range_with_len first n)) (h (first + n) ∷ []))
