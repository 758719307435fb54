-- One number more in a loop over numbers of which some make a list.
use Rattle.std.proofs.Common.{◌≡◌, ℕ, ◌+◌, ◌<◌, Bool, List, [], ◌∷◌, ◌++◌, length, map, take, slice_index, filter, sym, ap, ◌∙◌}
use Rattle.std.proofs.lemmas.List.{take_more, map-append}
use Rattle.std.proofs.lemmas.List.Elements.{filter-append}

pub map_turn : {B : Type 0} (f : ℕ → B) (p : ℕ → Bool) (xs : List ℕ) (i x : ℕ) (best next : List B)
    → i < length xs → x ≡ slice_index xs i → best ≡ map f (filter p (take i xs)) → next ≡ best ++ map f (filter p (x ∷ []))
    → next ≡ map f (filter p (take (i + 1) xs))
map_turn f p xs i x best next lt is e step =
    let more : take (i + 1) xs ≡ take i xs ++ x ∷ [] = take_more xs i 0 lt ∙ ap (λ y. take i xs ++ y ∷ []) (sym is) in
    let parts : filter p (take (i + 1) xs) ≡ filter p (take i xs) ++ filter p (x ∷ []) = ap (filter p) more ∙ filter-append p (take i xs) (x ∷ []) in
    step ∙ ap (λ ys. ys ++ map f (filter p (x ∷ []))) e ∙ sym (map-append f (filter p (take i xs)) (filter p (x ∷ []))) ∙ ap (map f) (sym parts)
