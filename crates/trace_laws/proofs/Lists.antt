-- Lists that grow.
use Rattle.std.proofs.Common.{◌≡◌, ◌∙◌, ℕ, ◌+◌, ◌<◌, Bool, List, [], ◌∷◌, ◌++◌, map, filter, take, length, get_or, slice_index, refl, sym, ap}
use Rattle.std.specs.Prelude.{flat_map}
use Rattle.std.proofs.lemmas.List.{take_more, append_assoc}
use Rattle.std.proofs.lemmas.List.Elements.{filter-append}

pub append-none : {A : Type 0} (xs : List A) → xs ++ [] ≡ xs
append-none [] = refl
append-none (x ∷ xs) = ap (λ ys. x ∷ ys) (append-none xs)

pub map-more : {A B : Type 0} (f : A → B) (xs ys : List A) → map f (xs ++ ys) ≡ map f xs ++ map f ys
map-more f [] ys = refl
map-more f (x ∷ xs) ys = ap (λ zs. f x ∷ zs) (map-more f xs ys)

pub flat-more : {A B : Type 0} (f : A → List B) (xs ys : List A) → flat_map f (xs ++ ys) ≡ flat_map f xs ++ flat_map f ys
flat-more f [] ys = refl
flat-more f (x ∷ xs) ys = ap (λ zs. f x ++ zs) (flat-more f xs ys) ∙ sym (append_assoc (f x) (flat_map f xs) (flat_map f ys))

-- what is made of a list, part by part, where one element more was taken
pub grows : {A B : Type 0} (made : List A → List B) (old now next : List B) (xs : List A) (k : ℕ) (b : A) → ((ys zs : List A) → made (ys ++ zs) ≡ made ys ++ made zs)
    → k < length xs → get_or xs k b ≡ b → now ≡ old ++ made (take k xs) → next ≡ now ++ made (b ∷ []) → next ≡ old ++ made (take (k + 1) xs)
grows made old now next xs k b parts h is before after =
    after ∙ ap (λ ys. ys ++ made (b ∷ [])) before ∙ append_assoc old (made (take k xs)) (made (b ∷ []))
    ∙ ap (λ ys. old ++ ys) (sym (ap made (take_more xs k b h ∙ ap (λ z. take k xs ++ z ∷ []) is) ∙ parts (take k xs) (b ∷ [])))

-- where each element of some sort gives a list
pub lists-turn : {B : Type 0} (f : ℕ → List B) (p : ℕ → Bool) (xs : List ℕ) (i x : ℕ) (best next : List B)
    → i < length xs → x ≡ slice_index xs i → best ≡ flat_map f (filter p (take i xs)) → next ≡ best ++ flat_map f (filter p (x ∷ []))
    → next ≡ flat_map f (filter p (take (i + 1) xs))
lists-turn f p xs i x best next lt is e step =
    let more : take (i + 1) xs ≡ take i xs ++ x ∷ [] = take_more xs i 0 lt ∙ ap (λ y. take i xs ++ y ∷ []) (sym is) in
    let parts : filter p (take (i + 1) xs) ≡ filter p (take i xs) ++ filter p (x ∷ []) = ap (filter p) more ∙ filter-append p (take i xs) (x ∷ []) in
    step ∙ ap (λ ys. ys ++ flat_map f (filter p (x ∷ []))) e ∙ sym (flat-more f (filter p (take i xs)) (filter p (x ∷ []))) ∙ ap (flat_map f) (sym parts)

-- the same where the element is read with another in its place past the end
pub grows-at : {A B : Type 0} (made : List A → List B) (old now next : List B) (xs : List A) (k : ℕ) (d : A) → ((ys zs : List A) → made (ys ++ zs) ≡ made ys ++ made zs)
    → k < length xs → now ≡ old ++ made (take k xs) → next ≡ now ++ made (get_or xs k d ∷ []) → next ≡ old ++ made (take (k + 1) xs)
grows-at made old now next xs k d parts h before after =
    after ∙ ap (λ ys. ys ++ made (get_or xs k d ∷ [])) before ∙ append_assoc old (made (take k xs)) (made (get_or xs k d ∷ []))
    ∙ ap (λ ys. old ++ ys) (sym (ap made (take_more xs k d h) ∙ parts (take k xs) (get_or xs k d ∷ [])))
