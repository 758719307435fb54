-- Lists that grow by what is made of one element more.
use Rattle.std.proofs.Common.{◌≡◌, ◌∙◌, ℕ, zero, suc, ◌+◌, ◌<◌, List, [], ◌∷◌, ◌++◌, map, take, drop, length, get_or, refl, sym, ap, arith}
use Rattle.std.proofs.lemmas.List.{take_more, append_assoc}

pub map-parts : {A B : Type 0} (f : A → B) (xs ys : List A) → map f (xs ++ ys) ≡ map f xs ++ map f ys
map-parts f [] ys = refl
map-parts f (x ∷ xs) ys = ap (λ zs. f x ∷ zs) (map-parts f xs ys)

pub append-none : {A : Type 0} (xs : List A) → xs ++ [] ≡ xs
append-none [] = refl
append-none (x ∷ xs) = ap (λ ys. x ∷ ys) (append-none xs)

-- what is made of a list, part by part, where one element more was taken
pub grows : {A B : Type 0} (made : List A → List B) (old now next : List B) (xs : List A) (k : ℕ) (b : A) → ((ys zs : List A) → made (ys ++ zs) ≡ made ys ++ made zs)
    → k < length xs → b ≡ get_or xs k b → now ≡ old ++ made (take k xs) → next ≡ now ++ made (b ∷ []) → next ≡ old ++ made (take (k + 1) xs)
grows made old now next xs k b parts h is before after =
    after ∙ ap (λ ys. ys ++ made (b ∷ [])) before ∙ append_assoc old (made (take k xs)) (made (b ∷ []))
    ∙ ap (λ ys. old ++ ys) (sym (ap made (take_more xs k b h ∙ ap (λ z. take k xs ++ z ∷ []) (sym is)) ∙ parts (take k xs) (b ∷ [])))
