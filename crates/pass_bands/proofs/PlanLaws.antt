-- Lists that are joined element by element.
use Rattle.std.proofs.Common.{◌≡◌, ℕ, zero, suc, ◌<◌, List, [], ◌∷◌, ◌++◌, length, slice_index_or, refl, ap, arith}
use Rattle.gfx_model.specs.Number.{zip_with}

-- an element more at the end of each
pub zip_more : {A B C : Type 0} (f : A → B → C) (xs : List A) (ys : List B) (x : A) (y : B) → length xs ≡ length ys → zip_with f (xs ++ x ∷ []) (ys ++ y ∷ []) ≡ zip_with f xs ys ++ f x y ∷ []
zip_more f [] [] x y e = refl
zip_more f [] (b ∷ ys) x y e = absurd (omega (arith, e))
zip_more f (a ∷ xs) [] x y e = absurd (omega (arith, e))
zip_more f (a ∷ xs) (b ∷ ys) x y e = ap (λ zs. f a b ∷ zs) (zip_more f xs ys x y (omega (arith, e)))

-- as many as in each
pub length-zip : {A B C : Type 0} (f : A → B → C) (xs : List A) (ys : List B) → length xs ≡ length ys → length (zip_with f xs ys) ≡ length xs
length-zip f [] [] e = refl
length-zip f [] (b ∷ ys) e = refl
length-zip f (a ∷ xs) [] e = absurd (omega (arith, e))
length-zip f (a ∷ xs) (b ∷ ys) e = let more : length xs ≡ length ys = omega (arith, e) in ap (λ n. suc n) (length-zip f xs ys more)

-- an element
pub zip_at : {A B C : Type 0} (f : A → B → C) (xs : List A) (ys : List B) (i : ℕ) (d : A) (e : B) (c : C) → i < length xs → length xs ≡ length ys → slice_index_or (zip_with f xs ys) i c ≡ f (slice_index_or xs i d) (slice_index_or ys i e)
zip_at f [] ys i d e c h l = absurd (omega (arith, h))
zip_at f (a ∷ xs) [] i d e c h l = absurd (omega (arith, l))
zip_at f (a ∷ xs) (b ∷ ys) zero d e c h l = refl
zip_at f (a ∷ xs) (b ∷ ys) (suc i) d e c h l = zip_at f xs ys i d e c (omega (arith, h)) (omega (arith, l))
