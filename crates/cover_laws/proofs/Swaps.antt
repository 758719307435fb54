-- Lawful frames differ by swaps of neighbours of different encoders.
use Rattle.std.proofs.Common.{◌≡◌, ℕ, zero, suc, ◌+◌, ◌<◌, ◌≤◌, Bool, true, false, cond, ◌==◌, List, [], ◌∷◌, ◌++◌, map, filter, length, refl, ap, sym, ◌∙◌, arith, append_assoc, eqb-true, inl, inr}
use Rattle.std.proofs.lemmas.Bool.{cases_order}
use Rattle.std.specs.List.{AllByRecursion}
use Rattle.scene_model.specs.Fold.{Accepted, FramePlan}
use Rattle.scene_model.specs.Journal.{Entry, ordinals_of, HasInOrder, AreBelow, IsLawfulFrame}

-- the entries of an encoder
abbrev pub of_encoder : ℕ → List Entry → List Entry
of_encoder e entries = filter (λ n. n.encoder == e) entries

-- what does not see a swap of neighbours of different encoders
abbrev pub Blind : {X : Type 0} → (List Entry → X) → Type 0
Blind F = (before : List Entry) (a b : Entry) (after : List Entry) → (a.encoder == b.encoder) ≡ false → F (before ++ a ∷ b ∷ after) ≡ F (before ++ b ∷ a ∷ after)

abbrev NoneOf : ℕ → List Entry → Type 0
NoneOf e entries = AllByRecursion (λ n. (n.encoder == e) ≡ false) entries

self_test : (n : ℕ) → (n == n) ≡ true
self_test n = grind arith

-- ---- an entry comes to the front

one_more : (xs : List Entry) (a : Entry) (ys : List Entry) → xs ++ a ∷ ys ≡ (xs ++ a ∷ []) ++ ys
one_more xs a ys = sym (append_assoc xs (a ∷ []) ys)

to_front : {X : Type 0} (F : List Entry → X) → Blind F → (before A : List Entry) (y : Entry) (B : List Entry) → NoneOf y.encoder A → F (before ++ (A ++ y ∷ B)) ≡ F (before ++ y ∷ (A ++ B))
to_front F blind before [] y B none = refl
to_front F blind before (a ∷ A) y B none =
    ap F (one_more before a (A ++ y ∷ B)) ∙ to_front F blind (before ++ a ∷ []) A y B none.1 ∙ ap F (sym (one_more before a (y ∷ (A ++ B)))) ∙ blind before a y (A ++ B) none.0

-- ---- the first entry of an encoder

record Found (e : ℕ) (xs : List Entry) (y : Entry) (ys : List Entry) : Type 0 where
  A : List Entry
  B : List Entry
  none : NoneOf e A
  is : xs ≡ A ++ y ∷ B
  left : of_encoder e B ≡ ys

first_of : (e : ℕ) (xs : List Entry) (y : Entry) (ys : List Entry) → of_encoder e xs ≡ y ∷ ys → Found e xs y ys
first_of e [] y ys h = absurd (cc h)
first_of e (x ∷ xs) y ys h = by (x.encoder == e) refl h (first_of e xs y ys)
  where
    by : (b : Bool) → (x.encoder == e) ≡ b → cond b (x ∷ of_encoder e xs) (of_encoder e xs) ≡ y ∷ ys → (of_encoder e xs ≡ y ∷ ys → Found e xs y ys) → Found e (x ∷ xs) y ys
    by true t h later = (let heads : x ≡ y = cc h in let tails : of_encoder e xs ≡ ys = cc h in record { A = []; B = xs; none = tt; is = ap (λ z. z ∷ xs) heads; left = tails })
    by false t h later = (let f = later h in record { A = x ∷ f.A; B = f.B; none = (t, f.none); is = ap (λ zs. x ∷ zs) f.is; left = f.left })

-- an entry of another encoder is not seen
other_skipped : (e : ℕ) (A : List Entry) (y : Entry) (B : List Entry) → (y.encoder == e) ≡ false → of_encoder e (A ++ y ∷ B) ≡ of_encoder e (A ++ B)
other_skipped e [] y B h = ap (λ b. cond b (y ∷ of_encoder e B) (of_encoder e B)) h
other_skipped e (a ∷ A) y B h = ap (λ zs. cond (a.encoder == e) (a ∷ zs) zs) (other_skipped e A y B h)

none_skipped : (e : ℕ) (A B : List Entry) → NoneOf e A → of_encoder e (A ++ B) ≡ of_encoder e B
none_skipped e [] B none = refl
none_skipped e (a ∷ A) B none = ap (λ b. cond b (a ∷ of_encoder e (A ++ B)) (of_encoder e (A ++ B))) none.0 ∙ none_skipped e A B none.1

-- ---- lists with the same entries of each encoder

abbrev pub AreSame : List Entry → List Entry → Type 0
AreSame xs ys = (e : ℕ) → of_encoder e xs ≡ of_encoder e ys

rest_same : (xs : List Entry) (y : Entry) (ys : List Entry) → AreSame xs (y ∷ ys) → (f : Found y.encoder xs y (of_encoder y.encoder ys)) → AreSame (f.A ++ f.B) ys
rest_same xs y ys h f e = by (y.encoder == e) refl
  where
    by : (b : Bool) → (y.encoder == e) ≡ b → of_encoder e (f.A ++ f.B) ≡ of_encoder e ys
    by true t = (let same : y.encoder ≡ e = eqb-true _ _ t in ap (λ k. of_encoder k (f.A ++ f.B)) (sym same) ∙ none_skipped y.encoder f.A f.B f.none ∙ f.left ∙ ap (λ k. of_encoder k ys) same)
    by false t = sym (other_skipped e f.A y f.B t) ∙ ap (of_encoder e) (sym f.is) ∙ h e ∙ ap (λ b. cond b (y ∷ of_encoder e ys) (of_encoder e ys)) t

pub by_swaps : {X : Type 0} (F : List Entry → X) → Blind F → (before xs ys : List Entry) → AreSame xs ys → F (before ++ xs) ≡ F (before ++ ys)
by_swaps F blind before [] [] h = refl
by_swaps F blind before (x ∷ xs) [] h = (let bad : x ∷ of_encoder x.encoder xs ≡ [] = ap (λ b. cond b (x ∷ of_encoder x.encoder xs) (of_encoder x.encoder xs)) (sym (self_test x.encoder)) ∙ h x.encoder in absurd (cc bad))
by_swaps F blind before xs (y ∷ ys) h =
    let found = first_of y.encoder xs y (of_encoder y.encoder ys) (h y.encoder ∙ ap (λ b. cond b (y ∷ of_encoder y.encoder ys) (of_encoder y.encoder ys)) (self_test y.encoder)) in
    ap (λ zs. F (before ++ zs)) found.is ∙ to_front F blind before found.A y found.B found.none ∙ ap F (one_more before y (found.A ++ found.B))
    ∙ by_swaps F blind (before ++ y ∷ []) (found.A ++ found.B) ys (rest_same xs y ys h found) ∙ ap F (sym (one_more before y ys))

-- ---- lawful frames

abbrev entry : ℕ → ℕ → Entry
entry e o = record { encoder = e; ordinal = o }

from_ordinals : (e : ℕ) (xs : List Entry) → of_encoder e xs ≡ map (entry e) (ordinals_of e xs)
from_ordinals e [] = refl
from_ordinals e (x ∷ xs) = by (x.encoder == e) refl (from_ordinals e xs)
  where
    by : (b : Bool) → (x.encoder == e) ≡ b → of_encoder e xs ≡ map (entry e) (ordinals_of e xs)
        → cond b (x ∷ of_encoder e xs) (of_encoder e xs) ≡ map (entry e) (map (λ n. n.ordinal) (cond b (x ∷ of_encoder e xs) (of_encoder e xs)))
    by true t h = (let same : x.encoder ≡ e = eqb-true _ _ t in λ i. record { encoder = same i; ordinal = x.ordinal } ∷ h i)
    by false t h = h

in_order : (first : ℕ) (encoders : List Accepted) (xs ys : List Entry) → HasInOrder first encoders xs → HasInOrder first encoders ys → (i : ℕ) → i < length encoders → ordinals_of (first + i) xs ≡ ordinals_of (first + i) ys
in_order first [] xs ys hx hy i lt = absurd (omega (arith, lt))
in_order first (a ∷ encoders) xs ys hx hy zero lt = (let none : first + 0 ≡ first = omega arith in ap (λ k. ordinals_of k xs) none ∙ hx.0 ∙ sym hy.0 ∙ ap (λ k. ordinals_of k ys) (sym none))
in_order first (a ∷ encoders) xs ys hx hy (suc i) lt =
    let next : first + suc i ≡ first + 1 + i = omega arith in
    ap (λ k. ordinals_of k xs) next ∙ in_order (first + 1) encoders xs ys hx.1 hy.1 i (omega (arith, lt)) ∙ ap (λ k. ordinals_of k ys) (sym next)

none_above : (count e : ℕ) (xs : List Entry) → AreBelow count xs → count ≤ e → of_encoder e xs ≡ []
none_above count e [] h le = refl
none_above count e (x ∷ xs) h le = (let other : (x.encoder == e) ≡ false = grind (arith, h.0, le) in ap (λ b. cond b (x ∷ of_encoder e xs) (of_encoder e xs)) other ∙ none_above count e xs h.1 le)

pub lawful_same : (p : FramePlan) (xs ys : List Entry) → IsLawfulFrame p xs → IsLawfulFrame p ys → AreSame xs ys
lawful_same p xs ys hx hy e = elim (cases_order e (length p.encoders)) [
  | inl same ↦ above (omega (arith, same))
  | inr (inl l) ↦ (let none : 0 + e ≡ e = omega arith in
      from_ordinals e xs ∙ ap (map (entry e)) (ap (λ k. ordinals_of k xs) (sym none) ∙ in_order 0 p.encoders xs ys hx.in_order hy.in_order e l ∙ ap (λ k. ordinals_of k ys) none) ∙ sym (from_ordinals e ys))
  | inr (inr l) ↦ above (omega (arith, l))
]
  where
    above : length p.encoders ≤ e → of_encoder e xs ≡ of_encoder e ys
    above le = none_above (length p.encoders) e xs hx.no_other le ∙ sym (none_above (length p.encoders) e ys hy.no_other le)
