-- Two neighbours, in a list that is kept by a test, and in a list that is sorted.
use Rattle.std.proofs.Common.{◌≡◌, inl, inr, ℕ, ◌<◌, ◌≤◌, nat_le, Bool, true, false, cond, List, [], ◌∷◌, ◌++◌, filter, refl, ap, sym, ◌∙◌, arith}
use Rattle.std.proofs.lemmas.Bool.{cases_order}
use Rattle.gfx_model.specs.World.{insert_by_key, sorted_by_key}
use Rattle.gfx_model.proofs.OrderedLaws.{stable-is-sorted, sorted-ascends}
use Rattle.gfx_model.proofs.KeptOrder.{Ascends-filter, at_key-filter}

-- the lists are the same, or they have two neighbours in either order of which something is known
pub data Beside {A : Type 0} (Q : Type 0) (i j : A) (xs ys : List A) : Type 0 where
  same : xs ≡ ys → Beside Q i j xs ys
  swapped : (before after : List A) → xs ≡ before ++ i ∷ j ∷ after → ys ≡ before ++ j ∷ i ∷ after → Q → Beside Q i j xs ys

-- ---- kept by a test

filter-append : {A : Type 0} (p : A → Bool) (xs ys : List A) → filter p (xs ++ ys) ≡ filter p xs ++ filter p ys
filter-append p [] ys = refl
filter-append p (x ∷ xs) ys = go (filter-append p xs ys) (p x)
  where
    go : filter p (xs ++ ys) ≡ filter p xs ++ filter p ys → (b : Bool) → cond b (x ∷ filter p (xs ++ ys)) (filter p (xs ++ ys)) ≡ cond b (x ∷ filter p xs) (filter p xs) ++ filter p ys
    go rest true = ap (λ zs. x ∷ zs) rest
    go rest false = rest

pub filter_beside : {A : Type 0} (p : A → Bool) (i j : A) (xs ys : List A) → Beside ((p i ≡ true) × (p j ≡ true)) i j (filter p (xs ++ i ∷ j ∷ ys)) (filter p (xs ++ j ∷ i ∷ ys))
filter_beside p i j xs ys = by (p i) (p j) refl refl
  where
    one : (x y : Bool) → p i ≡ x → p j ≡ y → filter p (xs ++ i ∷ j ∷ ys) ≡ filter p xs ++ cond x (i ∷ cond y (j ∷ filter p ys) (filter p ys)) (cond y (j ∷ filter p ys) (filter p ys))
    one x y e f = filter-append p xs (i ∷ j ∷ ys) ∙ (λ k. filter p xs ++ cond (e k) (i ∷ cond (f k) (j ∷ filter p ys) (filter p ys)) (cond (f k) (j ∷ filter p ys) (filter p ys)))

    other : (x y : Bool) → p i ≡ x → p j ≡ y → filter p (xs ++ j ∷ i ∷ ys) ≡ filter p xs ++ cond y (j ∷ cond x (i ∷ filter p ys) (filter p ys)) (cond x (i ∷ filter p ys) (filter p ys))
    other x y e f = filter-append p xs (j ∷ i ∷ ys) ∙ (λ k. filter p xs ++ cond (f k) (j ∷ cond (e k) (i ∷ filter p ys) (filter p ys)) (cond (e k) (i ∷ filter p ys) (filter p ys)))

    by : (x y : Bool) → p i ≡ x → p j ≡ y → Beside ((p i ≡ true) × (p j ≡ true)) i j (filter p (xs ++ i ∷ j ∷ ys)) (filter p (xs ++ j ∷ i ∷ ys))
    by true true e f = swapped (filter p xs) (filter p ys) (one true true e f) (other true true e f) (e, f)
    by true false e f = same (one true false e f ∙ sym (other true false e f))
    by false true e f = same (one false true e f ∙ sym (other false true e f))
    by false false e f = same (one false false e f ∙ sym (other false false e f))

-- more in front of both
pub cons_beside : {A : Type 0} (Q : Type 0) (i j x : A) (xs ys : List A) → Beside Q i j xs ys → Beside Q i j (x ∷ xs) (x ∷ ys)
cons_beside Q i j x xs ys (same e) = same (ap (λ zs. x ∷ zs) e)
cons_beside Q i j x xs ys (swapped before after e f q) = swapped (x ∷ before) after (ap (λ zs. x ∷ zs) e) (ap (λ zs. x ∷ zs) f) q

-- ---- sorted

le_from_test : (m n : ℕ) → nat_le m n ≡ true → m ≤ n
le_from_test m n e = grind (arith, e)

gt_from_test : (m n : ℕ) → nat_le m n ≡ false → n < m
gt_from_test m n e = grind (arith, e)

-- one more is put among neighbours of one key
inserted : {A : Type 0} (x a b : ℕ × A) (before after : List (ℕ × A)) → a.0 ≡ b.0 → Beside (a.0 ≡ b.0) a b (insert_by_key x (before ++ a ∷ b ∷ after)) (insert_by_key x (before ++ b ∷ a ∷ after))
inserted x a b [] after e = by (nat_le x.0 a.0) refl
  where
    test : (t : Bool) → nat_le x.0 a.0 ≡ t → nat_le x.0 b.0 ≡ t
    test t h = ap (nat_le x.0) (sym e) ∙ h

    by : (t : Bool) → nat_le x.0 a.0 ≡ t → Beside (a.0 ≡ b.0) a b (insert_by_key x (a ∷ b ∷ after)) (insert_by_key x (b ∷ a ∷ after))
    by true h = swapped (x ∷ []) after (ap (λ t. cond t (x ∷ a ∷ b ∷ after) (a ∷ insert_by_key x (b ∷ after))) h) (ap (λ t. cond t (x ∷ b ∷ a ∷ after) (b ∷ insert_by_key x (a ∷ after))) (test true h)) e
    by false h = swapped [] (insert_by_key x after)
        (ap (λ t. cond t (x ∷ a ∷ b ∷ after) (a ∷ insert_by_key x (b ∷ after))) h ∙ ap (λ t. a ∷ cond t (x ∷ b ∷ after) (b ∷ insert_by_key x after)) (test false h))
        (ap (λ t. cond t (x ∷ b ∷ a ∷ after) (b ∷ insert_by_key x (a ∷ after))) (test false h) ∙ ap (λ t. b ∷ cond t (x ∷ a ∷ after) (a ∷ insert_by_key x after)) h) e
inserted x a b (y ∷ before) after e = by (cons_beside (a.0 ≡ b.0) a b y (insert_by_key x (before ++ a ∷ b ∷ after)) (insert_by_key x (before ++ b ∷ a ∷ after)) (inserted x a b before after e)) (nat_le x.0 y.0)
  where
    by : Beside (a.0 ≡ b.0) a b (y ∷ insert_by_key x (before ++ a ∷ b ∷ after)) (y ∷ insert_by_key x (before ++ b ∷ a ∷ after)) → (t : Bool) → Beside (a.0 ≡ b.0) a b (cond t (x ∷ y ∷ (before ++ a ∷ b ∷ after)) (y ∷ insert_by_key x (before ++ a ∷ b ∷ after))) (cond t (x ∷ y ∷ (before ++ b ∷ a ∷ after)) (y ∷ insert_by_key x (before ++ b ∷ a ∷ after)))
    by rest true = swapped (x ∷ y ∷ before) after refl refl e
    by rest false = rest

insert_beside : {A : Type 0} (x a b : ℕ × A) (xs ys : List (ℕ × A)) → Beside (a.0 ≡ b.0) a b xs ys → Beside (a.0 ≡ b.0) a b (insert_by_key x xs) (insert_by_key x ys)
insert_beside x a b xs ys (same e) = same (ap (insert_by_key x) e)
insert_beside {A} x a b xs ys (swapped before after e f q) = by (inserted x a b before after q)
  where
    by : Beside (a.0 ≡ b.0) a b (insert_by_key x (before ++ a ∷ b ∷ after)) (insert_by_key x (before ++ b ∷ a ∷ after)) → Beside (a.0 ≡ b.0) a b (insert_by_key x xs) (insert_by_key x ys)
    by (same h) = same (ap (insert_by_key x) e ∙ h ∙ sym (ap (insert_by_key x) f))
    by (swapped front back g h r) = swapped front back (ap (insert_by_key x) e ∙ g) (ap (insert_by_key x) f ∙ h) r

-- two of one key, put one after the other
insert_equal : {A : Type 0} (a b : ℕ × A) (xs : List (ℕ × A)) → a.0 ≡ b.0 → Beside (a.0 ≡ b.0) a b (insert_by_key a (insert_by_key b xs)) (insert_by_key b (insert_by_key a xs))
insert_equal a b [] e = swapped [] [] (ap (λ t. cond t (a ∷ b ∷ []) (b ∷ a ∷ [])) (le a.0 b.0 e)) (ap (λ t. cond t (b ∷ a ∷ []) (a ∷ b ∷ [])) (le b.0 a.0 (sym e))) e
  where
    le : (m n : ℕ) → m ≡ n → nat_le m n ≡ true
    le m n h = grind (arith, h)
insert_equal a b (y ∷ ys) e = by (insert_equal a b ys e) (nat_le a.0 y.0) refl
  where
    le : (m n : ℕ) → m ≡ n → nat_le m n ≡ true
    le m n h = grind (arith, h)

    also : (t : Bool) → nat_le a.0 y.0 ≡ t → nat_le b.0 y.0 ≡ t
    also t h = ap (λ k. nat_le k y.0) (sym e) ∙ h

    by : Beside (a.0 ≡ b.0) a b (insert_by_key a (insert_by_key b ys)) (insert_by_key b (insert_by_key a ys)) → (t : Bool) → nat_le a.0 y.0 ≡ t
        → Beside (a.0 ≡ b.0) a b (insert_by_key a (insert_by_key b (y ∷ ys))) (insert_by_key b (insert_by_key a (y ∷ ys)))
    by rest true h = swapped [] (y ∷ ys)
        (ap (λ t. insert_by_key a (cond t (b ∷ y ∷ ys) (y ∷ insert_by_key b ys))) (also true h) ∙ ap (λ t. cond t (a ∷ b ∷ y ∷ ys) (b ∷ insert_by_key a (y ∷ ys))) (le a.0 b.0 e))
        (ap (λ t. insert_by_key b (cond t (a ∷ y ∷ ys) (y ∷ insert_by_key a ys))) h ∙ ap (λ t. cond t (b ∷ a ∷ y ∷ ys) (a ∷ insert_by_key b (y ∷ ys))) (le b.0 a.0 (sym e))) e
    by rest false h = moved rest
      where
        left : insert_by_key a (insert_by_key b (y ∷ ys)) ≡ y ∷ insert_by_key a (insert_by_key b ys)
        left = ap (λ t. insert_by_key a (cond t (b ∷ y ∷ ys) (y ∷ insert_by_key b ys))) (also false h) ∙ ap (λ t. cond t (a ∷ y ∷ insert_by_key b ys) (y ∷ insert_by_key a (insert_by_key b ys))) h

        right : insert_by_key b (insert_by_key a (y ∷ ys)) ≡ y ∷ insert_by_key b (insert_by_key a ys)
        right = ap (λ t. insert_by_key b (cond t (a ∷ y ∷ ys) (y ∷ insert_by_key a ys))) h ∙ ap (λ t. cond t (b ∷ y ∷ insert_by_key a ys) (y ∷ insert_by_key b (insert_by_key a ys))) (also false h)

        moved : Beside (a.0 ≡ b.0) a b (insert_by_key a (insert_by_key b ys)) (insert_by_key b (insert_by_key a ys)) → Beside (a.0 ≡ b.0) a b (insert_by_key a (insert_by_key b (y ∷ ys))) (insert_by_key b (insert_by_key a (y ∷ ys)))
        moved (same r) = same (left ∙ ap (λ zs. y ∷ zs) r ∙ sym right)
        moved (swapped before after r s q) = swapped (y ∷ before) after (left ∙ ap (λ zs. y ∷ zs) r) (right ∙ ap (λ zs. y ∷ zs) s) q

-- two of which the first has the lower key
insert_lower : {A : Type 0} (a b : ℕ × A) (xs : List (ℕ × A)) → a.0 < b.0 → insert_by_key a (insert_by_key b xs) ≡ insert_by_key b (insert_by_key a xs)
insert_lower a b [] l =
    let first : nat_le a.0 b.0 ≡ true = grind (arith, l) in
    let second : nat_le b.0 a.0 ≡ false = grind (arith, l) in
    ap (λ t. cond t (a ∷ b ∷ []) (b ∷ a ∷ [])) first ∙ sym (ap (λ t. cond t (b ∷ a ∷ []) (a ∷ b ∷ [])) second)
insert_lower a b (y ∷ ys) l = by (insert_lower a b ys l) (nat_le b.0 y.0) (nat_le a.0 y.0) refl refl
  where
    first : nat_le a.0 b.0 ≡ true
    first = grind (arith, l)

    second : nat_le b.0 a.0 ≡ false
    second = grind (arith, l)

    by : insert_by_key a (insert_by_key b ys) ≡ insert_by_key b (insert_by_key a ys) → (s t : Bool) → nat_le b.0 y.0 ≡ s → nat_le a.0 y.0 ≡ t → insert_by_key a (insert_by_key b (y ∷ ys)) ≡ insert_by_key b (insert_by_key a (y ∷ ys))
    by rest true true e f =
        ap (λ t. insert_by_key a (cond t (b ∷ y ∷ ys) (y ∷ insert_by_key b ys))) e ∙ ap (λ t. cond t (a ∷ b ∷ y ∷ ys) (b ∷ insert_by_key a (y ∷ ys))) first
        ∙ sym (ap (λ t. insert_by_key b (cond t (a ∷ y ∷ ys) (y ∷ insert_by_key a ys))) f ∙ ap (λ t. cond t (b ∷ a ∷ y ∷ ys) (a ∷ insert_by_key b (y ∷ ys))) second
        ∙ ap (λ t. a ∷ cond t (b ∷ y ∷ ys) (y ∷ insert_by_key b ys)) e)
    by rest true false e f = absurd (let m = le_from_test b.0 y.0 e in let n = gt_from_test a.0 y.0 f in omega (arith, l, m, n))
    by rest false true e f =
        ap (λ t. insert_by_key a (cond t (b ∷ y ∷ ys) (y ∷ insert_by_key b ys))) e ∙ ap (λ t. cond t (a ∷ y ∷ insert_by_key b ys) (y ∷ insert_by_key a (insert_by_key b ys))) f
        ∙ sym (ap (λ t. insert_by_key b (cond t (a ∷ y ∷ ys) (y ∷ insert_by_key a ys))) f ∙ ap (λ t. cond t (b ∷ a ∷ y ∷ ys) (a ∷ insert_by_key b (y ∷ ys))) second
        ∙ ap (λ t. a ∷ cond t (b ∷ y ∷ ys) (y ∷ insert_by_key b ys)) e)
    by rest false false e f =
        ap (λ t. insert_by_key a (cond t (b ∷ y ∷ ys) (y ∷ insert_by_key b ys))) e ∙ ap (λ t. cond t (a ∷ y ∷ insert_by_key b ys) (y ∷ insert_by_key a (insert_by_key b ys))) f
        ∙ ap (λ zs. y ∷ zs) rest
        ∙ sym (ap (λ t. insert_by_key b (cond t (a ∷ y ∷ ys) (y ∷ insert_by_key a ys))) f ∙ ap (λ t. cond t (b ∷ y ∷ insert_by_key a ys) (y ∷ insert_by_key b (insert_by_key a ys))) e)

insert_two : {A : Type 0} (a b : ℕ × A) (xs : List (ℕ × A)) → Beside (a.0 ≡ b.0) a b (insert_by_key a (insert_by_key b xs)) (insert_by_key b (insert_by_key a xs))
insert_two a b xs = elim (cases_order a.0 b.0) [
  | inl e ↦ insert_equal a b xs e
  | inr (inl l) ↦ same (insert_lower a b xs l)
  | inr (inr l) ↦ same (sym (insert_lower b a xs l))
]

-- neighbours that are swapped before sorting are the same after it, or are neighbours of one key
pub sorted_beside : {A : Type 0} (a b : ℕ × A) (xs ys : List (ℕ × A)) → Beside (a.0 ≡ b.0) a b (sorted_by_key (xs ++ a ∷ b ∷ ys)) (sorted_by_key (xs ++ b ∷ a ∷ ys))
sorted_beside a b [] ys = insert_two a b (sorted_by_key ys)
sorted_beside a b (x ∷ xs) ys = insert_beside x a b (sorted_by_key (xs ++ a ∷ b ∷ ys)) (sorted_by_key (xs ++ b ∷ a ∷ ys)) (sorted_beside a b xs ys)

-- what a test keeps of a sorted list is sorted from what it keeps
pub filter_sorted : {A : Type 0} (s : A → Bool) (xs : List (ℕ × A)) → filter (λ x. s x.1) (sorted_by_key xs) ≡ sorted_by_key (filter (λ x. s x.1) xs)
filter_sorted s xs =
    stable-is-sorted (filter (λ x. s x.1) xs) (filter (λ x. s x.1) (sorted_by_key xs)) (Ascends-filter (λ x. s x.1) 0 (sorted_by_key xs) (sorted-ascends xs)) (λ k. at_key-filter s k xs)
