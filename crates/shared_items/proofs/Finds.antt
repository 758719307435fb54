-- Searches over ranges of places.
use Rattle.std.proofs.Common.{◌≡◌, ℕ, zero, suc, ◌+◌, ◌-◌, ◌<◌, ◌≤◌, Bool, true, false, ◌==◌, cond, List, [], ◌∷◌, Option, Some, None, refl, sym, ap, ◌∙◌, arith}
use Rattle.std.specs.Prelude.{is_some, option_map, option_and_then}
use Rattle.std.specs.List.{find, range_with_len}
use Rattle.shared_items.specs.Items.{ItemSharing, partner_item, least_items}

-- the search from a place on takes that place first
find_from : (q : ℕ → Bool) (i n k : ℕ) → n ≡ suc k → find q (range_with_len i n) ≡ cond (q i) (Some i) (find q (range_with_len (i + 1) k))
find_from q i n k e = ap (λ m. find q (range_with_len i m)) e

pub find_next : (q : ℕ → Bool) (i n : ℕ) (r : Option ℕ) → i < n → q i ≡ false → find q (range_with_len i (n - i)) ≡ r → find q (range_with_len (i + 1) (n - (i + 1))) ≡ r
find_next q i n r lt fails e =
    sym (find_from q i (n - i) (n - (i + 1)) (omega (arith, lt)) ∙ ap (λ b. cond b (Some i) (find q (range_with_len (i + 1) (n - (i + 1))))) fails) ∙ e

pub find_here : (q : ℕ → Bool) (i n : ℕ) (r : Option ℕ) → i < n → q i ≡ true → find q (range_with_len i (n - i)) ≡ r → Some i ≡ r
find_here q i n r lt holds e =
    sym (find_from q i (n - i) (n - (i + 1)) (omega (arith, lt)) ∙ ap (λ b. cond b (Some i) (find q (range_with_len (i + 1) (n - (i + 1))))) holds) ∙ e

pub find_none : (q : ℕ → Bool) (i n : ℕ) (r : Option ℕ) → n ≤ i → find q (range_with_len i (n - i)) ≡ r → None ≡ r
find_none q i n r le e = sym (ap (λ m. find q (range_with_len i m)) (let z : n - i ≡ 0 = omega (arith, le) in z)) ∙ e

-- ---- pairs

-- the first of the first encoder's items that has a partner, with it
pub least_found : (share : ItemSharing) (i m n j : ℕ) → i < m → Some j ≡ partner_item share n i → find (λ i. is_some (partner_item share n i)) (range_with_len i (m - i)) ≡ find (λ i. is_some (partner_item share n i)) (range_with_len 0 m)
    → Some (i, j) ≡ least_items share m n
least_found share i m n j lt is whole =
    let here = find_here (λ i. is_some (partner_item share n i)) i m _ lt (ap is_some (sym is)) whole in
    ap (option_map (pair_with i)) is ∙ ap (option_and_then (λ i. option_map (λ j. (i, j)) (partner_item share n i))) here
  where
    pair_with : ℕ → ℕ → ℕ × ℕ
    pair_with i j = (i, j)

pub least_next : (share : ItemSharing) (i m n : ℕ) (r : Option ℕ) → i < m → None ≡ partner_item share n i → find (λ i. is_some (partner_item share n i)) (range_with_len i (m - i)) ≡ r → find (λ i. is_some (partner_item share n i)) (range_with_len (i + 1) (m - (i + 1))) ≡ r
least_next share i m n r lt is whole = find_next (λ i. is_some (partner_item share n i)) i m r lt (ap is_some (sym is)) whole

-- ---- what is found

-- what a search finds is what it looks for
pub find_holds : (q : ℕ → Bool) (xs : List ℕ) (x : ℕ) → find q xs ≡ Some x → q x ≡ true
find_holds q [] x e = absurd (cc e)
find_holds q (y ∷ ys) x e = go (find_holds q ys x) (q y) refl e
  where
    go : (find q ys ≡ Some x → q x ≡ true) → (b : Bool) → q y ≡ b → cond b (Some y) (find q ys) ≡ Some x → q x ≡ true
    go rest true is f = let same : y ≡ x = cc f in ap q (sym same) ∙ is
    go rest false is f = rest f

-- a search over places finds something where one of them is looked for
pub find_some : (q : ℕ → Bool) (low n x : ℕ) → low ≤ x → x < low + n → q x ≡ true → is_some (find q (range_with_len low n)) ≡ true
find_some q low zero x le lt is = absurd (omega (arith, le, lt))
find_some q low (suc n) x le lt is = go (λ above. find_some q (low + 1) n x above (omega (arith, lt)) is) (q low) refl
  where
    above : q low ≡ false → (t : Bool) → (low == x) ≡ t → low + 1 ≤ x
    above e true same = (let p : low ≡ x = grind (arith, same) in absurd (cc (sym e ∙ ap q p ∙ is)))
    above e false other = grind (arith, le, other)

    go : (low + 1 ≤ x → is_some (find q (range_with_len (low + 1) n)) ≡ true) → (b : Bool) → q low ≡ b → is_some (cond b (Some low) (find q (range_with_len (low + 1) n))) ≡ true
    go rest true e = refl
    go rest false e = rest (above e (low == x) refl)

is_some_map : {A B : Type 0} (f : A → B) (o : Option A) → is_some (option_map f o) ≡ is_some o
is_some_map f None = refl
is_some_map f (Some x) = refl

-- there is a least pair where one pair shares
pub least_some : (share : ItemSharing) (m n i j : ℕ) → i < m → j < n → share i j ≡ true → is_some (least_items share m n) ≡ true
least_some share m n i j lm ln is =
    go (find (λ i. is_some (partner_item share n i)) (range_with_len 0 m)) refl (find_some (λ i. is_some (partner_item share n i)) 0 m i (omega arith) (omega (arith, lm)) (find_some (share i) 0 n j (omega arith) (omega (arith, ln)) is))
  where
    pair_with : ℕ → ℕ → ℕ × ℕ
    pair_with a b = (a, b)

    go : (o : Option ℕ) → find (λ i. is_some (partner_item share n i)) (range_with_len 0 m) ≡ o → is_some o ≡ true → is_some (option_and_then (λ i. option_map (pair_with i) (partner_item share n i)) o) ≡ true
    go None e h = cc h
    go (Some k) e h = is_some_map (pair_with k) (partner_item share n k) ∙ find_holds (λ i. is_some (partner_item share n i)) (range_with_len 0 m) k e

-- a second encoder without items has no part in a pair
pub least_none : (share : ItemSharing) (m low : ℕ) → find (λ i. is_some (partner_item share 0 i)) (range_with_len low m) ≡ None
least_none share zero low = refl
least_none share (suc m) low = least_none share m (low + 1)
