-- The least pairs of the definition.
use Rattle.std.proofs.Common.{◌≡◌, ℕ, zero, suc, ◌+◌, ◌-◌, ◌<◌, ◌≤◌, inl, inr, Bool, true, false, is_some, ◌==◌, cond, List, [], ◌∷◌, filter_map, Option, Some, None, option_map, option_and_then, refl, sym, ap, subst, ◌∙◌, arith}
use Rattle.std.specs.Prelude.{⊤}
use Rattle.std.specs.List.{find, range_with_len, cons_option}
use Rattle.std.proofs.lemmas.Bool.{cases_order}
use Rattle.shared_keys.specs.Pairs.{Sharing, partner_of, least_pair, sharing_views}
use Rattle.shared_keys.proofs.Steps.{Step}
use Rattle.shared_keys.proofs.Kept.{Pair, IsUpTo, Up, pair_at}

clash : true ≡ false → ⊥
clash e = cc e

-- ---- the first number of a range that passes

find-first : (p : ℕ → Bool) (low n x : ℕ) → low ≤ x → x < low + n → p x ≡ true → ((y : ℕ) → low ≤ y → y < x → p y ≡ false) → find p (range_with_len low n) ≡ Some x
find-first p low zero x l h t f = absurd (omega (arith, l, h))
find-first p low (suc n) x l h t f = elim (cases_order low x) [
  | inl same ↦ subst (λ (y : ℕ). cond (p low) (Some low) (find p (range_with_len (low + 1) n)) ≡ Some y) same (λ i. cond ((ap p same ∙ t) i) (Some low) (find p (range_with_len (low + 1) n)))
  | inr (inl less) ↦ (λ i. cond (f low (omega arith) less i) (Some low) (find p (range_with_len (low + 1) n))) ∙ find-first p (low + 1) n x (omega (arith, less)) (omega (arith, h)) t (λ y a b. f y (omega (arith, a)) b)
  | inr (inr more) ↦ absurd (omega (arith, l, more))
]

find-none : (p : ℕ → Bool) (low n : ℕ) → ((y : ℕ) → low ≤ y → p y ≡ false) → find p (range_with_len low n) ≡ None
find-none p low zero f = refl
find-none p low (suc n) f = (λ i. cond (f low (omega arith) i) (Some low) (find p (range_with_len (low + 1) n))) ∙ find-none p (low + 1) n (λ y a. f y (omega (arith, a)))

-- ---- the least pair

not_true : (b : Bool) → (b ≡ true → ⊥) → b ≡ false
not_true true f = absurd (f refl)
not_true false f = refl

pub least-none : (share : Sharing) (encoders v : ℕ) → ((a b : ℕ) → a < b → share v a b ≡ false) → least_pair share encoders v ≡ None
least-none share encoders v none =
    let alone : (a : ℕ) → partner_of share encoders v a ≡ None = λ a. find-none (share v a) (a + 1) (encoders - (a + 1)) (λ b l. none a b (omega (arith, l))) in
    ap (option_and_then (λ a. option_map (λ b. (a, b)) (partner_of share encoders v a))) (find-none (λ a. is_some (partner_of share encoders v a)) 0 encoders (λ a l. ap is_some (alone a)))

-- two encoders share, and no lesser two do
pub record IsLeastOf (share : Sharing) (v : ℕ) (x : Pair) : Type 0 where
  pub rises : x.0 < x.1
  pub shared : share v x.0 x.1 ≡ true
  pub least : (a b : ℕ) → a < b → share v a b ≡ true → IsUpTo x (a, b)

pub least-is : (share : Sharing) (encoders v : ℕ) (x : Pair) → x.1 < encoders → IsLeastOf share v x → least_pair share encoders v ≡ Some x
least-is share encoders v x high l =
    let rises = l.rises in
    let later : (b : ℕ) → x.0 + 1 ≤ b → b < x.1 → share v x.0 b ≡ false = λ b low less. not_true (share v x.0 b) (λ t. elim (l.least x.0 b (omega (arith, low)) t) [ inl p ↦ omega (arith, p) | inr p ↦ let q = p.1 in omega (arith, q, less) ]) in
    let partner : partner_of share encoders v x.0 ≡ Some x.1 = find-first (share v x.0) (x.0 + 1) (encoders - (x.0 + 1)) x.1 (omega (arith, rises)) (omega (arith, high, rises)) l.shared later in
    let earlier : (a : ℕ) → 0 ≤ a → a < x.0 → is_some (partner_of share encoders v a) ≡ false = λ a low less.
    ap is_some (find-none (share v a) (a + 1) (encoders - (a + 1)) (λ b up. not_true (share v a b) (λ t. elim (l.least a b (omega (arith, up)) t) [ inl p ↦ omega (arith, p, less) | inr p ↦ let q = p.0 in omega (arith, q, less) ]))) in
    ap (option_and_then (λ a. option_map (λ b. (a, b)) (partner_of share encoders v a)))
    (find-first (λ a. is_some (partner_of share encoders v a)) 0 encoders x.0 (omega arith) (omega (arith, high, rises)) (ap is_some partner) earlier)
    ∙ ap (option_map (λ b. (x.0, b))) partner

-- ---- all views

same_from_test : (m n : ℕ) → (m == n) ≡ true → m ≡ n
same_from_test m n e = grind (arith, e)

other-test : (m n : ℕ) → n < m → (m == n) ≡ false
other-test m n l = grind (arith, l)

above-none : (v low high : ℕ) (xs : List Step) → v < low → Up low high xs → pair_at v xs ≡ None
above-none v low high [] l u = refl
above-none v low high (x ∷ xs) l u = let f = u.0 in (λ i. cond (other-test x.0 v (omega (arith, l, f)) i) (Some x.1) (pair_at v xs)) ∙ above-none v (x.0 + 1) high xs (omega (arith, l, f)) u.2

abbrev pub AllBelow : ℕ → List Step → Type 0
AllBelow n [] = ⊤
AllBelow n (x ∷ xs) = (x.0 < n) × AllBelow n xs

listed : (f : ℕ → Option Pair) (low n high : ℕ) (xs : List Step) → Up low high xs → AllBelow (low + n) xs → ((v : ℕ) → low ≤ v → f v ≡ pair_at v xs)
    → filter_map (λ v. option_map (λ x. (v, x)) (f v)) (range_with_len low n) ≡ xs
listed f low zero high [] u b is = refl
listed f low zero high (x ∷ xs) u b is = let p = u.0 in let q = b.0 in absurd (omega (arith, p, q))
listed f low (suc n) high [] u b is =
    ap (λ o. cons_option (option_map (λ x. (low, x)) o) (filter_map (λ v. option_map (λ x. (v, x)) (f v)) (range_with_len (low + 1) n))) (is low (omega arith))
    ∙ listed f (low + 1) n high [] tt tt (λ v l. is v (omega (arith, l)))
listed f low (suc n) high (x ∷ xs) u b is = elim (cases_order low x.0) [
  | inl same ↦
      let here : f low ≡ Some x.1 = is low (omega arith) ∙ (λ i. cond (at same i) (Some x.1) (pair_at low xs)) in
      let upper : Up (low + 1) high xs = subst (λ (k : ℕ). Up (k + 1) high xs) (sym same) u.2 in
      ap (λ o. cons_option (option_map (λ x. (low, x)) o) (filter_map (λ v. option_map (λ x. (v, x)) (f v)) (range_with_len (low + 1) n))) here
      ∙ ap (λ zs. (low, x.1) ∷ zs) (listed f (low + 1) n high xs upper (below-moves (low + suc n) (low + 1 + n) xs (omega arith) b.1)
      (λ v l. is v (omega (arith, l)) ∙ (λ i. cond (other-test' x.0 v (let s = same in omega (arith, s, l)) i) (Some x.1) (pair_at v xs))))
      ∙ (λ i. (same i, x.1) ∷ xs)
  | inr (inl less) ↦
      ap (λ o. cons_option (option_map (λ x. (low, x)) o) (filter_map (λ v. option_map (λ x. (v, x)) (f v)) (range_with_len (low + 1) n)))
      (is low (omega arith) ∙ above-none low (low + 1) high (x ∷ xs) (omega arith) (omega (arith, less), u.1, u.2))
      ∙ listed f (low + 1) n high (x ∷ xs) (omega (arith, less), u.1, u.2) (below-moves (low + suc n) (low + 1 + n) (x ∷ xs) (omega arith) b) (λ v l. is v (omega (arith, l)))
  | inr (inr more) ↦ let p = u.0 in absurd (omega (arith, p, more))
]
  where
    at : low ≡ x.0 → (x.0 == low) ≡ true
    at same = grind (arith, same)

    other-test' : (m k : ℕ) → m < k → (m == k) ≡ false
    other-test' m k l = grind (arith, l)

    below-moves : (m k : ℕ) (ys : List Step) → m ≡ k → AllBelow m ys → AllBelow k ys
    below-moves m k ys e a = subst (λ (j : ℕ). AllBelow j ys) e a

pub views-are : (share : Sharing) (encoders views high : ℕ) (xs : List Step) → Up 0 high xs → AllBelow views xs → ((v : ℕ) → least_pair share encoders v ≡ pair_at v xs) → sharing_views share encoders views ≡ xs
views-are share encoders views high xs u b is = listed (λ v. least_pair share encoders v) 0 views high xs u (subst (λ (n : ℕ). AllBelow n xs) (let e : views ≡ 0 + views = omega arith in e) b) (λ v l. is v)
