-- Elements of a list that stands row by row, some of which are changed.
use Rattle.std.proofs.Common.{◌≡◌, ◌∙◌, ℕ, ◌+◌, ◌<◌, ◌≤◌, ◌==◌, ◌&&◌, ◌⊎◌, nat_le, nat_lt, Bool, true, false, cond, List, length, slice_index_or, slice_set, ⊎_elim, refl, sym, ap, subst, arith}
use Rattle.std.specs.Prelude.{◌*◌}
use Rattle.std.proofs.lemmas.Bool.{eq-eqb, ne_eqb, lt-ltb, le-ltb, le-leb, cases_eq, cases_lt}
use Rattle.std.proofs.lemmas.List.{get_or-set_same, get_or-set_other}
use Rattle.std.proofs.lemmas.Nat.{same_from_place}
use Rattle.std.proofs.Math.Nat.{mul-le-mul_right}

-- a place of a row and a column is one of the list
pub place-fits : (w h x y n : ℕ) → x < w → y < h → n ≡ w * h → y * w + x < n
place-fits w h x y n hx hy e = let rows : (y + 1) * w ≤ h * w = mul-le-mul_right w (omega (arith, hy)) in omega (arith, rows, hx, e)

module _ {A : Type 0} (none : A) (w h : ℕ) where
  -- the element of a column and a row
  abbrev pub at : List A → ℕ → ℕ → A
  at xs x y = slice_index_or xs (y * w + x) none

  set-here : (xs : List A) (x y : ℕ) (v : A) → x < w → y < h → length xs ≡ w * h → at (slice_set xs (y * w + x) v) x y ≡ v
  set-here xs x y v hx hy e = get_or-set_same xs (y * w + x) v none (place-fits w h x y (length xs) hx hy e)

  set-there : (xs : List A) (x y a b : ℕ) (v : A) → x < w → a < w → (b ≡ y → a ≡ x → ⊥) → at (slice_set xs (y * w + x) v) a b ≡ at xs a b
  set-there xs x y a b v hx ha apart =
      get_or-set_other xs (y * w + x) (b * w + a) v none (λ e. let same = same_from_place b a y x w ha hx e in apart same.0 same.1)

  -- ---- the columns of a row

  module _ (c : ℕ → ℕ → Bool) (f : ℕ → ℕ → A → A) where
    -- the first columns of a row are changed that are covered
    abbrev pub InColumns : (y k : ℕ) → List A → List A → Type 0
    InColumns y k old mid = (a b : ℕ) → a < w → b < h → at mid a b ≡ cond (b == y) (cond (c a b && nat_lt a k) (f a b (at old a b)) (at old a b)) (at old a b)

    pub columns-none : (y from : ℕ) (old : List A) → ((a : ℕ) → a < w → c a y ≡ true → from ≤ a) → InColumns y from old old
    columns-none y from old starts a b ha hb = go (cases_eq b y)
      where
        o : A
        o = at old a b

        inner : (t : Bool) → c a b ≡ t → b ≡ y → cond (t && nat_lt a from) (f a b o) o ≡ o
        inner true e is = ap (λ z. cond z (f a b o) o) (le-ltb a from (starts a ha (ap (c a) (sym is) ∙ e)))
        inner false e is = refl

        go : (b ≡ y) ⊎ (b ≡ y → ⊥) → o ≡ cond (b == y) (cond (c a b && nat_lt a from) (f a b o) o) o
        go s = ⊎_elim (λ is. sym (ap (λ z. cond z (cond (c a b && nat_lt a from) (f a b o) o) o) (eq-eqb b y is) ∙ inner (c a b) refl is)) (λ other. sym (ap (λ z. cond z (cond (c a b && nat_lt a from) (f a b o) o) o) (ne_eqb b y other))) s

    pub columns-next : (y k : ℕ) (old mid : List A) (v : A) → k < w → y < h → length mid ≡ w * h → c k y ≡ true → v ≡ f k y (at mid k y) → InColumns y k old mid
        → InColumns y (k + 1) old (slice_set mid (y * w + k) v)
    columns-next y k old mid v hk hy len covered is before a b ha hb = go (cases_eq b y) (cases_eq a k)
      where
        new : List A
        new = slice_set mid (y * w + k) v

        o : A
        o = at old a b

        Was : Bool → Bool → Type 0
        Was p q = at mid a b ≡ cond p (cond (c a b && q) (f a b o) o) o

        Is : Bool → Bool → Type 0
        Is p q = at new a b ≡ cond p (cond (c a b && q) (f a b o) o) o

        apart : (p : Bool) → (b == y) ≡ p → (b ≡ y → a ≡ k → ⊥) → nat_lt a k ≡ nat_lt a (k + 1) → Is (b == y) (nat_lt a (k + 1))
        apart p e away same = set-there mid k y a b v hk ha away ∙ before a b ha hb ∙ ap (λ q. cond (b == y) (cond (c a b && q) (f a b o) o) o) same

        other-row : (b ≡ y → ⊥) → Is (b == y) (nat_lt a (k + 1))
        other-row away =
            let f0 : (b == y) ≡ false = ne_eqb b y away in
            set-there mid k y a b v hk ha (λ e x. away e) ∙ subst (λ p. Was p (nat_lt a k)) f0 (before a b ha hb) ∙ ap (λ p. cond p (cond (c a b && nat_lt a (k + 1)) (f a b o) o) o) (sym f0)

        sides : (a ≡ k → ⊥) → nat_lt a k ≡ nat_lt a (k + 1)
        sides away = ⊎_elim (λ (lt : a < k). lt-ltb a k lt ∙ sym (lt-ltb a (k + 1) (omega (arith, lt)))) (λ (le : k ≤ a). le-ltb a k le ∙ sym (le-ltb a (k + 1) (past le))) (cases_lt a k)
          where
            past : k ≤ a → k + 1 ≤ a
            past le = ⊎_elim (λ (lt : a < k + 1). absurd (away (omega (arith, le, lt)))) (λ (ge : k + 1 ≤ a). ge) (cases_lt a (k + 1))

        here : b ≡ y → a ≡ k → Is (b == y) (nat_lt a (k + 1))
        here eb ea =
            let is-row : (b == y) ≡ true = eq-eqb b y eb in
            let is-in : c a b ≡ true = ap (λ z. c z b) ea ∙ ap (c k) eb ∙ covered in
            let was : at mid a b ≡ o = subst (λ q. Was true q) (le-ltb a k (omega (arith, ea))) (subst (λ p. Was p (nat_lt a k)) is-row (before a b ha hb)) ∙ none-in (c a b) in
            let put : at new a b ≡ v = ap (λ z. at new z b) ea ∙ ap (λ z. at new k z) eb ∙ set-here mid k y v hk hy len in
            let value : v ≡ f a b o = is ∙ ap (λ z. f z y (at mid z y)) (sym ea) ∙ ap (λ z. f a z (at mid a z)) (sym eb) ∙ ap (f a b) was in
            put ∙ value
            ∙ ap (λ q. cond q (f a b o) o) (sym (lt-ltb a (k + 1) (omega (arith, ea))))
            ∙ ap (λ t. cond (t && nat_lt a (k + 1)) (f a b o) o) (sym is-in)
            ∙ ap (λ p. cond p (cond (c a b && nat_lt a (k + 1)) (f a b o) o) o) (sym is-row)
          where
            none-in : (t : Bool) → cond (t && false) (f a b o) o ≡ o
            none-in true = refl
            none-in false = refl

        go : (b ≡ y) ⊎ (b ≡ y → ⊥) → (a ≡ k) ⊎ (a ≡ k → ⊥) → Is (b == y) (nat_lt a (k + 1))
        go s t = ⊎_elim (λ eb. ⊎_elim (λ ea. here eb ea) (λ na. apart (b == y) refl (λ e x. na x) (sides na)) t) (λ nb. other-row nb) s

    pub columns-all : (y k : ℕ) (old mid : List A) → ((a : ℕ) → a < w → c a y ≡ true → a < k) → InColumns y k old mid
        → (a b : ℕ) → a < w → b < h → at mid a b ≡ cond (b == y) (cond (c a b) (f a b (at old a b)) (at old a b)) (at old a b)
    columns-all y k old mid ends done a b ha hb = done a b ha hb ∙ go (cases_eq b y)
      where
        o : A
        o = at old a b

        inner : (t : Bool) → c a b ≡ t → b ≡ y → cond (t && nat_lt a k) (f a b o) o ≡ cond t (f a b o) o
        inner true e is = ap (λ z. cond z (f a b o) o) (lt-ltb a k (ends a ha (ap (c a) (sym is) ∙ e)))
        inner false e is = refl

        go : (b ≡ y) ⊎ (b ≡ y → ⊥) → cond (b == y) (cond (c a b && nat_lt a k) (f a b o) o) o ≡ cond (b == y) (cond (c a b) (f a b o) o) o
        go s = ⊎_elim (λ is. ap (λ z. cond (b == y) z o) (inner (c a b) refl is))
            (λ other. ap (λ p. cond p (cond (c a b && nat_lt a k) (f a b o) o) o) (ne_eqb b y other) ∙ sym (ap (λ p. cond p (cond (c a b) (f a b o) o) o) (ne_eqb b y other))) s

    -- ---- the rows

    -- the first rows are changed where they are covered
    abbrev pub InRows : (k : ℕ) → List A → List A → Type 0
    InRows k old mid = (a b : ℕ) → a < w → b < h → at mid a b ≡ cond (c a b && nat_lt b k) (f a b (at old a b)) (at old a b)

    pub rows-none : (from : ℕ) (old : List A) → ((a b : ℕ) → b < h → c a b ≡ true → from ≤ b) → InRows from old old
    rows-none from old starts a b ha hb = sym (go (c a b) refl)
      where
        o : A
        o = at old a b

        go : (t : Bool) → c a b ≡ t → cond (t && nat_lt b from) (f a b o) o ≡ o
        go true e = ap (λ z. cond z (f a b o) o) (le-ltb b from (starts a b hb e))
        go false e = refl

    pub rows-next : (k : ℕ) (old mid new : List A) → InRows k old mid
        → ((a b : ℕ) → a < w → b < h → at new a b ≡ cond (b == k) (cond (c a b) (f a b (at mid a b)) (at mid a b)) (at mid a b))
        → InRows (k + 1) old new
    rows-next k old mid new before step a b ha hb = step a b ha hb ∙ go (cases_eq b k) (c a b) (before a b ha hb)
      where
        o : A
        o = at old a b

        m : A
        m = at mid a b

        same : (b ≡ k → ⊥) → nat_lt b k ≡ nat_lt b (k + 1)
        same away = ⊎_elim (λ (lt : b < k). lt-ltb b k lt ∙ sym (lt-ltb b (k + 1) (omega (arith, lt)))) (λ (le : k ≤ b). le-ltb b k le ∙ sym (le-ltb b (k + 1) (past le))) (cases_lt b k)
          where
            past : k ≤ b → k + 1 ≤ b
            past le = ⊎_elim (λ (lt : b < k + 1). absurd (away (omega (arith, le, lt)))) (λ (ge : k + 1 ≤ b). ge) (cases_lt b (k + 1))

        here : b ≡ k → (t : Bool) → m ≡ cond (t && nat_lt b k) (f a b o) o → cond t (f a b m) m ≡ cond (t && nat_lt b (k + 1)) (f a b o) o
        here is true e =
            ap (f a b) (e ∙ ap (λ z. cond z (f a b o) o) (le-ltb b k (omega (arith, is)))) ∙ sym (ap (λ z. cond z (f a b o) o) (lt-ltb b (k + 1) (omega (arith, is))))
        here is false e = e

        go : (b ≡ k) ⊎ (b ≡ k → ⊥) → (t : Bool) → m ≡ cond (t && nat_lt b k) (f a b o) o → cond (b == k) (cond t (f a b m) m) m ≡ cond (t && nat_lt b (k + 1)) (f a b o) o
        go s t e = ⊎_elim
            (λ is. ap (λ p. cond p (cond t (f a b m) m) m) (eq-eqb b k is) ∙ here is t e)
            (λ other. ap (λ p. cond p (cond t (f a b m) m) m) (ne_eqb b k other) ∙ e ∙ ap (λ z. cond (t && z) (f a b o) o) (same other)) s

    pub rows-all : (k : ℕ) (old mid : List A) → ((a b : ℕ) → b < h → c a b ≡ true → b < k) → InRows k old mid
        → (a b : ℕ) → a < w → b < h → at mid a b ≡ cond (c a b) (f a b (at old a b)) (at old a b)
    rows-all k old mid ends done a b ha hb = done a b ha hb ∙ go (c a b) refl
      where
        o : A
        o = at old a b

        go : (t : Bool) → c a b ≡ t → cond (t && nat_lt b k) (f a b o) o ≡ cond t (f a b o) o
        go true e = ap (λ z. cond z (f a b o) o) (lt-ltb b k (ends a b hb e))
        go false e = refl

-- between two numbers
pub between : (from x to : ℕ) → from ≤ x → x < to → (nat_le from x && nat_lt x to) ≡ true
between from x to h k = ap (λ p. p && nat_lt x to) (le-leb from x h) ∙ lt-ltb x to k

pub front-true : (a b : Bool) → (a && b) ≡ true → a ≡ true
front-true true b e = refl
front-true false b e = cc e

pub back-true : (a b : Bool) → (a && b) ≡ true → b ≡ true
back-true true b e = e
back-true false b e = cc e
