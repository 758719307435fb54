-- The order of marks.
use Rattle.std.proofs.Common.{◌≡◌, ℕ, suc, ◌+◌, ◌<◌, ◌≤◌, ◌⊎◌, inl, inr, Bool, true, false, nat_lt, ◌&&◌, ◌==◌, cond, List, [], ◌∷◌, length, slice_index_or, refl, sym, ap, subst, ◌∙◌, arith}
use Rattle.std.specs.Ordering.{ordering_then, nat_cmp, bool_cmp, is_lt}
use Rattle.std.specs.declared.cmp.Ordering.{Ordering}
use Rattle.std.specs.declared.cmp.Ordering.TheVariants.{Less, Equal, Greater}
use Rattle.shared_keys.specs.declared.marks.Mark.{Mark}
use Rattle.shared_keys.specs.Marks.{same_kind, is_one_key}
use Rattle.shared_keys.specs.Steps.{kind_number, ComesBefore, AreInOrderFrom, AreInOrder}

-- ---- from the sort's order

abbrev pub NotBehind : Mark → Mark → Type 0
NotBehind y x = is_lt (ordering_then (ordering_then (ordering_then (nat_cmp y.view x.view) (bool_cmp y.is_blit x.is_blit)) (nat_cmp y.key x.key)) (nat_cmp y.encoder x.encoder)) ≡ false

same_from_test : (m n : ℕ) → (m == n) ≡ true → m ≡ n
same_from_test m n e = grind (arith, e)

above : (a b : ℕ) → nat_lt b a ≡ false → (b == a) ≡ false → a < b
above a b e f = grind (arith, e, f)

number-step : (a b : ℕ) (P : Ordering → Type 0) → P (nat_cmp b a) → (P Less → ⊥) → (a < b) ⊎ ((a ≡ b) × P Equal)
number-step a b P h bad = go (nat_lt b a) (b == a) refl refl h
  where
    go : (t u : Bool) → nat_lt b a ≡ t → (b == a) ≡ u → P (cond t Less (cond u Equal Greater)) → (a < b) ⊎ ((a ≡ b) × P Equal)
    go true u et eu h = absurd (bad h)
    go false true et eu h = inr (sym (same_from_test b a eu), h)
    go false false et eu h = inl (above a b et eu)

kind-step : (a b : Bool) (P : Ordering → Type 0) → P (bool_cmp b a) → (P Less → ⊥) → (kind_number a < kind_number b) ⊎ ((kind_number a ≡ kind_number b) × P Equal)
kind-step true true P h bad = inr (refl, h)
kind-step true false P h bad = absurd (bad h)
kind-step false true P h bad = inl (omega arith)
kind-step false false P h bad = inr (refl, h)

more : {A B C : Type 0} → A ⊎ (B × C) → {D : Type 0} → (C → D) → A ⊎ (B × D)
more (inl a) f = inl a
more (inr p) f = inr (p.0, f p.1)

clash : true ≡ false → ⊥
clash e = cc e

not_above : (a b : ℕ) → is_lt (nat_cmp b a) ≡ false → a ≤ b
not_above a b h = elim (number-step a b (λ o. is_lt o ≡ false) h clash) [ inl l ↦ omega (arith, l) | inr e ↦ let s = e.0 in omega (arith, s) ]

pub before-of : (x y : Mark) → NotBehind y x → ComesBefore x y
before-of x y h =
    more (number-step x.view y.view (λ o. is_lt (ordering_then (ordering_then (ordering_then o (bool_cmp y.is_blit x.is_blit)) (nat_cmp y.key x.key)) (nat_cmp y.encoder x.encoder)) ≡ false) h clash)
    (λ g. more (kind-step x.is_blit y.is_blit (λ o. is_lt (ordering_then (ordering_then o (nat_cmp y.key x.key)) (nat_cmp y.encoder x.encoder)) ≡ false) g clash)
    (λ k. more (number-step x.key y.key (λ o. is_lt (ordering_then o (nat_cmp y.encoder x.encoder)) ≡ false) k clash) (λ e. not_above x.encoder y.encoder e)))

pub in-order-from : (m : Mark) (rest : List Mark) → ((k : ℕ) (d : Mark) → suc k < length (m ∷ rest) → NotBehind (slice_index_or (m ∷ rest) (suc k) d) (slice_index_or (m ∷ rest) k d)) → AreInOrderFrom m rest
in-order-from m [] h = tt
in-order-from m (n ∷ rest) h = (before-of m n (h 0 m (omega arith)), in-order-from n rest (λ k d l. h (suc k) d (omega (arith, l))))

pub in-order : (marks : List Mark) → ((k : ℕ) (d : Mark) → 0 ≤ k → k + 1 < length marks → NotBehind (slice_index_or marks (k + 1) d) (slice_index_or marks k d)) → AreInOrder marks
in-order [] h = tt
in-order (m ∷ rest) h = in-order-from m rest (λ k d l. let on : k + 1 ≡ suc k = omega arith in subst (λ i. NotBehind (slice_index_or (m ∷ rest) i d) (slice_index_or (m ∷ rest) k d)) on (h k d (omega arith) (omega (arith, l))))

-- ---- three marks

level : {P Q : Type 0} (a b c : ℕ) → (a < b) ⊎ ((a ≡ b) × P) → (b < c) ⊎ ((b ≡ c) × Q) → a ≡ c → (a ≡ b) × P × Q
level a b c (inl l) (inl k) e = absurd (omega (arith, l, k, e))
level a b c (inl l) (inr q) e = let s = q.0 in absurd (omega (arith, l, s, e))
level a b c (inr p) (inl k) e = let s = p.0 in absurd (omega (arith, k, s, e))
level a b c (inr p) (inr q) e = (p.0, p.1, q.1)

over : {P Q R : Type 0} (a b c : ℕ) → (P → Q → R) → (a < b) ⊎ ((a ≡ b) × P) → (b < c) ⊎ ((b ≡ c) × Q) → (a < c) ⊎ ((a ≡ c) × R)
over a b c f (inl l) (inl k) = inl (omega (arith, l, k))
over a b c f (inl l) (inr q) = let s = q.0 in inl (omega (arith, l, s))
over a b c f (inr p) (inl k) = let s = p.0 in inl (omega (arith, k, s))
over a b c f (inr p) (inr q) = inr (p.0 ∙ q.0, f p.1 q.1)

-- with the first equal, the rest decides
rest-of : {P : Type 0} (a b : ℕ) → (a < b) ⊎ ((a ≡ b) × P) → a ≡ b → P
rest-of a b (inl l) e = absurd (omega (arith, l, e))
rest-of a b (inr p) e = p.1

pub before-over : (x y z : Mark) → ComesBefore x y → ComesBefore y z → ComesBefore x z
before-over x y z = over x.view y.view z.view (over (kind_number x.is_blit) (kind_number y.is_blit) (kind_number z.is_blit) (over x.key y.key z.key (λ a b. omega (arith, a, b))))

-- ---- marks of one key

pub parts : (a b : Bool) → (a && b) ≡ true → (a ≡ true) × (b ≡ true)
parts true b e = (refl, e)
parts false b e = cc e

pub both : (a b : Bool) → a ≡ true → b ≡ true → (a && b) ≡ true
both true b e f = f
both false b e f = cc e

kinds-are : (x y : Bool) → same_kind x y ≡ true → x ≡ y
kinds-are true y e = sym e
kinds-are false true e = cc e
kinds-are false false e = refl

pub kind-self : (x y : Bool) → x ≡ y → same_kind x y ≡ true
kind-self true y e = sym e
kind-self false true e = cc e
kind-self false false e = refl

self_test : (m n : ℕ) → m ≡ n → (m == n) ≡ true
self_test m n e = grind (arith, e)

pub record IsOneKey (x y : Mark) : Type 0 where
  pub view : x.view ≡ y.view
  pub kind : x.is_blit ≡ y.is_blit
  pub key : x.key ≡ y.key

pub of-one-key : (x y : Mark) → is_one_key x y ≡ true → IsOneKey x y
of-one-key x y h =
    let outer = parts ((x.view == y.view) && same_kind x.is_blit y.is_blit) (x.key == y.key) h in
    let inner = parts (x.view == y.view) (same_kind x.is_blit y.is_blit) outer.0 in
    record { view = same_from_test x.view y.view inner.0; kind = kinds-are x.is_blit y.is_blit inner.1; key = same_from_test x.key y.key outer.1 }

pub to-one-key : (x y : Mark) → IsOneKey x y → is_one_key x y ≡ true
to-one-key x y k =
    both ((x.view == y.view) && same_kind x.is_blit y.is_blit) (x.key == y.key)
    (both (x.view == y.view) (same_kind x.is_blit y.is_blit) (self_test x.view y.view k.view) (kind-self x.is_blit y.is_blit k.kind)) (self_test x.key y.key k.key)

kind_numbers : (x y : Mark) → x.is_blit ≡ y.is_blit → kind_number x.is_blit ≡ kind_number y.is_blit
kind_numbers x y e = ap kind_number e

kinds_from : (x y : Bool) → kind_number x ≡ kind_number y → x ≡ y
kinds_from true true e = refl
kinds_from true false e = absurd (omega (arith, e))
kinds_from false true e = absurd (omega (arith, e))
kinds_from false false e = refl

-- a mark between two of one key is of that key, and its encoder is between theirs
pub between : (x y z : Mark) → ComesBefore x y → ComesBefore y z → IsOneKey x z → IsOneKey x y × (x.encoder ≤ y.encoder) × (y.encoder ≤ z.encoder)
between x y z f g k =
    let views = level x.view y.view z.view f g k.view in
    let kinds = level (kind_number x.is_blit) (kind_number y.is_blit) (kind_number z.is_blit) views.1 views.2 (kind_numbers x z k.kind) in
    let keys = level x.key y.key z.key kinds.1 kinds.2 k.key in
    (record { view = views.0; kind = kinds_from x.is_blit y.is_blit kinds.0; key = keys.0 }, keys.1, keys.2)

-- of two marks of one key the first has the lesser encoder
pub encoders-rise : (x y : Mark) → ComesBefore x y → IsOneKey x y → x.encoder ≤ y.encoder
encoders-rise x y f k = rest-of x.key y.key (rest-of (kind_number x.is_blit) (kind_number y.is_blit) (rest-of x.view y.view f k.view) (kind_numbers x y k.kind)) k.key

pub views-rise : (x y : Mark) → ComesBefore x y → x.view ≤ y.view
views-rise x y (inl l) = omega (arith, l)
views-rise x y (inr p) = let s = p.0 in omega (arith, s)
