-- Runs that are swept are apart.
use Rattle.std.proofs.Common.{◌≡◌, ℕ, ◌<◌, ◌≤◌, inl, inr, Bool, true, false, nat_lt, nat_le, not, ◌&&◌, ◌||◌, ◌==◌, cond, List, [], ◌∷◌, refl, sym, ap, subst, ◌∙◌, arith}
use Rattle.std.specs.List.Sorted.{IsPermutation}
use Rattle.shared_keys.specs.Members.{In}
use Rattle.shared_keys.proofs.Members.{member-moves}
use Rattle.shared_keys.proofs.Order.{parts}
use Rattle.covered_rows.specs.declared.runs.Run.{Run}
use Rattle.covered_rows.specs.Apart.{HasColumn, AreApart}
use Rattle.covered_rows.specs.Sweep.{ComesBefore, AreInOrderFrom, AreInOrder, is_beside, is_clear, joined_after, joined, sweep_from, sweep_of}

self_test : (m n : ℕ) → m ≡ n → (m == n) ≡ true
self_test m n e = grind (arith, e)

same_from_test : (m n : ℕ) → (m == n) ≡ true → m ≡ n
same_from_test m n e = grind (arith, e)

differ_from_test : (m n : ℕ) → (m == n) ≡ false → m ≡ n → ⊥
differ_from_test m n e s = cc (sym e ∙ self_test m n s)

le_from_test : (m n : ℕ) → nat_le m n ≡ true → m ≤ n
le_from_test m n e = grind (arith, e)

not_less : (m n : ℕ) → nat_lt m n ≡ false → n ≤ m
not_less m n e = grind (arith, e)

less : (m n : ℕ) → nat_lt m n ≡ true → m < n
less m n e = grind (arith, e)

-- ---- two runs

beside : (m n : Run) → m.key ≡ n.key → m.row ≡ n.row → is_beside m n ≡ true
beside m n k r = (λ i. self_test m.key n.key k i && (m.row == n.row)) ∙ self_test m.row n.row r

clear-told : (m n : Run) → is_clear m n ≡ true → m.key ≡ n.key → m.row ≡ n.row → (m.encoder ≡ n.encoder → ⊥) → m.after ≤ n.first
clear-told m n h k r other = go (m.encoder == n.encoder) refl ((λ i. not (sym (beside m n k r) i) || ((m.encoder == n.encoder) || nat_le m.after n.first)) ∙ h)
  where
    go : (e : Bool) → (m.encoder == n.encoder) ≡ e → (e || nat_le m.after n.first) ≡ true → m.after ≤ n.first
    go true is h = absurd (other (same_from_test m.encoder n.encoder is))
    go false is h = le_from_test m.after n.first h

after-second : (m n : Run) → n.after ≤ joined_after m n
after-second m n = go (is_beside m n && (m.encoder == n.encoder)) (nat_lt n.after m.after) refl
  where
    go : (b l : Bool) → nat_lt n.after m.after ≡ l → n.after ≤ cond (b && l) m.after n.after
    go true true e = let s = less n.after m.after e in omega (arith, s)
    go true false e = omega arith
    go false l e = omega arith

after-first : (m n : Run) → m.key ≡ n.key → m.row ≡ n.row → m.encoder ≡ n.encoder → m.after ≤ joined_after m n
after-first m n k r e =
    subst (λ (b : Bool). m.after ≤ cond (b && nat_lt n.after m.after) m.after n.after) (sym ((λ i. beside m n k r i && (m.encoder == n.encoder)) ∙ self_test m.encoder n.encoder e)) (go (nat_lt n.after m.after) refl)
  where
    go : (l : Bool) → nat_lt n.after m.after ≡ l → m.after ≤ cond l m.after n.after
    go true is = omega arith
    go false is = not_less n.after m.after is

-- ---- the order

-- a run that comes between two of one key and row is of these
record IsBetween (n z : Run) : Type 0 where
  key : n.key ≡ z.key
  row : n.row ≡ z.row
  first : n.first ≤ z.first

between : (m n z : Run) → ComesBefore m n → ComesBefore n z → m.key ≡ z.key → m.row ≡ z.row → IsBetween n z
between m n z (inl a) (inl b) k r = absurd (omega (arith, a, b, k))
between m n z (inl a) (inr b) k r = (let s = b.0 in absurd (omega (arith, a, s, k)))
between m n z (inr a) (inl b) k r = (let s = a.0 in absurd (omega (arith, s, b, k)))
between m n z (inr (ka, inl a)) (inr (kb, inl b)) k r = absurd (omega (arith, a, b, r))
between m n z (inr (ka, inl a)) (inr (kb, inr b)) k r = (let s = b.0 in absurd (omega (arith, a, s, r)))
between m n z (inr (ka, inr a)) (inr (kb, inl b)) k r = (let s = a.0 in absurd (omega (arith, s, b, r)))
between m n z (inr (ka, inr a)) (inr (kb, inr b)) k r = record { key = kb; row = b.0; first = b.1 }

before-trans : (x y z : Run) → ComesBefore x y → ComesBefore y z → ComesBefore x z
before-trans x y z (inl a) (inl b) = inl (omega (arith, a, b))
before-trans x y z (inl a) (inr b) = (let s = b.0 in inl (omega (arith, a, s)))
before-trans x y z (inr a) (inl b) = (let s = a.0 in inl (omega (arith, s, b)))
before-trans x y z (inr (ka, inl a)) (inr (kb, inl b)) = inr (ka ∙ kb, inl (omega (arith, a, b)))
before-trans x y z (inr (ka, inl a)) (inr (kb, inr b)) = (let s = b.0 in inr (ka ∙ kb, inl (omega (arith, a, s))))
before-trans x y z (inr (ka, inr a)) (inr (kb, inl b)) = (let s = a.0 in inr (ka ∙ kb, inl (omega (arith, s, b))))
before-trans x y z (inr (ka, inr a)) (inr (kb, inr b)) = (let s = a.1 in let t = b.1 in inr (ka ∙ kb, inr (a.0 ∙ b.0, omega (arith, s, t))))

before-all : (n : Run) (rest : List Run) (z : Run) → AreInOrderFrom n rest → In z rest → ComesBefore n z
before-all n [] z o i = absurd i
before-all n (y ∷ rest) z o (inl e) = subst (λ (x : Run). ComesBefore n x) (sym e) o.0
before-all n (y ∷ rest) z o (inr i) = before-trans n y z o.0 (before-all y rest z o.1 i)

joined-order : (m n : Run) (rest : List Run) → AreInOrderFrom n rest → AreInOrderFrom (joined m n) rest
joined-order m n [] o = tt
joined-order m n (z ∷ rest) o = o

-- ---- a run and those behind it

ahead : (m : Run) (rest : List Run) → AreInOrderFrom m rest → sweep_from m rest ≡ true → (z : Run) → In z rest → m.key ≡ z.key → m.row ≡ z.row → (m.encoder ≡ z.encoder → ⊥) → m.after ≤ z.first
ahead m [] o h z i k r e = absurd i
ahead m (n ∷ rest) o h z (inl s) k r e =
    let two = parts (is_clear m n) (sweep_from (joined m n) rest) h in
    let clear : m.after ≤ n.first = clear-told m n two.0 (k ∙ ap (λ (x : Run). x.key) s) (r ∙ ap (λ (x : Run). x.row) s) (λ q. e (q ∙ sym (ap (λ (x : Run). x.encoder) s))) in
    subst (λ (x : Run). m.after ≤ x.first) (sym s) clear
ahead m (n ∷ rest) o h z (inr i) k r e = go (λ key row other. ahead (joined m n) rest (joined-order m n rest o.1) two.1 z i key row other) (m.encoder == n.encoder) refl
  where
    two : (is_clear m n ≡ true) × (sweep_from (joined m n) rest ≡ true)
    two = parts (is_clear m n) (sweep_from (joined m n) rest) h

    mid : IsBetween n z
    mid = between m n z o.0 (before-all n rest z o.1 i) k r

    go : (n.key ≡ z.key → n.row ≡ z.row → (n.encoder ≡ z.encoder → ⊥) → joined_after m n ≤ z.first) → (b : Bool) → (m.encoder == n.encoder) ≡ b → m.after ≤ z.first
    go on true same =
        let own : m.encoder ≡ n.encoder = same_from_test m.encoder n.encoder same in
        let later : joined_after m n ≤ z.first = on mid.key mid.row (λ q. e (own ∙ q)) in
        let long : m.after ≤ joined_after m n = after-first m n (k ∙ sym mid.key) (r ∙ sym mid.row) own in
        omega (arith, later, long)
    go on false other =
        let clear : m.after ≤ n.first = clear-told m n two.0 (k ∙ sym mid.key) (r ∙ sym mid.row) (differ_from_test m.encoder n.encoder other) in
        let far : n.first ≤ z.first = mid.first in
        omega (arith, clear, far)

-- ---- all runs

-- no column is in both
abbrev Disjoint : Run → Run → Type 0
Disjoint x y = (c : ℕ) → HasColumn x c → HasColumn y c → ⊥

disjoint : (x y : Run) → x.after ≤ y.first → Disjoint x y
disjoint x y l c (fx, lx) (fy, ly) = omega (arith, l, fx, lx, fy, ly)

swap : (x y : Run) → Disjoint x y → Disjoint y x
swap x y d c hy hx = d c hx hy

-- the first of a list and a later one
first-apart : (m n : Run) (rest : List Run) → AreInOrderFrom n rest → sweep_from (joined m n) rest ≡ true → (z : Run) → In z rest → n.key ≡ z.key → n.row ≡ z.row → (n.encoder ≡ z.encoder → ⊥) → Disjoint n z
first-apart m n rest o h z i k r e =
    let later : joined_after m n ≤ z.first = ahead (joined m n) rest (joined-order m n rest o) h z i k r e in
    let long : n.after ≤ joined_after m n = after-second m n in
    disjoint n z (omega (arith, later, long))

rest-apart : (m : Run) (rest : List Run) → AreInOrderFrom m rest → sweep_from m rest ≡ true → AreApart rest
rest-apart m [] o h x y i j k r e = absurd i
rest-apart m (n ∷ rest) o h x y (inl s) (inl t) k r e = absurd (e (ap (λ (z : Run). z.encoder) (s ∙ sym t)))
rest-apart m (n ∷ rest) o h x y (inl s) (inr j) k r e =
    subst (λ (z : Run). Disjoint z y) (sym s)
    (first-apart m n rest o.1 (parts (is_clear m n) (sweep_from (joined m n) rest) h).1 y j (sym (ap (λ (z : Run). z.key) s) ∙ k) (sym (ap (λ (z : Run). z.row) s) ∙ r) (λ q. e (ap (λ (z : Run). z.encoder) s ∙ q)))
rest-apart m (n ∷ rest) o h x y (inr i) (inl t) k r e =
    subst (λ (z : Run). Disjoint x z) (sym t)
    (swap n x (first-apart m n rest o.1 (parts (is_clear m n) (sweep_from (joined m n) rest) h).1 x i (sym (ap (λ (z : Run). z.key) t) ∙ sym k) (sym (ap (λ (z : Run). z.row) t) ∙ sym r) (λ q. e (sym q ∙ sym (ap (λ (z : Run). z.encoder) t)))))
rest-apart m (n ∷ rest) o h x y (inr i) (inr j) k r e =
    rest-apart (joined m n) rest (joined-order m n rest o.1) (parts (is_clear m n) (sweep_from (joined m n) rest) h).1 x y i j k r e

sorted-apart : (runs : List Run) → AreInOrder runs → sweep_of runs ≡ true → AreApart runs
sorted-apart [] o h x y i j k r e = absurd i
sorted-apart (m ∷ rest) o h x y (inl s) (inl t) k r e = absurd (e (ap (λ (z : Run). z.encoder) (s ∙ sym t)))
sorted-apart (m ∷ rest) o h x y (inl s) (inr j) k r e =
    subst (λ (z : Run). Disjoint z y) (sym s)
    (disjoint m y (ahead m rest o h y j (sym (ap (λ (z : Run). z.key) s) ∙ k) (sym (ap (λ (z : Run). z.row) s) ∙ r) (λ q. e (ap (λ (z : Run). z.encoder) s ∙ q))))
sorted-apart (m ∷ rest) o h x y (inr i) (inl t) k r e =
    subst (λ (z : Run). Disjoint x z) (sym t)
    (swap m x (disjoint m x (ahead m rest o h x i (sym (ap (λ (z : Run). z.key) t) ∙ sym k) (sym (ap (λ (z : Run). z.row) t) ∙ sym r) (λ q. e (sym q ∙ sym (ap (λ (z : Run). z.encoder) t))))))
sorted-apart (m ∷ rest) o h x y (inr i) (inr j) k r e = rest-apart m rest o h x y i j k r e

pub swept : (runs sorted : List Run) → IsPermutation runs sorted → AreInOrder sorted → sweep_of sorted ≡ true → AreApart runs
swept runs sorted same o h x y i j k r e = sorted-apart sorted o h x y (member-moves runs sorted x same i) (member-moves runs sorted y same j) k r e
