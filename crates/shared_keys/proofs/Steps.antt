-- Neighbours of marks in order.
use Rattle.std.proofs.Common.{◌≡◌, ℕ, ◌<◌, ◌≤◌, inl, inr, Bool, true, false, nat_lt, ◌&&◌, cond, List, [], ◌∷◌, ◌++◌, refl, sym, ap, subst, ◌∙◌, arith}
use Rattle.std.specs.Prelude.{⊤}
use Rattle.std.proofs.lemmas.Bool.{cases_order}
use Rattle.shared_keys.specs.declared.marks.Mark.{Mark}
use Rattle.shared_keys.specs.Marks.{is_one_key}
use Rattle.shared_keys.specs.Steps.{ComesBefore, AreInOrderFrom, step_of, steps_from}
use Rattle.shared_keys.proofs.Order.{parts, both, before-over, between, encoders-rise, views-rise, of-one-key, to-one-key, IsOneKey}
use Rattle.shared_keys.specs.Members.{In}
use Rattle.shared_keys.proofs.Members.{member-left, member-right, member-of-both, Share, moved}

abbrev pub Step : Type 0
Step = ℕ × (ℕ × ℕ)

below-test : (a b : ℕ) → a < b → nat_lt a b ≡ true
below-test a b l = grind (arith, l)

from-test : (a b : ℕ) → nat_lt a b ≡ true → a < b
from-test a b e = grind (arith, e)

step-there : (m n : Mark) → is_one_key m n ≡ true → m.encoder < n.encoder → In {A = Step} (m.view, (m.encoder, n.encoder)) (step_of m n)
step-there m n k l =
    let P : Bool → Type 0 = λ b. In {A = Step} (m.view, (m.encoder, n.encoder)) (cond b ((m.view, (m.encoder, n.encoder)) ∷ []) []) in
    subst P (sym (both (is_one_key m n) (nat_lt m.encoder n.encoder) k (below-test m.encoder n.encoder l))) (inl refl)

-- what a step tells of its two marks
pub record Told (m n : Mark) (s : Step) : Type 0 where
  pub key : is_one_key m n ≡ true
  pub rises : m.encoder < n.encoder
  pub is : s ≡ (m.view, (m.encoder, n.encoder))

step-told : (m n : Mark) (s : Step) → In s (step_of m n) → Told m n s
step-told m n s i = go (is_one_key m n && nat_lt m.encoder n.encoder) refl i
  where
    go : (b : Bool) → (is_one_key m n && nat_lt m.encoder n.encoder) ≡ b → In s (cond b ((m.view, (m.encoder, n.encoder)) ∷ []) []) → Told m n s
    go true e (inl is) = let two = parts (is_one_key m n) (nat_lt m.encoder n.encoder) e in record { key = two.0; rises = from-test m.encoder n.encoder two.1; is = is }
    go true e (inr i) = absurd i
    go false e i = absurd i

-- ---- each step is shared

pub steps-sound : (m : Mark) (rest : List Mark) (s : Step) → In s (steps_from m rest) → Share (m ∷ rest) s.0 s.1.0 s.1.1 × (s.1.0 < s.1.1)
steps-sound m [] s i = absurd i
steps-sound m (n ∷ rest) s i = elim (member-of-both s (step_of m n) (steps_from n rest) i) [
  | inl j ↦
      let told = step-told m n s j in (
        record {
          left = m;
          right = n;
          has_left = inl refl;
          has_right = inr (inl refl);
          clash = told.key;
          first = sym (ap (λ (s : Step). s.1.0) told.is);
          second = sym (ap (λ (s : Step). s.1.1) told.is);
          view = sym (ap (λ (s : Step). s.0) told.is);
        },
        subst (λ (s : Step). s.1.0 < s.1.1) (sym told.is) told.rises,
      )
  | inr j ↦ let later = steps-sound n rest s j in (moved (n ∷ rest) (m ∷ n ∷ rest) s.0 s.1.0 s.1.1 (λ x k. inr k) later.0, later.1)
]

-- ---- what is shared has a step that is no greater

pub order-of : (m x : Mark) (rest : List Mark) → AreInOrderFrom m rest → In x rest → ComesBefore m x
order-of m x [] o i = absurd i
order-of m x (n ∷ rest) o (inl e) = subst (λ (y : Mark). ComesBefore m y) (sym e) o.0
order-of m x (n ∷ rest) o (inr i) = before-over m n x o.0 (order-of n x rest o.1 i)

-- a step of one view and first encoder, whose second is at most one
abbrev pub HasStep : (steps : List Step) → (v a b : ℕ) → Type 0
HasStep steps v a b = (c : ℕ) × (c ≤ b) × In {A = Step} (v, (a, c)) steps

ahead : (m y : Mark) (rest : List Mark) → AreInOrderFrom m rest → In y rest → IsOneKey m y → m.encoder < y.encoder → HasStep (steps_from m rest) m.view m.encoder y.encoder
ahead m y [] o i k l = absurd i
ahead m y (n ∷ rest) o (inl e) k l =
    let same : IsOneKey m n = subst (λ (z : Mark). IsOneKey m z) e k in
    let rises : m.encoder < n.encoder = subst (λ (z : Mark). m.encoder < z.encoder) e l in
    let high : n.encoder ≤ y.encoder = (let q : y.encoder ≡ n.encoder = ap (λ (z : Mark). z.encoder) e in omega (arith, q)) in
    (n.encoder, high, member-left _ (step_of m n) (steps_from n rest) (step-there m n (to-one-key m n same) rises))
ahead m y (n ∷ rest) o (inr i) k l =
    let mid = between m n y o.0 (order-of n y rest o.1 i) k in
    elim (cases_order m.encoder n.encoder) [
      | inl same ↦
          let later = ahead n y rest o.1 i (record { view = sym mid.0.view ∙ k.view; kind = sym mid.0.kind ∙ k.kind; key = sym mid.0.key ∙ k.key }) (let s = same in omega (arith, s, l)) in (
            later.0,
            later.1,
            member-right _ (step_of m n) (steps_from n rest)
                (subst (λ (a : ℕ). In {A = Step} (m.view, (a, later.0)) (steps_from n rest)) (sym same) (subst (λ (v : ℕ). In {A = Step} (v, (n.encoder, later.0)) (steps_from n rest)) (sym mid.0.view) later.2)),
          )
      | inr (inl rises) ↦ (n.encoder, mid.2, member-left _ (step_of m n) (steps_from n rest) (step-there m n (to-one-key m n mid.0) rises))
      | inr (inr falls) ↦ let up = mid.1 in absurd (omega (arith, up, falls))
    ]

back : (x y : Mark) → IsOneKey x y → IsOneKey y x
back x y k = record { view = sym k.view; kind = sym k.kind; key = sym k.key }

found : (m x y : Mark) (rest : List Mark) → AreInOrderFrom m rest → In x (m ∷ rest) → In y (m ∷ rest) → IsOneKey x y → x.encoder < y.encoder → HasStep (steps_from m rest) x.view x.encoder y.encoder
found m x y rest o (inl e) (inl f) k l =
    let p : x.encoder ≡ y.encoder = ap (λ (z : Mark). z.encoder) (e ∙ sym f) in absurd (omega (arith, p, l))
found m x y rest o (inl e) (inr j) k l =
    subst (λ (z : Mark). HasStep (steps_from m rest) z.view z.encoder y.encoder) (sym e)
    (ahead m y rest o j (subst (λ (z : Mark). IsOneKey z y) e k) (subst (λ (z : Mark). z.encoder < y.encoder) e l))
found m x y rest o (inr i) (inl f) k l =
    let falls : y.encoder ≤ x.encoder = encoders-rise y x (subst (λ (z : Mark). ComesBefore z x) (sym f) (order-of m x rest o i)) (back x y k) in
    absurd (omega (arith, falls, l))
found m x y [] o (inr i) (inr j) k l = absurd i
found m x y (n ∷ rest) o (inr i) (inr j) k l =
    let later = found n x y rest o.1 i j k l in (later.0, later.1, member-right _ (step_of m n) (steps_from n rest) later.2)

pub steps-complete : (m : Mark) (rest : List Mark) (v a b : ℕ) → AreInOrderFrom m rest → Share (m ∷ rest) v a b → a < b → HasStep (steps_from m rest) v a b
steps-complete m rest v a b o s l =
    let x = s.left in
    let y = s.right in
    let first = s.first in
    let second = s.second in
    let rises : x.encoder < y.encoder = omega (arith, first, second, l) in
    subst (λ (w : ℕ). HasStep (steps_from m rest) w a b) s.view
    (subst (λ (w : ℕ). HasStep (steps_from m rest) x.view w b) first
    (subst (λ (w : ℕ). HasStep (steps_from m rest) x.view x.encoder w) second (found m x y rest o s.has_left s.has_right (of-one-key x y s.clash) rises)))

-- ---- the views of steps ascend

abbrev pub ViewsAscend : ℕ → List Step → Type 0
ViewsAscend low [] = ⊤
ViewsAscend low (s ∷ rest) = (low ≤ s.0) × ViewsAscend s.0 rest

weaker : (low less : ℕ) (steps : List Step) → less ≤ low → ViewsAscend low steps → ViewsAscend less steps
weaker low less [] l a = tt
weaker low less (s ∷ rest) l a = let f = a.0 in (omega (arith, l, f), a.1)

pub steps-ascend : (m : Mark) (rest : List Mark) → AreInOrderFrom m rest → ViewsAscend m.view (steps_from m rest)
steps-ascend m [] o = tt
steps-ascend m (n ∷ rest) o = go (is_one_key m n && nat_lt m.encoder n.encoder) (weaker n.view m.view (steps_from n rest) (views-rise m n o.0) (steps-ascend n rest o.1))
  where
    go : (b : Bool) → ViewsAscend m.view (steps_from n rest) → ViewsAscend m.view (cond b ((m.view, (m.encoder, n.encoder)) ∷ []) [] ++ steps_from n rest)
    go true a = (omega arith, a)
    go false a = a
