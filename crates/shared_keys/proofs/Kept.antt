-- The least pair of each view among steps of ascending views.
use Rattle.std.proofs.Common.{◌≡◌, ℕ, ◌+◌, ◌<◌, ◌≤◌, ◌⊎◌, inl, inr, Bool, true, false, nat_lt, ◌&&◌, ◌||◌, ◌==◌, cond, List, [], ◌∷◌, fold, Option, Some, None, refl, sym, ap, subst, ◌∙◌, arith}
use Rattle.std.specs.Prelude.{⊤}
use Rattle.shared_keys.specs.Steps.{is_less, with_step, leasts_of}
use Rattle.shared_keys.specs.Members.{In}
use Rattle.shared_keys.proofs.Steps.{Step, ViewsAscend}

abbrev pub Pair : Type 0
Pair = ℕ × ℕ

-- by the first, then by the second
abbrev pub IsUpTo : Pair → Pair → Type 0
IsUpTo x y = (x.0 < y.0) ⊎ ((x.0 ≡ y.0) × (x.1 ≤ y.1))

-- the pair of a view
abbrev pub pair_at : ℕ → List Step → Option Pair
pair_at v [] = None
pair_at v (s ∷ rest) = cond (s.0 == v) (Some s.1) (pair_at v rest)

-- the lesser of a pair that is there and one more
abbrev pub lesser : Option Pair → Pair → Pair
lesser None y = y
lesser (Some x) y = cond (is_less y x) y x

-- the least pair of a view among steps, where one was there before
abbrev pub best : ℕ → Option Pair → List Step → Option Pair
best v o [] = o
best v o (s ∷ rest) = best v (cond (s.0 == v) (Some (lesser o s.1)) o) rest

-- views ascend from one on, and none is above another
abbrev pub Up : ℕ → ℕ → List Step → Type 0
Up low high [] = ⊤
Up low high (s ∷ rest) = (low ≤ s.0) × (s.0 ≤ high) × Up (s.0 + 1) high rest

same_from_test : (m n : ℕ) → (m == n) ≡ true → m ≡ n
same_from_test m n e = grind (arith, e)

self_test : (m n : ℕ) → m ≡ n → (m == n) ≡ true
self_test m n e = grind (arith, e)

apart : (m n : ℕ) → (m == n) ≡ false → m ≡ n → ⊥
apart m n e s = let t = self_test m n s in clash (sym t ∙ e)
  where
    clash : true ≡ false → ⊥
    clash e = cc e

other_test : (m n : ℕ) → (m ≡ n → ⊥) → (m == n) ≡ false
other_test m n h = go (m == n) refl
  where
    go : (b : Bool) → (m == n) ≡ b → b ≡ false
    go true e = absurd (h (same_from_test m n e))
    go false e = refl

up-higher : (low high more : ℕ) (xs : List Step) → high ≤ more → Up low high xs → Up low more xs
up-higher low high more [] l u = tt
up-higher low high more (x ∷ xs) l u = let f = u.1 in (u.0, omega (arith, f, l), up-higher (x.0 + 1) high more xs l u.2)

-- one step more
with-is : (v low : ℕ) (xs : List Step) (s : Step) → Up low s.0 xs → pair_at v (with_step xs s) ≡ cond (s.0 == v) (Some (lesser (pair_at v xs) s.1)) (pair_at v xs)
with-is v low [] s u = refl
with-is v low (x ∷ []) s u = go (x.0 == s.0) (x.0 == v) (s.0 == v) (is_less s.1 x.1) refl refl refl refl
  where
    go : (a b c l : Bool) → (x.0 == s.0) ≡ a → (x.0 == v) ≡ b → (s.0 == v) ≡ c → is_less s.1 x.1 ≡ l
        → pair_at v (cond a (cond l (s ∷ []) (x ∷ [])) (x ∷ s ∷ [])) ≡ cond c (Some (lesser (cond b (Some x.1) None) s.1)) (cond b (Some x.1) None)
    go true true true true ea eb ec el = (λ i. cond (ec i) (Some s.1) None) ∙ (λ i. Some (cond (sym el i) s.1 x.1))
    go true true true false ea eb ec el = (λ i. cond (eb i) (Some x.1) None) ∙ (λ i. Some (cond (sym el i) s.1 x.1))
    go true true false l ea eb ec el = absurd (apart s.0 v ec (sym (same_from_test x.0 s.0 ea) ∙ same_from_test x.0 v eb))
    go true false true l ea eb ec el = absurd (apart x.0 v eb (same_from_test x.0 s.0 ea ∙ same_from_test s.0 v ec))
    go true false false true ea eb ec el = (λ i. cond (ec i) (Some s.1) None)
    go true false false false ea eb ec el = (λ i. cond (eb i) (Some x.1) None)
    go false true true l ea eb ec el = absurd (apart x.0 s.0 ea (same_from_test x.0 v eb ∙ sym (same_from_test s.0 v ec)))
    go false true false l ea eb ec el = (λ i. cond (eb i) (Some x.1) (cond (s.0 == v) (Some s.1) None))
    go false false c l ea eb ec el = (λ i. cond (eb i) (Some x.1) (cond (ec i) (Some s.1) None))
with-is v low (x ∷ y ∷ rest) s u = go (x.0 == v) (s.0 == v) refl refl (with-is v (x.0 + 1) (y ∷ rest) s u.2)
  where
    below : x.0 < s.0
    below = let f = u.2.0 in let g = u.2.1 in omega (arith, f, g)

    go : (b c : Bool) → (x.0 == v) ≡ b → (s.0 == v) ≡ c → pair_at v (with_step (y ∷ rest) s) ≡ cond (s.0 == v) (Some (lesser (pair_at v (y ∷ rest)) s.1)) (pair_at v (y ∷ rest))
        → cond b (Some x.1) (pair_at v (with_step (y ∷ rest) s)) ≡ cond c (Some (lesser (cond b (Some x.1) (pair_at v (y ∷ rest))) s.1)) (cond b (Some x.1) (pair_at v (y ∷ rest)))
    go true true eb ec h = absurd (let p = same_from_test x.0 v eb in let q = same_from_test s.0 v ec in let l = below in omega (arith, p, q, l))
    go true false eb ec h = refl
    go false c eb ec h = h ∙ (λ i. cond (ec i) (Some (lesser (pair_at v (y ∷ rest)) s.1)) (pair_at v (y ∷ rest)))

with-up : (low : ℕ) (xs : List Step) (s : Step) → low ≤ s.0 → Up low s.0 xs → Up low s.0 (with_step xs s)
with-up low [] s l u = (l, omega arith, tt)
with-up low (x ∷ []) s l u = go (x.0 == s.0) (is_less s.1 x.1) refl
  where
    go : (a c : Bool) → (x.0 == s.0) ≡ a → Up low s.0 (cond a (cond c (s ∷ []) (x ∷ [])) (x ∷ s ∷ []))
    go true true e = (l, omega arith, tt)
    go true false e = (u.0, u.1, tt)
    go false c e = (u.0, u.1, (let f = u.1 in let g = e in grind (arith, f, g), omega arith, tt))
with-up low (x ∷ y ∷ rest) s l u = (u.0, u.1, with-up (x.0 + 1) (y ∷ rest) s (let f = u.2.0 in let g = u.2.1 in omega (arith, f, g)) u.2)

all-best : (v low : ℕ) (xs steps : List Step) → Up 0 low xs → ViewsAscend low steps → pair_at v (fold with_step xs steps) ≡ best v (pair_at v xs) steps
all-best v low xs [] u a = refl
all-best v low xs (s ∷ steps) u a =
    let here : Up 0 s.0 xs = up-higher 0 low s.0 xs a.0 u in
    all-best v s.0 (with_step xs s) steps (with-up 0 xs s (omega arith) here) a.1 ∙ ap (λ o. best v o steps) (with-is v 0 xs s here)

all-up : (low : ℕ) (xs steps : List Step) → Up 0 low xs → ViewsAscend low steps → (high : ℕ) × Up 0 high (fold with_step xs steps)
all-up low xs [] u a = (low, u)
all-up low xs (s ∷ steps) u a = all-up s.0 (with_step xs s) steps (with-up 0 xs s (omega arith) (up-higher 0 low s.0 xs a.0 u)) a.1

pub leasts-up : (low : ℕ) (steps : List Step) → ViewsAscend low steps → (high : ℕ) × Up 0 high (leasts_of steps)
leasts-up low steps a = all-up low [] steps tt a

-- ---- the least

parts : (a b : Bool) → (a && b) ≡ true → (a ≡ true) × (b ≡ true)
parts true b e = (refl, e)
parts false b e = cc e

or-true : (a b : Bool) → (a || b) ≡ true → (a ≡ true) ⊎ (b ≡ true)
or-true true b e = inl refl
or-true false b e = inr e

less-true : (y x : Pair) → is_less y x ≡ true → IsUpTo y x
less-true y x e = elim (or-true (nat_lt y.0 x.0) ((y.0 == x.0) && nat_lt y.1 x.1) e) [
  | inl l ↦ inl (grind (arith, l))
  | inr r ↦ let two = parts (y.0 == x.0) (nat_lt y.1 x.1) r in let s = two.1 in inr (same_from_test y.0 x.0 two.0, grind (arith, s))
]

less-false : (y x : Pair) → is_less y x ≡ false → IsUpTo x y
less-false y x e = go (nat_lt y.0 x.0) (y.0 == x.0) (nat_lt y.1 x.1) refl refl refl e
  where
    go : (a b c : Bool) → nat_lt y.0 x.0 ≡ a → (y.0 == x.0) ≡ b → nat_lt y.1 x.1 ≡ c → (a || (b && c)) ≡ false → IsUpTo x y
    go true b c ea eb ec h = absurd (cc h)
    go false true true ea eb ec h = absurd (cc h)
    go false true false ea eb ec h = inr (sym (same_from_test y.0 x.0 eb), grind (arith, ec))
    go false false c ea eb ec h = inl (grind (arith, ea, eb))

up-to-self : (x : Pair) → IsUpTo x x
up-to-self x = inr (refl, omega arith)

pub up-to-over : (x y z : Pair) → IsUpTo x y → IsUpTo y z → IsUpTo x z
up-to-over x y z (inl l) (inl k) = inl (omega (arith, l, k))
up-to-over x y z (inl l) (inr q) = let s = q.0 in inl (omega (arith, l, s))
up-to-over x y z (inr p) (inl k) = let s = p.0 in inl (omega (arith, s, k))
up-to-over x y z (inr p) (inr q) = let a = p.0 in let b = p.1 in let c = q.0 in let d = q.1 in inr (a ∙ c, omega (arith, b, d))

-- of the steps of a view, and of a pair that was there, it is the least
pub record IsBest (v : ℕ) (o : Option Pair) (steps : List Step) (x : Pair) : Type 0 where
  pub one : (o ≡ Some x) ⊎ In {A = Step} (v, x) steps
  pub before : (y : Pair) → o ≡ Some y → IsUpTo x y
  pub least : (y : Pair) → In {A = Step} (v, y) steps → IsUpTo x y

lesser-low : (o : Option Pair) (y : Pair) → IsUpTo (lesser o y) y
lesser-low None y = up-to-self y
lesser-low (Some x) y = go (is_less y x) refl
  where
    go : (b : Bool) → is_less y x ≡ b → IsUpTo (cond b y x) y
    go true e = up-to-self y
    go false e = less-false y x e

lesser-before : (o : Option Pair) (y z : Pair) → o ≡ Some z → IsUpTo (lesser o y) z
lesser-before None y z e = absurd (cc e)
lesser-before (Some x) y z e = let same : x ≡ z = cc e in subst (λ (w : Pair). IsUpTo (cond (is_less y x) y x) w) same (go (is_less y x) refl)
  where
    go : (b : Bool) → is_less y x ≡ b → IsUpTo (cond b y x) x
    go true e = less-true y x e
    go false e = up-to-self x

lesser-one : (o : Option Pair) (y : Pair) → (o ≡ Some (lesser o y)) ⊎ (lesser o y ≡ y)
lesser-one None y = inr refl
lesser-one (Some x) y = go (is_less y x)
  where
    go : (b : Bool) → (Some x ≡ Some (cond b y x)) ⊎ (cond b y x ≡ y)
    go true = inr refl
    go false = inl refl

some-same : (x y : Pair) → Some x ≡ Some y → x ≡ y
some-same x y e = cc e

pub best-some : (v : ℕ) (o : Option Pair) (steps : List Step) (x : Pair) → best v o steps ≡ Some x → IsBest v o steps x
best-some v o [] x e = record {
  one = inl e;
  before = λ y f. subst (λ (z : Pair). IsUpTo x z) (some-same x y (sym e ∙ f)) (up-to-self x);
  least = λ y i. absurd i;
}
best-some v o (s ∷ steps) x e = go (best-some v (Some (lesser o s.1)) steps x) (best-some v o steps x) (s.0 == v) refl e
  where
    ours : (y : Pair) → (v, y) ≡ s → y ≡ s.1
    ours y e = ap (λ (t : Step). t.1) e

    go : (best v (Some (lesser o s.1)) steps ≡ Some x → IsBest v (Some (lesser o s.1)) steps x) → (best v o steps ≡ Some x → IsBest v o steps x)
        → (b : Bool) → (s.0 == v) ≡ b → best v (cond b (Some (lesser o s.1)) o) steps ≡ Some x → IsBest v o (s ∷ steps) x
    go f g true t e =
        let b = f e in
        let low : IsUpTo x (lesser o s.1) = b.before (lesser o s.1) refl in
        let at : s.0 ≡ v = same_from_test s.0 v t in
        record {
          one = elim b.one [
            | inl is ↦
                let same : lesser o s.1 ≡ x = some-same (lesser o s.1) x is in
                elim (lesser-one o s.1) [
                  | inl old ↦ inl (old ∙ ap (λ (p : Pair). Some p) same)
                  | inr new ↦ inr (inl (λ i. (sym at i, (sym same ∙ new) i)))
                ]
            | inr i ↦ inr (inr i)
          ];
          before = λ y f. up-to-over x (lesser o s.1) y low (lesser-before o s.1 y f);
          least = λ y i. elim i [
            | inl is ↦ up-to-over x (lesser o s.1) y low (subst (λ (z : Pair). IsUpTo (lesser o s.1) z) (sym (ours y is)) (lesser-low o s.1))
            | inr j ↦ b.least y j
          ];
        }
    go f g false t e =
        let b = g e in
        record {
          one = elim b.one [ inl is ↦ inl is | inr i ↦ inr (inr i) ];
          before = b.before;
          least = λ y i. elim i [
            | inl is ↦ absurd (apart s.0 v t (sym (ap (λ (t : Step). t.0) is)))
            | inr j ↦ b.least y j
          ];
        }

pub best-none : (v : ℕ) (o : Option Pair) (steps : List Step) → best v o steps ≡ None → (o ≡ None) × ((y : Pair) → In {A = Step} (v, y) steps → ⊥)
best-none v o [] e = (e, λ y i. i)
best-none v o (s ∷ steps) e = go (best-none v (Some (lesser o s.1)) steps) (best-none v o steps) (s.0 == v) refl e
  where
    go : (best v (Some (lesser o s.1)) steps ≡ None → (Some (lesser o s.1) ≡ None) × ((y : Pair) → In {A = Step} (v, y) steps → ⊥)) → (best v o steps ≡ None → (o ≡ None) × ((y : Pair) → In {A = Step} (v, y) steps → ⊥)) → (b : Bool) → (s.0 == v) ≡ b → best v (cond b (Some (lesser o s.1)) o) steps ≡ None → (o ≡ None) × ((y : Pair) → In {A = Step} (v, y) (s ∷ steps) → ⊥)
    go f g true t e = let b = f e in absurd (cc b.0)
    go f g false t e = let b = g e in (b.0, λ y i. elim i [ inl is ↦ apart s.0 v t (sym (ap (λ (t : Step). t.0) is)) | inr j ↦ b.1 y j ])

-- ---- the pairs that are kept

pub record IsLeast (v : ℕ) (steps : List Step) (x : Pair) : Type 0 where
  pub there : In {A = Step} (v, x) steps
  pub least : (y : Pair) → In {A = Step} (v, y) steps → IsUpTo x y

pub kept-some : (v low : ℕ) (steps : List Step) (x : Pair) → ViewsAscend low steps → pair_at v (leasts_of steps) ≡ Some x → IsLeast v steps x
kept-some v low steps x a e =
    let b = best-some v None steps x (sym (all-best v low [] steps tt a) ∙ e) in
    record { there = elim b.one [ inl is ↦ absurd (cc is) | inr i ↦ i ]; least = b.least }

pub kept-none : (v low : ℕ) (steps : List Step) → ViewsAscend low steps → pair_at v (leasts_of steps) ≡ None → (y : Pair) → In {A = Step} (v, y) steps → ⊥
kept-none v low steps a e = (best-none v None steps (sym (all-best v low [] steps tt a) ∙ e)).1
