-- Runs that are not swept meet.
use Rattle.std.proofs.Common.{◌≡◌, ℕ, ◌<◌, ◌≤◌, inl, inr, Bool, true, false, nat_lt, nat_le, not, ◌&&◌, ◌||◌, ◌==◌, cond, List, [], ◌∷◌, refl, sym, ◌∙◌, arith}
use Rattle.std.specs.List.Sorted.{IsPermutation}
use Rattle.std.proofs.lemmas.List.Sorted.{IsPermutation-sym}
use Rattle.shared_keys.specs.Members.{In}
use Rattle.shared_keys.proofs.Members.{member-moves}
use Rattle.covered_rows.specs.declared.runs.Run.{Run}
use Rattle.covered_rows.specs.Apart.{HaveColumns, SomeMeet}
use Rattle.covered_rows.specs.Sweep.{ComesBefore, AreInOrderFrom, AreInOrder, is_clear, joined_after, joined, sweep_from, sweep_of}

same_from_test : (m n : ℕ) → (m == n) ≡ true → m ≡ n
same_from_test m n e = grind (arith, e)

self-test : (m n : ℕ) → m ≡ n → (m == n) ≡ true
self-test m n e = grind (arith, e)

differ_from_test : (m n : ℕ) → (m == n) ≡ false → m ≡ n → ⊥
differ_from_test m n e s = cc (sym e ∙ self-test m n s)

less : (m n : ℕ) → nat_le m n ≡ false → n < m
less m n e = grind (arith, e)

-- the run that gives another its end
record IsFrom (all : List Run) (m : Run) : Type 0 where
  own : Run
  there : In own all
  key : own.key ≡ m.key
  row : own.row ≡ m.row
  encoder : own.encoder ≡ m.encoder
  after : own.after ≡ m.after
  first : own.first ≤ m.first

-- two runs that are not clear are of one key and row and of two encoders, and the second begins before the first ends
record IsUnclear (m n : Run) : Type 0 where
  key : m.key ≡ n.key
  row : m.row ≡ n.row
  apart : m.encoder ≡ n.encoder → ⊥
  over : n.first < m.after

unclear : (m n : Run) → is_clear m n ≡ false → IsUnclear m n
unclear m n h = go (m.key == n.key) (m.row == n.row) (m.encoder == n.encoder) (nat_le m.after n.first) refl refl refl refl h
  where
    go : (k r e l : Bool) → (m.key == n.key) ≡ k → (m.row == n.row) ≡ r → (m.encoder == n.encoder) ≡ e → nat_le m.after n.first ≡ l → (not (k && r) || (e || l)) ≡ false → IsUnclear m n
    go false r e l ik ir ie il h = absurd (cc h)
    go true false e l ik ir ie il h = absurd (cc h)
    go true true true l ik ir ie il h = absurd (cc h)
    go true true false true ik ir ie il h = absurd (cc h)
    go true true false false ik ir ie il h = record {
      key = same_from_test m.key n.key ik;
      row = same_from_test m.row n.row ir;
      apart = differ_from_test m.encoder n.encoder ie;
      over = less m.after n.first il;
    }

begins-first : (m n : Run) → ComesBefore m n → m.key ≡ n.key → m.row ≡ n.row → m.first ≤ n.first
begins-first m n (inl a) k r = absurd (omega (arith, a, k))
begins-first m n (inr (k, inl a)) e r = absurd (omega (arith, a, r))
begins-first m n (inr (k, inr a)) e r = a.1

-- a run that is joined with the one before has its end from one of the two
joined-from : (all : List Run) (m n : Run) → IsFrom all m → In n all → ComesBefore m n → IsFrom all (joined m n)
joined-from all m n f i before = go (m.key == n.key) (m.row == n.row) (m.encoder == n.encoder) (nat_lt n.after m.after) refl refl refl refl
  where
    last : joined_after m n ≡ n.after → IsFrom all (joined m n)
    last e = record { own = n; there = i; key = refl; row = refl; encoder = refl; after = sym e; first = omega arith }

    by : (k r e l : Bool) → ℕ
    by k r e l = cond (((k && r) && e) && l) m.after n.after

    is : (k r e l : Bool) → (m.key == n.key) ≡ k → (m.row == n.row) ≡ r → (m.encoder == n.encoder) ≡ e → nat_lt n.after m.after ≡ l → joined_after m n ≡ cond (((k && r) && e) && l) m.after n.after
    is k r e l ik ir ie il = λ j. cond (((ik j && ir j) && ie j) && il j) m.after n.after

    go : (k r e l : Bool) → (m.key == n.key) ≡ k → (m.row == n.row) ≡ r → (m.encoder == n.encoder) ≡ e → nat_lt n.after m.after ≡ l → IsFrom all (joined m n)
    go false r e l ik ir ie il = last (is false r e l ik ir ie il)
    go true false e l ik ir ie il = last (is true false e l ik ir ie il)
    go true true false l ik ir ie il = last (is true true false l ik ir ie il)
    go true true true false ik ir ie il = last (is true true true false ik ir ie il)
    go true true true true ik ir ie il =
        let key : m.key ≡ n.key = same_from_test m.key n.key ik in
        let row : m.row ≡ n.row = same_from_test m.row n.row ir in
        let far : m.first ≤ n.first = begins-first m n before key row in
        let low : f.own.first ≤ m.first = f.first in
        record {
          own = f.own;
          there = f.there;
          key = f.key ∙ key;
          row = f.row ∙ row;
          encoder = f.encoder ∙ same_from_test m.encoder n.encoder ie;
          after = f.after ∙ sym (is true true true true ik ir ie il);
          first = omega (arith, far, low);
        }

joined-order : (m n : Run) (rest : List Run) → AreInOrderFrom n rest → AreInOrderFrom (joined m n) rest
joined-order m n [] o = tt
joined-order m n (z ∷ rest) o = o

met-here : (all : List Run) (m n : Run) → IsFrom all m → In n all → HaveColumns all → ComesBefore m n → IsUnclear m n → SomeMeet all
met-here all m n f i some before u =
    let far : m.first ≤ n.first = begins-first m n before u.key u.row in
    let low : f.own.first ≤ m.first = f.first in
    let after : f.own.after ≡ m.after = f.after in
    let over : n.first < m.after = u.over in
    (f.own, (n, (n.first, (f.there, i, f.key ∙ u.key, f.row ∙ u.row, (λ e. u.apart (sym f.encoder ∙ e)), (omega (arith, far, low), omega (arith, after, over)), (omega arith, some n i)))))

met : (all : List Run) (m : Run) (rest : List Run) → IsFrom all m → ((z : Run) → In z rest → In z all) → HaveColumns all → AreInOrderFrom m rest → sweep_from m rest ≡ false → SomeMeet all
met all m [] f there some o h = absurd (cc h)
met all m (n ∷ rest) f there some o h =
    go (λ later. met all (joined m n) rest (joined-from all m n f (there n (inl refl)) o.0) (λ z i. there z (inr i)) some (joined-order m n rest o.1) later) (is_clear m n) refl h
  where
    go : (sweep_from (joined m n) rest ≡ false → SomeMeet all) → (b : Bool) → is_clear m n ≡ b → (b && sweep_from (joined m n) rest) ≡ false → SomeMeet all
    go on true is later = on later
    go on false is later = met-here all m n f (there n (inl refl)) some o.0 (unclear m n is)

sorted-meet : (runs : List Run) → AreInOrder runs → HaveColumns runs → sweep_of runs ≡ false → SomeMeet runs
sorted-meet [] o some h = absurd (cc h)
sorted-meet (m ∷ rest) o some h =
    met (m ∷ rest) m rest (record { own = m; there = inl refl; key = refl; row = refl; encoder = refl; after = refl; first = omega arith }) (λ z i. inr i) some o h

pub unswept : (runs sorted : List Run) → IsPermutation runs sorted → AreInOrder sorted → sweep_of sorted ≡ false → HaveColumns runs → SomeMeet runs
unswept runs sorted same o h some =
    let back : IsPermutation sorted runs = IsPermutation-sym runs sorted same in
    let found = sorted-meet sorted o (λ r i. some r (member-moves sorted runs r back i)) h in
    let m = found.1.1.1 in
    (found.0, (found.1.0, (found.1.1.0, (member-moves sorted runs found.0 back m.0, member-moves sorted runs found.1.0 back m.1, m.2, m.3, m.4, m.5, m.6))))
