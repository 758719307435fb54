-- Things that stand apart, after a change.
use Rattle.std.proofs.Common.{◌≡◌, ℕ, zero, suc, ◌+◌, ◌<◌, ◌≤◌, ◌==◌, Bool, true, false, ◌&&◌, if◌then◌else◌, List, [], ◌∷◌, ◌++◌, length, Some, None, refl, sym, ap, ◌∙◌, subst, arith, slice_index_or, slice_set}
use Rattle.std.specs.List.{AllByRecursion, find}
use Rattle.std.proofs.lemmas.Bool.{eqb-true}
use Rattle.std.proofs.lemmas.Option.{none-some}
use Rattle.gfx_model.specs.Words.{Kind, Handle, kind_number, greatest}
use Rattle.gfx_model.specs.Resources.{Thing, is_at}
use Rattle.resource_laws.specs.Lawful.{count_where}
use Rattle.resource_laws.proofs.AttachLaws.{count_snoc, all_snoc}
use Rattle.store_laws.specs.Standing.{content_kind}
use Rattle.resource_book.specs.Tables.{StandApart, IsOfKind}

-- ---- a thing in place of another

pub count_set : (q : Thing → Bool) (ts : List Thing) (n : ℕ) (y d : Thing) → n < length ts → q y ≡ q (slice_index_or ts n d) → count_where q (slice_set ts n y) ≡ count_where q ts
count_set q [] n y d lt e = refl
count_set q (t ∷ ts) zero y d lt e = ap (λ b. (if b then 1 else 0) + count_where q ts) e
count_set q (t ∷ ts) (suc n) y d lt e = ap (λ m. (if q t then 1 else 0) + m) (count_set q ts n y d (omega (arith, lt)) e)

pub all_set : (P : Thing → Type 0) (ts : List Thing) (n : ℕ) (y : Thing) → AllByRecursion P ts → P y → AllByRecursion P (slice_set ts n y)
all_set P [] n y a h = tt
all_set P (t ∷ ts) zero y a h = (h, a.1)
all_set P (t ∷ ts) (suc n) y a h = (a.0, all_set P ts n y a.1 h)

pub all_here : (P : Thing → Type 0) (ts : List Thing) (n : ℕ) (d : Thing) → n < length ts → AllByRecursion P ts → P (slice_index_or ts n d)
all_here P [] n d lt a = absurd (omega (arith, lt))
all_here P (t ∷ ts) zero d lt a = a.0
all_here P (t ∷ ts) (suc n) d lt a = all_here P ts n d (omega (arith, lt)) a.1

pub apart_set : (ts : List Thing) (n : ℕ) (y d : Thing) → n < length ts → y.handle ≡ (slice_index_or ts n d).handle → StandApart ts → StandApart (slice_set ts n y)
apart_set ts n y d lt same a = record {
  fits = all_set (λ t. t.handle.index < greatest t.handle.kind) ts n y a.fits (subst (λ (h : Handle). h.index < greatest h.kind) (sym same) (all_here (λ t. t.handle.index < greatest t.handle.kind) ts n d lt a.fits));
  once = λ k index low.
      let o = a.once k index low in
      let c = count_set (is_at k index) ts n y d lt (λ j. (kind_number (same j).kind == kind_number k) && ((same j).index == index)) in
      omega (arith, o, c);
}

-- a thing's kind stays where its handle and its content do
pub kind_kept : (t u : Thing) → t.handle ≡ u.handle → t.content ≡ u.content → IsOfKind u → IsOfKind t
kind_kept t u handle content k = ap content_kind content ∙ k ∙ ap (λ (h : Handle). h.kind) (sym handle)

-- ---- a thing more

not_counted_by : (p : Thing → Bool) (t : Thing) (ts : List Thing) (b : Bool) → (find p ts ≡ None → count_where p ts ≡ 0) → (if b then Some t else find p ts) ≡ None → (if b then 1 else 0) + count_where p ts ≡ 0
not_counted_by p t ts true f e = absurd (none-some t (sym e))
not_counted_by p t ts false f e = let h = f e in omega (arith, h)

pub not_counted : (p : Thing → Bool) (ts : List Thing) → find p ts ≡ None → count_where p ts ≡ 0
not_counted p [] e = refl
not_counted p (t ∷ ts) e = not_counted_by p t ts (p t) (not_counted p ts) e

pub both_true : (b c : Bool) → b && c ≡ true → (b ≡ true) × (c ≡ true)
both_true true true e = (refl, refl)
both_true true false e = absurd cc
both_true false c e = absurd cc

once_more : (k : Kind) (i : ℕ) (t : Thing) (ts : List Thing) (b : Bool) → is_at k i t ≡ b → find (is_at t.handle.kind t.handle.index) ts ≡ None → count_where (is_at k i) ts ≤ 1 → count_where (is_at k i) ts + (if b then 1 else 0) ≤ 1
once_more k i t ts true e none one =
    let h = both_true (kind_number t.handle.kind == kind_number k) (t.handle.index == i) e in
    let kinds = eqb-true (kind_number t.handle.kind) (kind_number k) h.0 in
    let index = eqb-true t.handle.index i h.1 in
    let free : find (is_at k i) ts ≡ None = (λ j. find (λ (u : Thing). (kind_number u.handle.kind == sym kinds j) && (u.handle.index == sym index j)) ts) ∙ none in
    omega (arith, not_counted (is_at k i) ts free)
once_more k i t ts false e none one = omega (arith, one)

pub apart_more : (ts : List Thing) (t : Thing) → t.handle.index < greatest t.handle.kind → find (is_at t.handle.kind t.handle.index) ts ≡ None → StandApart ts → StandApart (ts ++ t ∷ [])
apart_more ts t below none a = record {
  fits = all_snoc (λ t. t.handle.index < greatest t.handle.kind) ts t a.fits below;
  once = λ k i low. subst (λ (n : ℕ). n ≤ 1) (sym (count_snoc (is_at k i) ts t)) (once_more k i t ts (is_at k i t) refl none (a.once k i low));
}
