-- A name's text is read as its place, where the names are distinct and the first of them are bound.
use Rattle.std.proofs.Common.{◌≡◌, inl, inr, ℕ, zero, suc, ◌+◌, ◌<◌, ◌≤◌, nat_lt, Bool, true, false, cond, bytes_eq, List, [], ◌∷◌, ◌++◌, length, length-append, get_or, slice_get, Option, Some, None, Ok, Err, refl, ap, subst, sym, ◌∙◌, arith}
use Rattle.std.specs.Prelude.{codes}
use Rattle.std.specs.List.{AllByRecursion, IsDistinct}
use Rattle.std.proofs.lemmas.Option.{get_or_from_slice_get}
use Rattle.std.proofs.lemmas.Slice.Eq.{bytes_eq-Decides}
use Rattle.gfx_model.specs.Words.{UniformKind}
use Rattle.scene_model.specs.Scene.{uniform_line}
use Rattle.scene_model.specs.Field.{Read, ◌>>=◌, BoundName, is_name, no_name, name_is_bound, find_name, used, used_name, optional_name, is_dash, bound_at, create_name}
use Rattle.scene_model.specs.Grammar.{Field}
use Rattle.spelling_model.specs.FieldSpelling.{name_at, optional_name_at}
use Rattle.spelling_model.specs.Readable.{IsBound, IsBoundOrNone, IsOfUniform, bound_by}
use Rattle.spelling_model.proofs.Read.{true_false}
use Rattle.spelling_model.proofs.NameRanges.{apart, not_below, below}
use Rattle.spelling_model.proofs.FieldsAgain.{goes_on}

-- the first names, with what bound them
abbrev pub named : List Field → List Bool → List BoundName
named [] bound = []
named (f ∷ fs) [] = []
named (f ∷ fs) (b ∷ bound) = record { text = f; by_uniform = b } ∷ named fs bound

-- the names of a scene
pub record HasNames (all : List Field) : Type 0 where
  pub names : AllByRecursion (λ f. is_name f ≡ true) all
  pub distinct : IsDistinct bytes_eq all

pub at_place : (P : Field → Type 0) (all : List Field) (n : ℕ) → AllByRecursion P all → n < length all → P (name_at all n)
at_place P [] n h lt = absurd (omega (arith, lt))
at_place P (f ∷ all) zero h lt = h.0
at_place P (f ∷ all) (suc n) h lt = at_place P all n h.1 (omega (arith, lt))

pub is_named : (all : List Field) (n : ℕ) → HasNames all → n < length all → is_name (name_at all n) ≡ true
is_named all n h lt = at_place (λ f. is_name f ≡ true) all n h.names lt

other : (f : Field) (all : List Field) (n : ℕ) → AllByRecursion (λ y. bytes_eq f y ≡ false) all → n < length all → bytes_eq (name_at all n) f ≡ false
other f all n h lt = apart f (name_at all n) (at_place (λ y. bytes_eq f y ≡ false) all n h lt)

find_again : (k : ℕ) (all : List Field) (bound : List Bool) (n : ℕ) → IsDistinct bytes_eq all → n < length bound → n < length all → find_name k (named all bound) (name_at all n) ≡ Some (k + n, get_or bound n false)
unfolding IsDistinct
find_again k [] bound n d lt in_all = absurd (omega (arith, in_all))
find_again k (f ∷ all) [] n d lt in_all = absurd (omega (arith, lt))
find_again k (f ∷ all) (b ∷ bound) zero d lt in_all =
    let here : k ≡ k + 0 = omega arith in
    ap (λ t. cond t (Some (k, b)) (find_name (k + 1) (named all bound) f)) ((bytes_eq-Decides f f).1 refl) ∙ ap (λ i. Some (i, b)) here
find_again k (f ∷ all) (b ∷ bound) (suc n) d lt in_all =
    let later = find_again (k + 1) all bound n d.1 (omega (arith, lt)) (omega (arith, in_all)) in
    let place : k + 1 + n ≡ k + suc n = omega arith in
    ap (λ t. cond t (Some (k, b)) (find_name (k + 1) (named all bound) (name_at all n))) (other f all n d.0 (omega (arith, in_all))) ∙ later ∙ ap (λ i. Some (i, get_or bound n false)) place

find_none : (k : ℕ) (all : List Field) (bound : List Bool) (n : ℕ) → IsDistinct bytes_eq all → length bound ≤ n → n < length all → find_name k (named all bound) (name_at all n) ≡ None
unfolding IsDistinct
find_none k [] bound n d le in_all = absurd (omega (arith, in_all))
find_none k (f ∷ all) [] n d le in_all = refl
find_none k (f ∷ all) (b ∷ bound) zero d le in_all = absurd (omega (arith, le))
find_none k (f ∷ all) (b ∷ bound) (suc n) d le in_all =
    ap (λ t. cond t (Some (k, b)) (find_name (k + 1) (named all bound) (name_at all n))) (other f all n d.0 (omega (arith, in_all)))
    ∙ find_none (k + 1) all bound n d.1 (omega (arith, le)) (omega (arith, in_all))

named_length : (all : List Field) (bound : List Bool) → length bound ≤ length all → length (named all bound) ≡ length bound
named_length [] [] le = refl
named_length [] (b ∷ bound) le = absurd (omega (arith, le))
named_length (f ∷ all) [] le = refl
named_length (f ∷ all) (b ∷ bound) le = ap suc (named_length all bound (omega (arith, le)))

named_more : (all : List Field) (bound : List Bool) (u : Bool) → length bound < length all → named all bound ++ record { text = name_at all (length bound); by_uniform = u } ∷ [] ≡ named all (bound ++ u ∷ [])
named_more [] bound u lt = absurd (omega (arith, lt))
named_more (f ∷ []) [] u lt = refl
named_more (f ∷ g ∷ all) [] u lt = refl
named_more (f ∷ all) (b ∷ bound) u lt = ap (λ ns. record { text = f; by_uniform = b } ∷ ns) (named_more all bound u (omega (arith, lt)))

-- ---- names that are used

pub used_again : (all : List Field) (bound : List Bool) (n : ℕ) → HasNames all → length bound ≤ length all → IsBound bound n → used_name (named all bound) (name_at all n) ≡ Ok n
used_again all bound n h le lt =
    let in_all : n < length all = omega (arith, le, lt) in
    let here : 0 + n ≡ n = omega arith in
    ap (λ t. cond t (used (find_name 0 (named all bound) (name_at all n))) (Err no_name)) (is_named all n h in_all)
    ∙ ap used (find_again 0 all bound n h.distinct lt in_all) ∙ ap (λ i. Ok i) here

no_dash : (f : Field) → is_name f ≡ true → is_dash f ≡ false
no_dash f h = by (is_dash f) refl
  where
    by : (t : Bool) → is_dash f ≡ t → t ≡ false
    by true e = absurd (true_false (sym h ∙ ap is_name ((bytes_eq-Decides f (codes "-")).0 e)))
    by false e = refl

abbrev some_name : ℕ → Read (Option ℕ)
some_name n = Ok (Some n)

pub optional_again : (all : List Field) (bound : List Bool) (o : Option ℕ) → HasNames all → length bound ≤ length all → IsBoundOrNone bound o → optional_name (named all bound) (optional_name_at all o) ≡ Ok o
optional_again all bound None h le k = refl
optional_again all bound (Some n) h le lt =
    ap (λ t. cond t (Ok None) (used_name (named all bound) (name_at all n) >>= some_name)) (no_dash (name_at all n) (is_named all n h (omega (arith, le, lt))))
    ∙ goes_on (used_name (named all bound) (name_at all n)) n some_name (used_again all bound n h le lt)

-- ---- names that are created

fresh : (all : List Field) (bound : List Bool) (u : Bool) → HasNames all → length bound < length all → create_name (named all bound) u (name_at all (length bound)) ≡ Ok (length bound, named all (bound ++ u ∷ []))
fresh all bound u h lt =
    let f = name_at all (length bound) in
    ap (λ t. cond t (bound_at (named all bound) f u (find_name 0 (named all bound) f)) (Err no_name)) (is_named all (length bound) h lt)
    ∙ ap (bound_at (named all bound) f u) (find_none 0 all bound (length bound) h.distinct (omega arith) lt)
    ∙ ap (λ n. Ok (n, named all bound ++ record { text = f; by_uniform = u } ∷ [])) (named_length all bound (omega (arith, lt)))
    ∙ ap (λ ns. Ok (length bound, ns)) (named_more all bound u lt)

pub create_again : (all : List Field) (bound : List Bool) (u : Bool) (n : ℕ) → HasNames all → length bound < length all → n ≡ length bound → create_name (named all bound) u (name_at all n) ≡ Ok (n, named all (bound ++ u ∷ []))
create_again all bound u n h lt e = subst (λ m. create_name (named all bound) u (name_at all m) ≡ Ok (m, named all (bound ++ u ∷ []))) (sym e) (fresh all bound u h lt)

pub got_in : (bound : List Bool) (n : ℕ) → slice_get bound n ≡ Some true → n < length bound
got_in [] n e = absurd (cc e)
got_in (b ∷ bound) zero e = omega arith
got_in (b ∷ bound) (suc n) e = let l = got_in bound n e in omega (arith, l)

pub uniform_again : (all : List Field) (bound : List Bool) (n : ℕ) (kind : UniformKind) → HasNames all → length (bound_by bound (uniform_line n kind)) ≤ length all → length bound ≤ length all → IsOfUniform bound n
    → create_name (named all bound) true (name_at all n) ≡ Ok (n, named all (bound_by bound (uniform_line n kind)))
uniform_again all bound n kind h grown le (inl e) =
    let new : nat_lt n (length bound) ≡ false = not_below n (length bound) e in
    let longer = subst (λ t. length (cond t bound (bound ++ true ∷ [])) ≤ length all) new grown in
    create_again all bound true n h (omega (arith, longer, length-append bound (true ∷ []))) e ∙ ap (λ t. Ok (n, named all (cond t bound (bound ++ true ∷ [])))) (sym new)
uniform_again all bound n kind h grown le (inr e) =
    let lt = got_in bound n e in
    let in_all : n < length all = omega (arith, lt, le) in
    let old : nat_lt n (length bound) ≡ true = below n (length bound) lt in
    let flag : get_or bound n false ≡ true = get_or_from_slice_get bound n true false e in
    let here : 0 + n ≡ n = omega arith in
    ap (λ t. cond t (bound_at (named all bound) (name_at all n) true (find_name 0 (named all bound) (name_at all n))) (Err no_name)) (is_named all n h in_all)
    ∙ ap (bound_at (named all bound) (name_at all n) true) (find_again 0 all bound n h.distinct lt in_all)
    ∙ ap (λ t. cond {A = Read (ℕ × List BoundName)} t (Ok (0 + n, named all bound)) (Err name_is_bound)) flag
    ∙ ap (λ i. Ok (i, named all bound)) here
    ∙ ap (λ t. Ok (n, named all (cond t bound (bound ++ true ∷ [])))) (sym old)
