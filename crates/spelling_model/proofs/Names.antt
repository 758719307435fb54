-- A name that is read is the text at its place, in the names so far and in all longer lists.
use Rattle.std.proofs.Common.{◌≡◌, ℕ, suc, ◌+◌, ◌&&◌, Bool, true, false, cond, bytes_eq, List, [], ◌∷◌, ◌++◌, map, length, Option, Some, None, Ok, refl, ap, subst, sym, ◌∙◌, arith, append_assoc}
use Rattle.std.specs.Prelude.{codes}
use Rattle.std.proofs.lemmas.List.{append-nil, map-append}
use Rattle.std.proofs.lemmas.Slice.Eq.{bytes_eq-Decides}
use Rattle.scene_model.specs.Field.{Read, ◌>>=◌, BoundName, is_name, no_name, name_is_bound, find_name, used, used_name, optional_name, is_dash, bound_at, create_name}
use Rattle.scene_model.specs.Grammar.{Field, text_of}
use Rattle.spelling_model.specs.FieldSpelling.{name_at, optional_name_at}
use Rattle.spelling_model.proofs.Read.{bind_ok, if_ok, field_there}

-- the second list begins with the first
abbrev pub IsPrefix : List Field → List Field → Type 0
IsPrefix xs ys = (rest : List Field) × (ys ≡ xs ++ rest)

pub same_prefix : (xs : List Field) → IsPrefix xs xs
same_prefix xs = ([], sym (append-nil xs))

pub longer_prefix : (xs ys zs : List Field) → IsPrefix xs ys → IsPrefix ys zs → IsPrefix xs zs
longer_prefix xs ys zs p q = (p.0 ++ q.0, q.1 ∙ ap (λ k. k ++ q.0) p.1 ∙ append_assoc xs p.0 q.0)

abbrev pub texts : List BoundName → List Field
texts names = map text_of names

find_takes : (k : ℕ) (names : List BoundName) (f : Field) (r : ℕ × Bool) → find_name k names f ≡ Some r → (rest : List Field) → (i : ℕ) × (r.0 ≡ k + i) × (f ≡ name_at (texts names ++ rest) i)
find_takes k [] f r e rest = absurd (cc e)
find_takes k (b ∷ names) f r e rest = by (bytes_eq f b.text) refl e (λ h. find_takes (k + 1) names f r h rest)
  where
    by : (t : Bool) → bytes_eq f b.text ≡ t → cond t (Some (k, b.by_uniform)) (find_name (k + 1) names f) ≡ Some r → (find_name (k + 1) names f ≡ Some r → (i : ℕ) × (r.0 ≡ k + 1 + i) × (f ≡ name_at (texts names ++ rest) i)) → (i : ℕ) × (r.0 ≡ k + i) × (f ≡ name_at (texts (b ∷ names) ++ rest) i)
    by true h e later = let p : k ≡ r.0 = cc e in (0, omega (arith, p), (bytes_eq-Decides f b.text).0 h)
    by false h e later = let l = later e in (suc l.0, omega (arith, l.1), l.2)

found_takes : (names : List BoundName) (f : Field) (r : ℕ × Bool) → find_name 0 names f ≡ Some r → (all : List Field) → IsPrefix (texts names) all → f ≡ name_at all r.0
found_takes names f r e all p =
    let t = find_takes 0 names f r e p.0 in
    let q : t.0 ≡ r.0 = omega (arith, t.1) in
    let whole : texts names ++ p.0 ≡ all = sym p.1 in
    t.2 ∙ (λ i. name_at (whole i) (q i))

pub used_takes : (names : List BoundName) (f : Field) (n : ℕ) → used_name names f ≡ Ok n → (all : List Field) → IsPrefix (texts names) all → f ≡ name_at all n
used_takes names f n e all p = by (find_name 0 names f) refl (if_ok (is_name f) (used (find_name 0 names f)) no_name n e).1
  where
    by : (o : Option (ℕ × Bool)) → find_name 0 names f ≡ o → used o ≡ Ok n → f ≡ name_at all n
    by None h u = absurd (cc u)
    by (Some r) h u = let q : r.0 ≡ n = cc u in found_takes names f r h all p ∙ ap (name_at all) q

abbrev some_name : ℕ → Read (Option ℕ)
some_name n = Ok (Some n)

pub optional_takes : (names : List BoundName) (f : Field) (o : Option ℕ) → optional_name names f ≡ Ok o → (all : List Field) → IsPrefix (texts names) all → f ≡ optional_name_at all o
optional_takes names f o e all p = by (is_dash f) refl e
  where
    by : (b : Bool) → is_dash f ≡ b → cond b (Ok None) (used_name names f >>= some_name) ≡ Ok o → f ≡ optional_name_at all o
    by true h e = let made : None ≡ o = cc e in (bytes_eq-Decides f (codes "-")).0 h ∙ ap (optional_name_at all) made
    by false h e =
        let a = bind_ok (used_name names f) _ o e in
        let made : Some a.0 ≡ o = cc a.2 in
        used_takes names f a.0 a.1 all p ∙ ap (optional_name_at all) made

-- a create line's name: the names grow by it at most, and it stands at its place
abbrev pub Created : List BoundName → Field → ℕ × List BoundName → Type 0
Created names f n = IsPrefix (texts names) (texts n.1) × ((all : List Field) → IsPrefix (texts n.1) all → f ≡ name_at all n.0)

pub length_texts : (names : List BoundName) → length (texts names) ≡ length names
length_texts [] = refl
length_texts (b ∷ names) = ap suc (length_texts names)

new_takes : (names : List BoundName) (f : Field) (u : Bool) → Created names f (length names, names ++ record { text = f; by_uniform = u } ∷ [])
new_takes names f u =
    let grown : texts (names ++ record { text = f; by_uniform = u } ∷ []) ≡ texts names ++ f ∷ [] = map-append text_of names (record { text = f; by_uniform = u } ∷ []) in (
      (f ∷ [], grown),
      λ all p.
          let whole : all ≡ texts names ++ f ∷ p.0 = p.1 ∙ ap (λ k. k ++ p.0) grown ∙ append_assoc (texts names) (f ∷ []) p.0 in
          let back : texts names ++ f ∷ p.0 ≡ all = sym whole in
          sym (field_there (texts names) f p.0) ∙ (λ i. name_at (back i) (length_texts names i)),
    )

pub create_takes : (names : List BoundName) (u : Bool) (f : Field) (n : ℕ × List BoundName) → create_name names u f ≡ Ok n → Created names f n
create_takes names u f n e = by (find_name 0 names f) refl (if_ok (is_name f) (bound_at names f u (find_name 0 names f)) no_name n e).1
  where
    by : (o : Option (ℕ × Bool)) → find_name 0 names f ≡ o → bound_at names f u o ≡ Ok n → Created names f n
    by None h b = let made : (length names, names ++ record { text = f; by_uniform = u } ∷ []) ≡ n = cc b in subst (Created names f) made (new_takes names f u)
    by (Some r) h b =
        let t = if_ok (u && r.1) (Ok (r.0, names)) name_is_bound n b in
        let made : (r.0, names) ≡ n = cc t.1 in
        subst (Created names f) made (same_prefix (texts names), found_takes names f r h)
