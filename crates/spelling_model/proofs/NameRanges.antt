-- A name that is used is bound, and a name that is created is the next, or one that a `uniform` line binds again.
use Rattle.std.proofs.Common.{◌≡◌, inl, inr, ℕ, ◌+◌, ◌<◌, suc, Bool, true, false, nat_lt, cond, bytes_eq, List, [], ◌∷◌, ◌++◌, map, length, slice_get, Option, Some, None, Ok, Err, refl, ap, subst, sym, ◌∙◌, arith}
use Rattle.std.proofs.lemmas.Bool.Decides.{nat_tests}
use Rattle.std.proofs.lemmas.List.{length-map, map-append}
use Rattle.std.proofs.lemmas.Slice.Eq.{bytes_eq-Decides}
use Rattle.std.specs.List.{AllByRecursion, IsDistinct}
use Rattle.scene_model.specs.Field.{Read, ◌>>=◌, BoundName, is_name, no_name, name_is_bound, find_name, used, used_name, optional_name, is_dash, bound_at, create_name}
use Rattle.scene_model.specs.Grammar.{Field, text_of}
use Rattle.spelling_model.specs.Readable.{IsBound, IsBoundOrNone, IsOfUniform}
use Rattle.spelling_model.proofs.Read.{if_ok, true_false}
use Rattle.spelling_model.proofs.Names.{texts}
use Rattle.spelling_model.proofs.FieldRanges.{AllRead, behind, made}

-- of each name, whether a `uniform` line bound it
abbrev pub flags : List BoundName → List Bool
flags names = map (λ b. b.by_uniform) names

-- the names are names, and no two are the same
abbrev pub AreNames : List BoundName → Type 0
AreNames names = AllByRecursion (λ f. is_name f ≡ true) (texts names) × IsDistinct bytes_eq (texts names)

pub flags_length : (names : List BoundName) → length (flags names) ≡ length names
flags_length names = length-map names (λ b. b.by_uniform)

-- ---- names that are used

find_flag : (k : ℕ) (names : List BoundName) (f : Field) (r : ℕ × Bool) → find_name k names f ≡ Some r → (i : ℕ) × (r.0 ≡ k + i) × (i < length names) × (slice_get (flags names) i ≡ Some r.1)
find_flag k [] f r e = absurd (cc e)
find_flag k (b ∷ names) f r e = by (bytes_eq f b.text) e (find_flag (k + 1) names f r)
  where
    by : (t : Bool) → cond t (Some (k, b.by_uniform)) (find_name (k + 1) names f) ≡ Some r → (find_name (k + 1) names f ≡ Some r → (i : ℕ) × (r.0 ≡ k + 1 + i) × (i < length names) × (slice_get (flags names) i ≡ Some r.1))
        → (i : ℕ) × (r.0 ≡ k + i) × (i < suc (length names)) × (slice_get (flags (b ∷ names)) i ≡ Some r.1)
    by true e later = let p : (k, b.by_uniform) ≡ r = cc e in (0, omega (arith, ap (λ q. q.0) p), omega arith, ap (λ q. Some q.1) p)
    by false e later = let l = later e in (suc l.0, omega (arith, l.1), omega (arith, l.2), l.3)

pub used_range : (names : List BoundName) (f : Field) → AllRead (IsBound (flags names)) (used_name names f)
used_range names f n e = by (find_name 0 names f) refl (if_ok (is_name f) (used (find_name 0 names f)) no_name n e).1
  where
    by : (o : Option (ℕ × Bool)) → find_name 0 names f ≡ o → used o ≡ Ok n → n < length (flags names)
    by None h u = absurd (cc u)
    by (Some r) h u = let q : r.0 ≡ n = cc u in let l = find_flag 0 names f r h in omega (arith, q, l.1, l.2, flags_length names)

abbrev some_name : ℕ → Read (Option ℕ)
some_name n = Ok (Some n)

pub optional_range : (names : List BoundName) (f : Field) → AllRead (IsBoundOrNone (flags names)) (optional_name names f)
optional_range names f = by (is_dash f)
  where
    by : (b : Bool) → AllRead (IsBoundOrNone (flags names)) (cond b (Ok None) (used_name names f >>= some_name))
    by true = made (IsBoundOrNone (flags names)) None tt
    by false = behind (used_name names f) some_name (used_range names f) (λ n p. made (IsBoundOrNone (flags names)) (Some n) p)

-- ---- names that are created

pub apart : (f t : Field) → bytes_eq f t ≡ false → bytes_eq t f ≡ false
apart f t h = by (bytes_eq t f) refl
  where
    by : (b : Bool) → bytes_eq t f ≡ b → b ≡ false
    by true e = absurd (true_false (sym ((bytes_eq-Decides f t).1 (sym ((bytes_eq-Decides t f).0 e))) ∙ h))
    by false e = refl

none_equal : (k : ℕ) (names : List BoundName) (f : Field) → find_name k names f ≡ None → AllByRecursion (λ t. bytes_eq t f ≡ false) (texts names)
none_equal k [] f e = tt
none_equal k (b ∷ names) f e = by (bytes_eq f b.text) refl e (none_equal (k + 1) names f)
  where
    by : (t : Bool) → bytes_eq f b.text ≡ t → cond t (Some (k, b.by_uniform)) (find_name (k + 1) names f) ≡ None → (find_name (k + 1) names f ≡ None → AllByRecursion (λ t. bytes_eq t f ≡ false) (texts names))
        → AllByRecursion (λ t. bytes_eq t f ≡ false) (texts (b ∷ names))
    by true h e later = absurd (cc e)
    by false h e later = (apart f b.text h, later e)

pub all_more : {A : Type 0} (P : A → Type 0) (xs : List A) (x : A) → AllByRecursion P xs → P x → AllByRecursion P (xs ++ x ∷ [])
all_more P [] x h p = (p, tt)
all_more P (y ∷ xs) x h p = (h.0, all_more P xs x h.1 p)

distinct_more : (xs : List Field) (f : Field) → AllByRecursion (λ t. bytes_eq t f ≡ false) xs → IsDistinct bytes_eq xs → IsDistinct bytes_eq (xs ++ f ∷ [])
unfolding IsDistinct
distinct_more [] f a d = (tt, tt)
distinct_more (x ∷ xs) f a d = (all_more (λ y. bytes_eq x y ≡ false) xs f d.0 a.0, distinct_more xs f a.1 d.1)

names_more : (names : List BoundName) (f : Field) (u : Bool) → is_name f ≡ true → find_name 0 names f ≡ None → AreNames names → AreNames (names ++ record { text = f; by_uniform = u } ∷ [])
names_more names f u is none h =
    let grown : texts (names ++ record { text = f; by_uniform = u } ∷ []) ≡ texts names ++ f ∷ [] = map-append text_of names (record { text = f; by_uniform = u } ∷ []) in
    subst (λ ts. AllByRecursion (λ f. is_name f ≡ true) ts × IsDistinct bytes_eq ts) (sym grown)
    (all_more (λ f. is_name f ≡ true) (texts names) f h.0 is, distinct_more (texts names) f (none_equal 0 names f none) h.1)

flags_more : (names : List BoundName) (f : Field) (u : Bool) → flags (names ++ record { text = f; by_uniform = u } ∷ []) ≡ flags names ++ u ∷ []
flags_more names f u = map-append (λ b. b.by_uniform) names (record { text = f; by_uniform = u } ∷ [])

-- a name and the names behind its line
abbrev pub Creates : List BoundName → ℕ × List BoundName → Type 0
Creates names n = (n.0 ≡ length (flags names)) × (flags n.1 ≡ flags names ++ false ∷ []) × (AreNames names → AreNames n.1)

pub create_range : (names : List BoundName) (f : Field) → AllRead (Creates names) (create_name names false f)
create_range names f n e = let t = if_ok (is_name f) (bound_at names f false (find_name 0 names f)) no_name n e in by (find_name 0 names f) refl t.0 t.1
  where
    by : (o : Option (ℕ × Bool)) → find_name 0 names f ≡ o → is_name f ≡ true → bound_at names f false o ≡ Ok n → Creates names n
    by None h is b =
        let own : (length names, names ++ record { text = f; by_uniform = false } ∷ []) ≡ n = cc b in
        subst (Creates names) own (sym (flags_length names), flags_more names f false, names_more names f false is h)
    by (Some r) h is b = absurd (cc b)

abbrev pub CreatesUniform : List BoundName → ℕ × List BoundName → Type 0
CreatesUniform names n = IsOfUniform (flags names) n.0 × (flags n.1 ≡ cond (nat_lt n.0 (length (flags names))) (flags names) (flags names ++ true ∷ [])) × (AreNames names → AreNames n.1)

pub not_below : (a b : ℕ) → a ≡ b → nat_lt a b ≡ false
not_below a b e = grind (arith, nat_tests, e)

pub below : (a b : ℕ) → a < b → nat_lt a b ≡ true
below a b l = grind (arith, nat_tests, l)

pub uniform_range : (names : List BoundName) (f : Field) → AllRead (CreatesUniform names) (create_name names true f)
uniform_range names f n e = let t = if_ok (is_name f) (bound_at names f true (find_name 0 names f)) no_name n e in by (find_name 0 names f) refl t.0 t.1
  where
    again : (r : ℕ × Bool) (u : Bool) → r.1 ≡ u → find_name 0 names f ≡ Some r → cond {A = Read (ℕ × List BoundName)} u (Ok (r.0, names)) (Err name_is_bound) ≡ Ok n → CreatesUniform names n
    again r true u h b =
        let own : (r.0, names) ≡ n = cc b in
        let l = find_flag 0 names f r h in
        let place : l.0 ≡ r.0 = omega (arith, l.1) in
        let in_it : r.0 < length (flags names) = omega (arith, place, l.2, flags_length names) in
        subst (CreatesUniform names) own
        (inr (ap (slice_get (flags names)) (sym place) ∙ l.3 ∙ ap (λ b. Some b) u), sym (ap (λ b. cond b (flags names) (flags names ++ true ∷ [])) (below r.0 (length (flags names)) in_it)), λ h. h)
    again r false u h b = absurd (cc b)

    by : (o : Option (ℕ × Bool)) → find_name 0 names f ≡ o → is_name f ≡ true → bound_at names f true o ≡ Ok n → CreatesUniform names n
    by None h is b =
        let own : (length names, names ++ record { text = f; by_uniform = true } ∷ []) ≡ n = cc b in
        let end : length names ≡ length (flags names) = sym (flags_length names) in
        subst (CreatesUniform names) own
        (inl end, flags_more names f true ∙ sym (ap (λ b. cond b (flags names) (flags names ++ true ∷ [])) (not_below (length names) (length (flags names)) end)), names_more names f true is h)
    by (Some r) h is b = again r r.1 refl h b
