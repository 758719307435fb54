-- The live uniform of a name: where it stands, and what changes of things do to names.
use Rattle.std.proofs.Common.{◌≡◌, ℕ, zero, suc, ◌+◌, ◌<◌, ◌≤◌, Bool, true, false, true≢false, ◌&&◌, if◌then◌else◌, List, [], ◌∷◌, ◌++◌, length, filter, Option, Some, None, IfSome, is_none, refl, sym, ap, ◌∙◌, subst, arith, slice_index_or, slice_set, option_map, eq-eqb}
use Rattle.std.specs.List.{AllByRecursion, find}
use Rattle.std.proofs.lemmas.Option.{none-some, same_Some}
use Rattle.std.proofs.lemmas.Slice.Eq.{bytes_eq-Decides}
use Rattle.gfx_model.specs.Words.{Kind, Handle, kind_number, greatest, uniform_kind}
use Rattle.gfx_model.specs.World.{Content, layout_content, vertex_content, index_content, texture_content, frame_buffer_content, program_content, uniform_content}
use Rattle.gfx_model.specs.Resources.{Thing, is_at, is_live, has_name, is_kept_death, is_kept_thing}
use Rattle.resource_laws.specs.Lawful.{count_where}
use Rattle.resource_laws.proofs.AttachLaws.{all_found, count_snoc}
use Rattle.store_laws.specs.Standing.{content_kind}
use Rattle.resource_book.specs.Names.{index_in, is_text}
use Rattle.resource_book.specs.Tables.{StandApart, IsOfKind, IsNamed, is_named, index_named, name_of, number_of}
use Rattle.resource_book.proofs.Apartness.{both_true, count_set, not_counted}
use Rattle.resource_book.proofs.Numbers.{IsNumber, number_found}
use Rattle.resource_book.proofs.Rooms.{found_true, none_counted, some_counted}
use Rattle.resource_book.proofs.Starts.{few_kept}

-- ---- the one thing of a test

one_step : (p q : Thing → Bool) (u : Thing) (us : List Thing) (t : Thing) (b c : Bool) → q u ≡ c → (if b then Some u else find p us) ≡ Some t → q t ≡ true → (if c then 1 else 0) + count_where q us ≤ 1
    → (find p us ≡ Some t → count_where q us ≤ 1 → find q us ≡ Some t) → (if c then Some u else find q us) ≡ Some t
one_step p q u us t true true s e h one f = e
one_step p q u us t true false s e h one f = absurd (true≢false (sym h ∙ ap q (sym (same_Some u t e)) ∙ s))
one_step p q u us t false true s e h one f = absurd (let c = some_counted q p us t e h in omega (arith, c, one))
one_step p q u us t false false s e h one f = f e (omega (arith, one))

-- what is found and passes a test that one thing passes is found by it
one_found : (p q : Thing → Bool) (ts : List Thing) (t : Thing) → find p ts ≡ Some t → q t ≡ true → count_where q ts ≤ 1 → find q ts ≡ Some t
one_found p q [] t e h one = absurd (none-some t e)
one_found p q (u ∷ us) t e h one = one_step p q u us t (p u) (q u) refl e h one (λ r less. one_found p q us t r h less)

number_again : (p q : Thing → Bool) (ts : List Thing) (t : Thing) (o : Option ℕ) → find p ts ≡ Some t → find q ts ≡ Some t → IsNumber q ts o → IsNumber p ts o
number_again p q ts t None is there h = absurd (none-some t (sym h ∙ there))
number_again p q ts t (Some n) is there h = (h.0, λ d. is ∙ sym there ∙ h.1 d)

-- ---- the place of a name's uniform

name_kind : (name : List ℕ) (c : Content) → has_name name c ≡ true → content_kind c ≡ uniform_kind
name_kind name (layout_content l) e = absurd cc
name_kind name (vertex_content l bytes) e = absurd cc
name_kind name (index_content bytes) e = absurd cc
name_kind name (texture_content f t) e = absurd cc
name_kind name (frame_buffer_content color depth) e = absurd cc
name_kind name (program_content k) e = absurd cc
name_kind name (uniform_content n v) e = refl

named_kind : (name : List ℕ) (t : Thing) → IsOfKind t → is_named name t ≡ true → t.handle.kind ≡ uniform_kind
named_kind name t k e = sym k ∙ name_kind name t.content (both_true (is_live t) (has_name name t.content) e).1

module _ (name : List ℕ) (ts : List Thing) (apart : StandApart ts) (kinds : AllByRecursion IsOfKind ts) where
  module _ (t : Thing) (is : find (is_named name) ts ≡ Some t) where
    kind : t.handle.kind ≡ uniform_kind
    kind = named_kind name t (all_found IsOfKind (is_named name) ts t kinds is) (found_true (is_named name) ts t is)

    below : t.handle.index < greatest uniform_kind
    below = subst (λ (k : Kind). t.handle.index < greatest k) kind (all_found (λ u. u.handle.index < greatest u.handle.kind) (is_named name) ts t apart.fits is)

    there : find (is_at uniform_kind t.handle.index) ts ≡ Some t
    there = one_found (is_named name) (is_at uniform_kind t.handle.index) ts t is
        (λ j. eq-eqb (kind_number t.handle.kind) (kind_number uniform_kind) (ap kind_number kind) j && eq-eqb t.handle.index t.handle.index refl j)
        (apart.once uniform_kind t.handle.index below)

  number_by : (o : Option Thing) (i : ℕ) → find (is_named name) ts ≡ o → Some i ≡ option_map (λ (t : Thing). t.handle.index) o → (i < greatest uniform_kind) × IsNumber (is_named name) ts (number_of (is_at uniform_kind i) ts)
  number_by None i is e = absurd (none-some i (sym e))
  number_by (Some t) i is e =
      let same : i ≡ t.handle.index = same_Some i t.handle.index e in (
        subst (λ n. n < greatest uniform_kind) (sym same) (below t is),
        number_again (is_named name) (is_at uniform_kind i) ts t (number_of (is_at uniform_kind i) ts) is (subst (λ n. find (is_at uniform_kind n) ts ≡ Some t) (sym same) (there t is)) (number_found (is_at uniform_kind i) ts),
      )

  -- the number at a name's index is that of its uniform
  pub named_number : (names : List (List ℕ × ℕ)) (i : ℕ) → IsNamed names ts → Some i ≡ index_in names name → (i < greatest uniform_kind) × IsNumber (is_named name) ts (number_of (is_at uniform_kind i) ts)
  named_number names i h e = number_by (find (is_named name) ts) i refl (e ∙ h.finds name)

no_index : (o : Option Thing) → None ≡ option_map (λ (t : Thing). t.handle.index) o → o ≡ None
no_index None e = refl
no_index (Some t) e = absurd (none-some t.handle.index e)

-- a name without an index is no live uniform's
pub named_none : (name : List ℕ) (ts : List Thing) (names : List (List ℕ × ℕ)) → IsNamed names ts → None ≡ index_in names name → find (is_named name) ts ≡ None
named_none name ts names h e = no_index (find (is_named name) ts) (e ∙ h.finds name)

-- ---- a thing more

snoc_other : (p : Thing → Bool) (ts : List Thing) (y : Thing) → p y ≡ false → find p (ts ++ y ∷ []) ≡ find p ts
snoc_other p [] y e = ap (λ b. if b then Some y else None) e
snoc_other p (t ∷ ts) y e = ap (λ o. if p t then Some t else o) (snoc_other p ts y e)

snoc_none : (p : Thing → Bool) (ts : List Thing) (y : Thing) → p y ≡ true → find p ts ≡ None → find p (ts ++ y ∷ []) ≡ Some y
snoc_none p [] y h e = ap (λ b. if b then Some y else None) h
snoc_none p (t ∷ ts) y h e = by (p t) e (snoc_none p ts y h) where
  by : (b : Bool) → (if b then Some t else find p ts) ≡ None → (find p ts ≡ None → find p (ts ++ y ∷ []) ≡ Some y) → (if b then Some t else find p (ts ++ y ∷ [])) ≡ Some y
  by true r f = absurd (none-some t (sym r))
  by false r f = f r

name_is_text : (name : List ℕ) (c : Content) → has_name name c ≡ is_text name (name_of c)
name_is_text name (layout_content l) = refl
name_is_text name (vertex_content l bytes) = refl
name_is_text name (index_content bytes) = refl
name_is_text name (texture_content f t) = refl
name_is_text name (frame_buffer_content color depth) = refl
name_is_text name (program_content k) = refl
name_is_text name (uniform_content n v) = refl

unused_text : (name : List ℕ) (ts : List Thing) (text : Option (List ℕ)) → is_text name text ≡ true → IfSome text (λ n. find (is_named n) ts ≡ None) → find (is_named name) ts ≡ None
unused_text name ts None e h = absurd (true≢false (sym e))
unused_text name ts (Some n) e h = subst (λ m. find (is_named m) ts ≡ None) ((bytes_eq-Decides n name).0 e) h

module _ (names new : List (List ℕ × ℕ)) (ts : List Thing) (y : Thing) (text : Option (List ℕ)) (index : ℕ) (h : IsNamed names ts) (lives : y.death ≡ None) (same : text ≡ name_of y.content)
    (unused : IfSome text (λ n. find (is_named n) ts ≡ None)) (at : index ≡ y.handle.index) (after : (name : List ℕ) → index_in new name ≡ (if is_text name text then Some index else index_in names name)) where
  passes : (name : List ℕ) → is_named name y ≡ is_text name text
  passes name = λ j. is_none (lives j) && (name_is_text name y.content ∙ ap (is_text name) (sym same)) j

  finds_by : (name : List ℕ) (b : Bool) → is_text name text ≡ b → (if b then Some index else index_in names name) ≡ index_named name (ts ++ y ∷ [])
  finds_by name true e = ap Some at ∙ sym (ap (option_map (λ (t : Thing). t.handle.index)) (snoc_none (is_named name) ts y (passes name ∙ e) (unused_text name ts text e unused)))
  finds_by name false e = h.finds name ∙ sym (ap (option_map (λ (t : Thing). t.handle.index)) (snoc_other (is_named name) ts y (passes name ∙ e)))

  once_by : (name : List ℕ) (b : Bool) → is_text name text ≡ b → count_where (is_named name) ts + (if b then 1 else 0) ≤ 1
  once_by name true e = let c = not_counted (is_named name) ts (unused_text name ts text e unused) in omega (arith, c)
  once_by name false e = let c = h.once name in omega (arith, c)

  pub named_more : IsNamed new (ts ++ y ∷ [])
  named_more = record {
    finds = λ name. after name ∙ finds_by name (is_text name text) refl;
    once = λ name. subst (λ n. n ≤ 1) (sym (count_snoc (is_named name) ts y ∙ ap (λ (b : Bool). count_where (is_named name) ts + (if b then 1 else 0)) (passes name))) (once_by name (is_text name text) refl);
  }

-- ---- a thing in place of another

index_set : (p : Thing → Bool) (ts : List Thing) (n : ℕ) (y d : Thing) → p y ≡ p (slice_index_or ts n d) → y.handle.index ≡ (slice_index_or ts n d).handle.index
    → option_map (λ (t : Thing). t.handle.index) (find p (slice_set ts n y)) ≡ option_map (λ (t : Thing). t.handle.index) (find p ts)
index_set p [] n y d e i = refl
index_set p (t ∷ ts) zero y d e i = ap (λ b. option_map (λ (u : Thing). u.handle.index) (if b then Some y else find p ts)) e ∙ by (p t) where
  by : (b : Bool) → option_map (λ (u : Thing). u.handle.index) (if b then Some y else find p ts) ≡ option_map (λ (u : Thing). u.handle.index) (if b then Some t else find p ts)
  by true = ap Some i
  by false = refl
index_set p (t ∷ ts) (suc n) y d e i = by (p t) (index_set p ts n y d e i) where
  by : (b : Bool) → option_map (λ (u : Thing). u.handle.index) (find p (slice_set ts n y)) ≡ option_map (λ (u : Thing). u.handle.index) (find p ts)
      → option_map (λ (u : Thing). u.handle.index) (if b then Some t else find p (slice_set ts n y)) ≡ option_map (λ (u : Thing). u.handle.index) (if b then Some t else find p ts)
  by true r = refl
  by false r = r

-- a thing with another number of references
module _ (names : List (List ℕ × ℕ)) (ts : List Thing) (n : ℕ) (y d : Thing) (lt : n < length ts) (handle : y.handle ≡ (slice_index_or ts n d).handle) (death : y.death ≡ (slice_index_or ts n d).death) (content : y.content ≡ (slice_index_or ts n d).content)
    (h : IsNamed names ts) where
  named_as : (name : List ℕ) → is_named name y ≡ is_named name (slice_index_or ts n d)
  named_as name = λ j. is_none (death j) && has_name name (content j)

  pub named_kept : IsNamed names (slice_set ts n y)
  named_kept = record {
    finds = λ name. h.finds name ∙ sym (index_set (is_named name) ts n y d (named_as name) (ap (λ (g : Handle). g.index) handle));
    once = λ name. subst (λ m. m ≤ 1) (sym (count_set (is_named name) ts n y d lt (named_as name))) (h.once name);
  }

count_changed : (q : Thing → Bool) (ts : List Thing) (n : ℕ) (y d : Thing) → n < length ts → count_where q (slice_set ts n y) + (if q (slice_index_or ts n d) then 1 else 0) ≡ count_where q ts + (if q y then 1 else 0)
count_changed q [] n y d lt = absurd (omega (arith, lt))
count_changed q (t ∷ ts) zero y d lt = omega arith
count_changed q (t ∷ ts) (suc n) y d lt = let e = count_changed q ts n y d (omega (arith, lt)) in omega (arith, e)

and_false : (b : Bool) → b && false ≡ false
and_false true = refl
and_false false = refl

-- a thing that dies has no name any more
module _ (names new : List (List ℕ × ℕ)) (ts : List Thing) (n : ℕ) (y d : Thing) (lt : n < length ts) (h : IsNamed names ts) (handle : y.handle ≡ (slice_index_or ts n d).handle) (dead : is_live y ≡ false)
    (lives : (slice_index_or ts n d).death ≡ None) (after : (name : List ℕ) → index_in new name ≡ (if has_name name (slice_index_or ts n d).content then None else index_in names name)) where
  out : (name : List ℕ) → is_named name y ≡ false
  out name = ap (λ b. b && has_name name y.content) dead

  count_out : (name : List ℕ) → count_where (is_named name) (slice_set ts n y) + (if is_named name (slice_index_or ts n d) then 1 else 0) ≡ count_where (is_named name) ts
  count_out name =
      let none : (if is_named name y then 1 else 0) ≡ zero = ap (λ (b : Bool). if b then 1 else 0) (out name) in
      let c = count_changed (is_named name) ts n y d lt in
      omega (arith, c, none)

  gone : (name : List ℕ) → is_named name (slice_index_or ts n d) ≡ true → find (is_named name) (slice_set ts n y) ≡ None
  gone name e = none_counted (is_named name) (slice_set ts n y)
      (let one : (if is_named name (slice_index_or ts n d) then 1 else 0) ≡ suc 0 = ap (λ (b : Bool). if b then 1 else 0) e in
      let c = count_out name in
      let o = h.once name in
      omega (arith, one, c, o))

  finds_dead : (name : List ℕ) (b : Bool) → has_name name (slice_index_or ts n d).content ≡ b → (if b then None else index_in names name) ≡ index_named name (slice_set ts n y)
  finds_dead name true e = sym (ap (option_map (λ (t : Thing). t.handle.index)) (gone name (λ j. is_none (lives j) && e j)))
  finds_dead name false e = h.finds name ∙ sym (index_set (is_named name) ts n y d (out name ∙ sym ((λ j. is_live (slice_index_or ts n d) && e j) ∙ and_false (is_live (slice_index_or ts n d)))) (ap (λ (g : Handle). g.index) handle))

  pub named_dead : IsNamed new (slice_set ts n y)
  named_dead = record {
    finds = λ name. after name ∙ finds_dead name (has_name name (slice_index_or ts n d).content) refl;
    once = λ name. let c = count_out name in let o = h.once name in omega (arith, c, o);
  }

-- ---- things that a frame's start keeps

kept_step : (p q : Thing → Bool) (t : Thing) (ts : List Thing) (b c : Bool) → p t ≡ b → q t ≡ c → (p t ≡ true → q t ≡ true) → find p (filter q ts) ≡ find p ts → find p (if c then t ∷ filter q ts else filter q ts) ≡ (if b then Some t else find p ts)
kept_step p q t ts b true e s f r = ap (λ o. if p t then Some t else o) r ∙ ap (λ a. if a then Some t else find p ts) e
kept_step p q t ts true false e s f r = absurd (true≢false (sym (f e) ∙ s))
kept_step p q t ts false false e s f r = r

found_kept : (p q : Thing → Bool) (ts : List Thing) → ((t : Thing) → p t ≡ true → q t ≡ true) → find p (filter q ts) ≡ find p ts
found_kept p q [] f = refl
found_kept p q (t ∷ ts) f = kept_step p q t ts (p t) (q t) refl refl (f t) (found_kept p q ts f)

live_kept : (latency frame : ℕ) (o : Option ℕ) → is_none o ≡ true → is_kept_death latency frame o ≡ true
live_kept latency frame None e = refl
live_kept latency frame (Some death) e = absurd (true≢false (sym e))

-- all that live are kept
pub named_started : (latency frame : ℕ) (names : List (List ℕ × ℕ)) (ts : List Thing) → IsNamed names ts → IsNamed names (filter (is_kept_thing latency frame) ts)
named_started latency frame names ts h = record {
  finds = λ name. h.finds name ∙ sym (ap (option_map (λ (t : Thing). t.handle.index)) (found_kept (is_named name) (is_kept_thing latency frame) ts (λ t e. live_kept latency frame t.death (both_true (is_live t) (has_name name t.content) e).0)));
  once = λ name. let f = few_kept (is_named name) (is_kept_thing latency frame) ts in let o = h.once name in omega (arith, f, o);
}
