-- Rows as the things that they are.
use Rattle.std.proofs.Common.{◌≡◌, ℕ, ◌<◌, List, [], ◌∷◌, ◌++◌, length, map, take, ◌+◌, ◌≤◌, if◌then◌else◌, refl, sym, ap, ◌∙◌, subst, arith, slice_index_or, slice_set, option_map, Vec, Global, Option, Some, None, IfSome}
use Rattle.std.proofs.lemmas.List.{get_or-map, map-set, map-append, length-map, length-set, take_more}
use Rattle.std.proofs.lemmas.List.Sums.{sum_by_push, sum_by-set}
use Rattle.std.specs.List.{find}
use Rattle.gfx_model.specs.Words.{greatest, place_of_handle}
use Rattle.gfx_model.specs.Resources.{Thing, is_at, has_name, with_death, texel_count}
use Rattle.resource_laws.specs.Bare.{bare}
use Rattle.resource_book.specs.declared.rows.Row.{Row}
use Rattle.resource_book.specs.Seen.{row_seen, rows_seen}
use Rattle.resource_book.specs.Names.{index_in, is_text}
use Rattle.resource_book.specs.Tables.{IsPlaced, IsTable, IsNamed, StandApart, IsOfKind, is_named, name_of, texels_of, place_count}
use Rattle.resource_book.proofs.BareLaws.{rows_bare}
use Rattle.resource_book.proofs.Numbers.{placed_changed, placed_more}
use Rattle.resource_book.proofs.Apartness.{all_set, all_here, apart_set, apart_more, kind_kept}
use Rattle.resource_book.proofs.Named.{named_more, named_kept, named_dead}
use Rattle.resource_laws.proofs.AttachLaws.{all_snoc}
use Rattle.std.specs.List.{AllByRecursion}

pub within : (rows : List Row) (ts : List Thing) (n : ℕ) → rows_seen rows ≡ ts → n < length ts → n < length rows
within rows ts n e lt = omega (arith, lt, ap length e, length-map rows row_seen)

-- the thing of a row's number
pub thing_at : (rows : List Row) (ts : List Thing) (n : ℕ) (r : Row) (d : Thing) → rows_seen rows ≡ ts → n < length ts → r ≡ slice_index_or rows n r → slice_index_or ts n d ≡ row_seen r
thing_at rows ts n r d e lt is = ap (λ xs. slice_index_or xs n d) (sym e) ∙ get_or-map row_seen rows n r d (within rows ts n e lt) ∙ ap row_seen (sym is)

pub rows_changed : (f : Thing → Thing) (rows : List Row) (ts : List Thing) (n : ℕ) (r new : Row) (d : Thing) → rows_seen rows ≡ ts → n < length ts → r ≡ slice_index_or rows n r → row_seen new ≡ f (row_seen r)
    → rows_seen (slice_set rows n new) ≡ slice_set ts n (f (slice_index_or ts n d))
rows_changed f rows ts n r new d e lt is same =
    map-set row_seen rows n new ∙ (λ j. slice_set (e j) n ((same ∙ ap f (sym (thing_at rows ts n r d e lt is))) j))

pub bare_rows : (rows : List Row) (ts : List Thing) → rows_seen rows ≡ ts → map bare ts ≡ ts
bare_rows rows ts e = ap (map bare) (sym e) ∙ rows_bare rows ∙ e

pub placed_rows : (f : Thing → Thing) (places : List (Option ℕ)) (rows : List Row) (n : ℕ) (r new : Row) → ((t : Thing) → (f t).handle ≡ t.handle) → IsPlaced places (rows_seen rows) → n < length rows → r ≡ slice_index_or rows n r
    → row_seen new ≡ f (row_seen r) → IsPlaced places (rows_seen (slice_set rows n new))
placed_rows f places rows n r new keeps h lt is same =
    subst (IsPlaced places) (sym (map-set row_seen rows n new))
    (placed_changed places (rows_seen rows) n (row_seen new) (row_seen r) (omega (arith, lt, length-map rows row_seen))
    (ap (λ (t : Thing). t.handle) same ∙ keeps (row_seen r) ∙ ap (λ (t : Thing). t.handle) (sym (thing_at rows (rows_seen rows) n r (row_seen r) refl (omega (arith, lt, length-map rows row_seen)) is)))
    h)

pub placed_row : (places : List (Option ℕ)) (rows new : List Row) (ts : List Thing) (r : Row) (place n : ℕ) → IsPlaced places (rows_seen rows) → rows_seen rows ≡ ts → r.handle.index < greatest r.handle.kind → find (is_at r.handle.kind r.handle.index) ts ≡ None
    → place ≡ place_of_handle r.handle → n ≡ length rows → new ≡ rows ++ r ∷ [] → IsPlaced (slice_set places place (Some n)) (rows_seen new)
placed_row places rows new ts r place n h e below none at is made =
    let more = placed_more places (rows_seen rows) (row_seen r) h below (ap (find (is_at r.handle.kind r.handle.index)) e ∙ none) in
    let list : rows_seen rows ++ row_seen r ∷ [] ≡ rows_seen new = sym (ap rows_seen made ∙ map-append row_seen rows (r ∷ [])) in
    subst (λ (xs : List Thing). IsPlaced (slice_set places place (Some n)) xs) list
    (subst (λ (m : ℕ). IsPlaced (slice_set places m (Some n)) (rows_seen rows ++ row_seen r ∷ [])) (sym at)
    (subst (λ (m : ℕ). IsPlaced (slice_set places (place_of_handle r.handle) (Some m)) (rows_seen rows ++ row_seen r ∷ [])) (length-map rows row_seen ∙ sym is) more))

-- ---- texels

pub rows_few : (rows : List Row) (ts : List Thing) → rows_seen rows ≡ ts → length ts ≤ place_count → length rows ≤ place_count
rows_few rows ts e le = omega (arith, le, ap length e, length-map rows row_seen)

pub sum_more : (texels : ℕ) (rows : List Row) (r : Row) (new : List Row) → texels ≡ texels_of (rows_seen rows) → new ≡ rows ++ r ∷ [] → texels + texel_count (row_seen r).content ≡ texels_of (rows_seen new)
sum_more texels rows r new e made =
    sym (ap (λ rs. texels_of (rows_seen rs)) made ∙ ap texels_of (map-append row_seen rows (r ∷ [])) ∙ sum_by_push (λ t. texel_count t.content) (rows_seen rows) (row_seen r) ∙ ap (λ n. n + texel_count (row_seen r).content) (sym e))

-- ---- names

-- a row with another number of references
pub named_row : (f : Thing → Thing) (names : List (List ℕ × ℕ)) (rows : List Row) (n : ℕ) (r new : Row) → ((t : Thing) → (f t).handle ≡ t.handle) → ((t : Thing) → (f t).death ≡ t.death) → ((t : Thing) → (f t).content ≡ t.content) → IsNamed names (rows_seen rows) → n < length rows
    → r ≡ slice_index_or rows n r → row_seen new ≡ f (row_seen r) → IsNamed names (rows_seen (slice_set rows n new))
named_row f names rows n r new handle death content h lt is e =
    let low : n < length (rows_seen rows) = omega (arith, lt, length-map rows row_seen) in
    let at = sym (thing_at rows (rows_seen rows) n r (row_seen r) refl low is) in
    subst (IsNamed names) (sym (map-set row_seen rows n new))
    (named_kept names (rows_seen rows) n (row_seen new) (row_seen r) low
    (ap (λ (t : Thing). t.handle) e ∙ handle (row_seen r) ∙ ap (λ (t : Thing). t.handle) at)
    (ap (λ (t : Thing). t.death) e ∙ death (row_seen r) ∙ ap (λ (t : Thing). t.death) at)
    (ap (λ (t : Thing). t.content) e ∙ content (row_seen r) ∙ ap (λ (t : Thing). t.content) at)
    h)

-- a row that dies
pub dead_row : (death : ℕ) (names now : List (List ℕ × ℕ)) (rows : List Row) (ts : List Thing) (n : ℕ) (r new : Row) → rows_seen rows ≡ ts → IsNamed names (rows_seen rows) → n < length rows → r ≡ slice_index_or rows n r → row_seen new ≡ with_death death (row_seen r)
    → ((d : Thing) → (slice_index_or ts n d).death ≡ None) → ((name : List ℕ) → index_in now name ≡ (if has_name name (row_seen r).content then None else index_in names name)) → IsNamed now (rows_seen (slice_set rows n new))
dead_row death names now rows ts n r new seen h lt is e lives after =
    let low : n < length (rows_seen rows) = omega (arith, lt, length-map rows row_seen) in
    let at = sym (thing_at rows (rows_seen rows) n r (row_seen r) refl low is) in
    subst (IsNamed now) (sym (map-set row_seen rows n new))
    (named_dead names now (rows_seen rows) n (row_seen new) (row_seen r) low h
    (ap (λ (t : Thing). t.handle) e ∙ ap (λ (t : Thing). t.handle) at)
    (ap (λ (t : Thing). Rattle.gfx_model.specs.Resources.is_live t) e)
    (subst (λ (us : List Thing). (slice_index_or us n (row_seen r)).death ≡ None) (sym seen) (lives (row_seen r)))
    (λ name. after name ∙ ap (λ (t : Thing). if has_name name t.content then None else index_in names name) at))

-- a thing in place of one with as many texels
pub table_rows : (f : Thing → Thing) (places : List (Option ℕ)) (names now : List (List ℕ × ℕ)) (texels : ℕ) (rows : List Row) (n : ℕ) (r new : Row) → ((t : Thing) → (f t).handle ≡ t.handle) → ((t : Thing) → (f t).content ≡ t.content) → IsTable places names texels (rows_seen rows) → n < length rows
    → r ≡ slice_index_or rows n r → row_seen new ≡ f (row_seen r) → IsNamed now (rows_seen (slice_set rows n new)) → IsTable places now texels (rows_seen (slice_set rows n new))
table_rows f places names now texels rows n r new keeps same h lt is e named = record {
  placed = placed_rows f places rows n r new keeps h.placed lt is e;
  apart = subst StandApart (sym (map-set row_seen rows n new))
      (apart_set (rows_seen rows) n (row_seen new) (row_seen r) (omega (arith, lt, length-map rows row_seen))
      (ap (λ (t : Thing). t.handle) e ∙ keeps (row_seen r) ∙ ap (λ (t : Thing). t.handle) (sym (thing_at rows (rows_seen rows) n r (row_seen r) refl (omega (arith, lt, length-map rows row_seen)) is)))
      h.apart);
  kinds =
      let at = thing_at rows (rows_seen rows) n r (row_seen r) refl (omega (arith, lt, length-map rows row_seen)) is in
      let old : IsOfKind (row_seen r) = subst IsOfKind at (all_here IsOfKind (rows_seen rows) n (row_seen r) (omega (arith, lt, length-map rows row_seen)) h.kinds) in
      subst (AllByRecursion IsOfKind) (sym (map-set row_seen rows n new))
      (all_set IsOfKind (rows_seen rows) n (row_seen new) h.kinds (kind_kept (row_seen new) (row_seen r) (ap (λ (t : Thing). t.handle) e ∙ keeps (row_seen r)) (ap (λ (t : Thing). t.content) e ∙ same (row_seen r)) old));
  named = named;
  sum =
      let lt' : n < length (rows_seen rows) = omega (arith, lt, length-map rows row_seen) in
      let s = sum_by-set (λ (t : Thing). texel_count t.content) (rows_seen rows) n (row_seen new) (row_seen r) lt' in
      let at : texel_count (slice_index_or (rows_seen rows) n (row_seen r)).content ≡ texel_count (row_seen r).content = ap (λ (t : Thing). texel_count t.content) (thing_at rows (rows_seen rows) n r (row_seen r) refl lt' is) in
      let own : texel_count (row_seen new).content ≡ texel_count (row_seen r).content = ap texel_count (ap (λ (t : Thing). t.content) e ∙ same (row_seen r)) in
      let mid : texels_of (rows_seen rows) ≡ texels_of (slice_set (rows_seen rows) n (row_seen new)) = omega (arith, s, at, own) in
      h.sum ∙ mid ∙ ap texels_of (sym (map-set row_seen rows n new));
  most = let a = h.most in let b = length-map rows row_seen in let c = length-map (slice_set rows n new) row_seen in let d = length-set rows n new in omega (arith, a, b, c, d);
}

pub sum_next : (rows : List Row) (i : ℕ) (r : Row) → i < length rows → r ≡ slice_index_or rows i r → texels_of (rows_seen (take i rows)) + texel_count (row_seen r).content ≡ texels_of (rows_seen (take (i + 1) rows))
sum_next rows i r lt is = sum_more (texels_of (rows_seen (take i rows))) (take i rows) r (take (i + 1) rows) refl (take_more rows i r lt ∙ (λ j. take i rows ++ sym is j ∷ []))

-- ---- a row more

pub rows_more : (rows new : List Row) (r : Row) → new ≡ rows ++ r ∷ [] → rows_seen rows ++ row_seen r ∷ [] ≡ rows_seen new
rows_more rows new r made = sym (ap rows_seen made ∙ map-append row_seen rows (r ∷ []))

pub apart_row : (rows new : List Row) (ts : List Thing) (r : Row) → rows_seen rows ≡ ts → StandApart (rows_seen rows) → r.handle.index < greatest r.handle.kind → find (is_at r.handle.kind r.handle.index) ts ≡ None → new ≡ rows ++ r ∷ [] → StandApart (rows_seen new)
apart_row rows new ts r e apart below none made = subst StandApart (rows_more rows new r made) (apart_more (rows_seen rows) (row_seen r) below (ap (find (is_at r.handle.kind r.handle.index)) e ∙ none) apart)

pub kinds_row : (rows new : List Row) (r : Row) → AllByRecursion IsOfKind (rows_seen rows) → IsOfKind (row_seen r) → new ≡ rows ++ r ∷ [] → AllByRecursion IsOfKind (rows_seen new)
kinds_row rows new r kinds kind made = subst (AllByRecursion IsOfKind) (rows_more rows new r made) (all_snoc IsOfKind (rows_seen rows) (row_seen r) kinds kind)

pub named_rows : (names now : List (List ℕ × ℕ)) (rows new : List Row) (ts : List Thing) (r : Row) (name : Option (Vec ℕ Global)) (index : ℕ) → rows_seen rows ≡ ts → IsNamed names (rows_seen rows) → r.death ≡ None → option_map (λ v. v.items) name ≡ name_of (row_seen r).content
    → IfSome name (λ v. find (is_named v.items) ts ≡ None) → index ≡ r.handle.index → ((other : List ℕ) → index_in now other ≡ (if is_text other (option_map (λ v. v.items) name) then Some index else index_in names other)) → new ≡ rows ++ r ∷ [] → IsNamed now (rows_seen new)
named_rows names now rows new ts r name index e h lives same unused at after made = subst (IsNamed now) (rows_more rows new r made)
    (named_more names now (rows_seen rows) (row_seen r) (option_map (λ v. v.items) name) index h lives same (by name unused) at after) where
      by : (name : Option (Vec ℕ Global)) → IfSome name (λ v. find (is_named v.items) ts ≡ None) → IfSome (option_map (λ v. v.items) name) (λ text. find (is_named text) (rows_seen rows) ≡ None)
      by None u = tt
      by (Some v) u = ap (find (is_named v.items)) e ∙ u
