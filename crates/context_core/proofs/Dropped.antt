-- A thing whose death is over is dropped, and its place freed.
use Rattle.std.proofs.Common.{◌≡◌, ◌≢◌, ℕ, zero, suc, ◌+◌, ◌<◌, ◌≤◌, Bool, true, false, if◌then◌else◌, List, [], ◌∷◌, ◌++◌, filter, take, drop, length, Some, None, refl, sym, ap, ◌∙◌, subst, arith, slice_set, slice_index_or, append_assoc}
use Rattle.std.specs.List.{find, AllByRecursion}
use Rattle.std.proofs.lemmas.List.{append-nil, map-append, drop_more, take_more, take-append-drop}
use Rattle.std.proofs.lemmas.List.Elements.{filter-append}
use Rattle.resource_book.specs.declared.rows.Row.{Row}
use Rattle.resource_book.specs.Seen.{row_seen, rows_seen}
use mathlib.Core.Logic.{dite}
use native.Mathlib.Decide.{ℕ_discrete}
use Rattle.gfx_model.specs.Words.{Kind, greatest, first_place, place_of_handle}
use Rattle.gfx_model.specs.Resources.{Thing, is_at}
use Rattle.schedule_model.specs.Machine.{Place, free, place_at}
use Rattle.hold_table.proofs.PlaceLaws.{place-set, place-else}
use Rattle.resource_laws.specs.Lawful.{count_where}
use Rattle.gfx_model.proofs.Apart.{kind_apart, index_apart, place_below}
use Rattle.context_core.specs.Places.{place_of, IsPlaced}
use Rattle.context_core.proofs.Tied.{found_behind, none_from_count, at_place, not_true, at_again, itself}

pub count_append : {A : Type 0} (p : A → Bool) (xs ys : List A) → count_where p (xs ++ ys) ≡ count_where p xs + count_where p ys
count_append p [] ys = omega arith
count_append p (x ∷ xs) ys = let h = count_append p xs ys in omega arith

filter_step : (p q : Thing → Bool) (t : Thing) (ts : List Thing) (b : Bool) → q t ≡ b → count_where p (filter q ts) ≤ count_where p ts → count_where p (filter q (t ∷ ts)) ≤ count_where p (t ∷ ts)
filter_step p q t ts true e h = subst (λ (xs : List Thing). count_where p xs ≤ count_where p (t ∷ ts)) (sym (ap (λ c. if c then t ∷ filter q ts else filter q ts) e)) (omega (arith, h))
filter_step p q t ts false e h = subst (λ (xs : List Thing). count_where p xs ≤ count_where p (t ∷ ts)) (sym (ap (λ c. if c then t ∷ filter q ts else filter q ts) e)) (omega (arith, h))

pub count_filter : (p q : Thing → Bool) (ts : List Thing) → count_where p (filter q ts) ≤ count_where p ts
count_filter p q [] = omega arith
count_filter p q (t ∷ ts) = filter_step p q t ts (q t) refl (count_filter p q ts)

module _ (places : List Place) (front behind : List Thing) (t : Thing) (placed : IsPlaced places (front ++ t ∷ behind)) (many : length places ≡ 3776) (lt : t.handle.index < greatest t.handle.kind)
    (alone : count_where (is_at t.handle.kind t.handle.index) (front ++ t ∷ behind) ≤ 1) where
  one : (if is_at t.handle.kind t.handle.index t then 1 else 0) ≡ suc 0
  one = ap (λ (b : Bool). if b then 1 else 0) (itself t)

  front_none : count_where (is_at t.handle.kind t.handle.index) front ≡ 0
  front_none = omega (arith, alone, one, count_append (is_at t.handle.kind t.handle.index) front (t ∷ behind))

  behind_none : count_where (is_at t.handle.kind t.handle.index) behind ≡ 0
  behind_none = omega (arith, alone, one, count_append (is_at t.handle.kind t.handle.index) front (t ∷ behind))

  -- the place is the thing's
  pub place_there : place_at places (place_of_handle t.handle) ≡ place_of (Some t)
  place_there = placed t.handle.kind t.handle.index lt
      ∙ ap place_of (found_behind (is_at t.handle.kind t.handle.index) front (t ∷ behind) (none_from_count (is_at t.handle.kind t.handle.index) front front_none) ∙ ap (λ c. if c then Some t else find (is_at t.handle.kind t.handle.index) behind) (itself t))

  pub placed_without : IsPlaced (slice_set places (place_of_handle t.handle) free) (front ++ behind)
  placed_without m j l = dite (ℕ_discrete (first_place m + j) (place_of_handle t.handle))
      (λ (e : first_place m + j ≡ place_of_handle t.handle).
      let kinds = kind_apart t.handle.kind m t.handle.index j lt l (sym e) in
      let indices = index_apart t.handle.kind m t.handle.index j lt l (sym e) in
      let none : find (is_at m j) front ≡ None = none_from_count (is_at m j) front (sym (at_again t.handle.kind m t.handle.index j kinds indices front) ∙ front_none) in
      let rest : find (is_at m j) behind ≡ None = none_from_count (is_at m j) behind (sym (at_again t.handle.kind m t.handle.index j kinds indices behind) ∙ behind_none) in
      ap (place_at (slice_set places (place_of_handle t.handle) free)) e ∙ place-set places (place_of_handle t.handle) free (omega (arith, many, place_below t.handle.kind t.handle.index lt))
      ∙ sym (ap place_of (found_behind (is_at m j) front behind none ∙ rest)))
      (λ (ne : first_place m + j ≢ place_of_handle t.handle).
      let not_here : is_at m j t ≡ false = not_true (is_at m j t) (λ e. ne (at_place m j t e)) in
      place-else places (place_of_handle t.handle) (first_place m + j) free ne ∙ placed m j l
      ∙ ap place_of (skipped m j front not_here)) where
        skipped : (m : Kind) (j : ℕ) (front : List Thing) → is_at m j t ≡ false → find (is_at m j) (front ++ t ∷ behind) ≡ find (is_at m j) (front ++ behind)
        skipped m j [] n = ap (λ c. if c then Some t else find (is_at m j) behind) n
        skipped m j (x ∷ xs) n = ap (λ o. if is_at m j x then Some x else o) (skipped m j xs n)

turn_by : (keep : Thing → Bool) (b : Bool) (places new : List Place) (xs ys : List Thing) (t : Thing) → keep t ≡ b → IsPlaced places (filter keep xs ++ t ∷ ys) → length places ≡ 3776 → t.handle.index < greatest t.handle.kind
    → count_where (is_at t.handle.kind t.handle.index) (filter keep xs ++ t ∷ ys) ≤ 1 → new ≡ (if b then places else slice_set places (place_of_handle t.handle) free)
    → IsPlaced new (filter keep (xs ++ t ∷ []) ++ ys)
turn_by keep true places new xs ys t e h many lt alone is =
    let lists : filter keep xs ++ t ∷ ys ≡ filter keep (xs ++ t ∷ []) ++ ys = sym (append_assoc (filter keep xs) (t ∷ []) ys) ∙ (λ j. (filter keep xs ++ (if sym e j then t ∷ [] else [])) ++ ys) ∙ ap (λ l. l ++ ys) (sym (filter-append keep xs (t ∷ []))) in
    subst (λ (p : List Place × List Thing). IsPlaced p.0 p.1) (λ j. (sym is j, lists j)) h
turn_by keep false places new xs ys t e h many lt alone is =
    let lists : filter keep xs ++ ys ≡ filter keep (xs ++ t ∷ []) ++ ys = ap (λ l. l ++ ys) (sym (append-nil (filter keep xs)) ∙ (λ j. filter keep xs ++ (if sym e j then t ∷ [] else [])) ∙ sym (filter-append keep xs (t ∷ []))) in
    subst (λ (p : List Place × List Thing). IsPlaced p.0 p.1) (λ j. (sym is j, lists j)) (placed_without places (filter keep xs) ys t h many lt alone)

-- ---- the same of rows

pub row_all : (P : Thing → Type 0) (rows : List Row) (i : ℕ) (d : Row) → AllByRecursion P (rows_seen rows) → i < length rows → P (row_seen (slice_index_or rows i d))
row_all P [] i d a lt = absurd (omega (arith, lt))
row_all P (x ∷ xs) zero d a lt = a.0
row_all P (x ∷ xs) (suc i) d a lt = row_all P xs i d a.1 (omega (arith, lt))

rest_is : (rows : List Row) (i : ℕ) (r : Row) → i < length rows → r ≡ slice_index_or rows i r → rows_seen (drop i rows) ≡ row_seen r ∷ rows_seen (drop (i + 1) rows)
rest_is rows i r lt e = ap rows_seen (drop_more rows i r lt) ∙ (λ j. row_seen (sym e j) ∷ rows_seen (drop (i + 1) rows))

front_is : (rows : List Row) (i : ℕ) (r : Row) → i < length rows → r ≡ slice_index_or rows i r → rows_seen (take (i + 1) rows) ≡ rows_seen (take i rows) ++ row_seen r ∷ []
front_is rows i r lt e = ap rows_seen (take_more rows i r lt) ∙ map-append row_seen (take i rows) (slice_index_or rows i r ∷ []) ∙ (λ j. rows_seen (take i rows) ++ row_seen (sym e j) ∷ [])

alone_turn : (keep p : Thing → Bool) (rows : List Row) (i : ℕ) → count_where p (rows_seen rows) ≤ 1 → count_where p (filter keep (rows_seen (take i rows)) ++ rows_seen (drop i rows)) ≤ 1
alone_turn keep p rows i le =
    let all : count_where p (rows_seen rows) ≡ count_where p (rows_seen (take i rows)) + count_where p (rows_seen (drop i rows)) =
    ap (λ l. count_where p (rows_seen l)) (sym (take-append-drop i rows)) ∙ ap (count_where p) (map-append row_seen (take i rows) (drop i rows)) ∙ count_append p (rows_seen (take i rows)) (rows_seen (drop i rows)) in
    omega (arith, le, all, count_append p (filter keep (rows_seen (take i rows))) (rows_seen (drop i rows)), count_filter p keep (rows_seen (take i rows)))

module _ (keep : Thing → Bool) (rows : List Row) (i : ℕ) (r : Row) (lt : i < length rows) (e : r ≡ slice_index_or rows i r) (places : List Place) (many : length places ≡ 3776)
    (placed : IsPlaced places (filter keep (rows_seen (take i rows)) ++ rows_seen (drop i rows))) (fits : AllByRecursion (λ t. t.handle.index < greatest t.handle.kind) (rows_seen rows))
    (alone : (k : Kind) (index : ℕ) → index < greatest k → count_where (is_at k index) (rows_seen rows) ≤ 1) where
  fits_here : r.handle.index < greatest r.handle.kind
  fits_here = subst (λ (x : Row). x.handle.index < greatest x.handle.kind) (sym e) (row_all (λ t. t.handle.index < greatest t.handle.kind) rows i r fits lt)

  placed_here : IsPlaced places (filter keep (rows_seen (take i rows)) ++ row_seen r ∷ rows_seen (drop (i + 1) rows))
  placed_here = subst (λ (l : List Thing). IsPlaced places (filter keep (rows_seen (take i rows)) ++ l)) (rest_is rows i r lt e) placed

  alone_here : count_where (is_at r.handle.kind r.handle.index) (filter keep (rows_seen (take i rows)) ++ row_seen r ∷ rows_seen (drop (i + 1) rows)) ≤ 1
  alone_here = subst (λ (l : List Thing). count_where (is_at r.handle.kind r.handle.index) (filter keep (rows_seen (take i rows)) ++ l) ≤ 1) (rest_is rows i r lt e)
      (alone_turn keep (is_at r.handle.kind r.handle.index) rows i (alone r.handle.kind r.handle.index fits_here))

  pub place_here : place_at places (place_of_handle r.handle) ≡ place_of (Some (row_seen r))
  place_here = place_there places (filter keep (rows_seen (take i rows))) (rows_seen (drop (i + 1) rows)) (row_seen r) placed_here many fits_here alone_here

  pub placed_next : (new : List Place) → new ≡ (if keep (row_seen r) then places else slice_set places (place_of_handle r.handle) free)
      → IsPlaced new (filter keep (rows_seen (take (i + 1) rows)) ++ rows_seen (drop (i + 1) rows))
  placed_next new is = subst (λ (l : List Thing). IsPlaced new (filter keep l ++ rows_seen (drop (i + 1) rows))) (sym (front_is rows i r lt e))
      (turn_by keep (keep (row_seen r)) places new (rows_seen (take i rows)) (rows_seen (drop (i + 1) rows)) (row_seen r) refl placed_here many fits_here alone_here is)
