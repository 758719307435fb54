-- The numbers of things by their places, found one after the other.
use Rattle.std.proofs.Common.{◌≡◌, ℕ, zero, suc, ◌+◌, ◌<◌, ◌≤◌, Bool, true, ◌&&◌, if◌then◌else◌, List, [], ◌∷◌, ◌++◌, take, length, replicate, Option, Some, None, refl, sym, ap, ◌∙◌, subst, arith, slice_index_or, slice_set, eq-eqb}
use Rattle.std.specs.List.{AllByRecursion}
use Rattle.std.proofs.lemmas.List.{take_more, length-take-le, length-replicate, get_or-replicate}
use Rattle.gfx_model.specs.Words.{kind_number, greatest, first_place, place_of_handle}
use Rattle.gfx_model.proofs.Apart.{place_below}
use Rattle.gfx_model.specs.Resources.{Thing, is_at}
use Rattle.resource_laws.specs.Lawful.{count_where}
use Rattle.resource_book.specs.declared.rows.Row.{Row}
use Rattle.resource_book.specs.Seen.{row_seen, rows_seen}
use Rattle.resource_book.specs.Tables.{IsPlaced, StandApart}
use Rattle.resource_book.proofs.Rooms.{none_counted}
use Rattle.resource_book.proofs.TableLaws.{placed_row}

all_nth : (P : Thing → Type 0) (rows : List Row) (i : ℕ) (d : Row) → i < length rows → AllByRecursion P (rows_seen rows) → P (row_seen (slice_index_or rows i d))
all_nth P [] i d lt a = absurd (omega (arith, lt))
all_nth P (r ∷ rs) zero d lt a = a.0
all_nth P (r ∷ rs) (suc i) d lt a = all_nth P rs i d (omega (arith, lt)) a.1

-- of a test that holds of the i-th thing, the things in front have one less
front_less : (q : Thing → Bool) (rows : List Row) (i : ℕ) (d : Row) → i < length rows → q (row_seen (slice_index_or rows i d)) ≡ true → count_where q (rows_seen (take i rows)) + 1 ≤ count_where q (rows_seen rows)
front_less q [] i d lt e = absurd (omega (arith, lt))
front_less q (r ∷ rs) zero d lt e = let one : (if q (row_seen r) then 1 else 0) ≡ suc 0 = ap (λ (b : Bool). if b then 1 else 0) e in omega (arith, one)
front_less q (r ∷ rs) (suc i) d lt e = let h = front_less q rs i d (omega (arith, lt)) e in omega (arith, h)

here_true : (t : Thing) → is_at t.handle.kind t.handle.index t ≡ true
here_true t = λ j. eq-eqb (kind_number t.handle.kind) (kind_number t.handle.kind) refl j && eq-eqb t.handle.index t.handle.index refl j

pub numbered_none : (places : List (Option ℕ)) (n : ℕ) (rows : List Row) → places ≡ replicate n None → n ≡ 3776 → IsPlaced places (rows_seen (take 0 rows))
numbered_none places n rows e h = subst (λ (ps : List (Option ℕ)). IsPlaced ps []) (sym e) (record {
  many = length-replicate n None ∙ h;
  stands = λ k index lt. get_or-replicate n (first_place k + index) None None (let p = place_below k index lt in omega (arith, h, p));
})

pub numbered_next : (rows : List Row) (i : ℕ) (r : Row) (places : List (Option ℕ)) (place : ℕ) → i < length rows → r ≡ slice_index_or rows i r → StandApart (rows_seen rows) → place ≡ place_of_handle r.handle
    → IsPlaced places (rows_seen (take i rows)) → IsPlaced (slice_set places place (Some i)) (rows_seen (take (i + 1) rows))
numbered_next rows i r places place lt is apart at h =
    let below : r.handle.index < greatest r.handle.kind = subst (λ (x : Row). x.handle.index < greatest x.handle.kind) (sym is) (all_nth (λ t. t.handle.index < greatest t.handle.kind) rows i r lt apart.fits) in
    let own : is_at r.handle.kind r.handle.index (row_seen (slice_index_or rows i r)) ≡ true = ap (λ (x : Row). is_at r.handle.kind r.handle.index (row_seen x)) (sym is) ∙ here_true (row_seen r) in
    let less = front_less (is_at r.handle.kind r.handle.index) rows i r lt own in
    let once = apart.once r.handle.kind r.handle.index below in
    placed_row places (take i rows) (take (i + 1) rows) (rows_seen (take i rows)) r place i h refl below
    (none_counted (is_at r.handle.kind r.handle.index) (rows_seen (take i rows)) (omega (arith, less, once)))
    at (sym (length-take-le i rows (omega (arith, lt)))) (take_more rows i r lt ∙ (λ j. take i rows ++ sym is j ∷ []))
