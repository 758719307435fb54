-- The start of a frame: indices that go back on their stacks, things that are kept, and targets that live.
use Rattle.std.proofs.Common.{◌≡◌, ℕ, zero, suc, ◌<◌, ◌≤◌, Bool, true, false, ◌&&◌, if◌then◌else◌, List, [], ◌∷◌, map, filter, length, Option, Some, None, refl, sym, ap, subst, arith, slice_index_or}
use Rattle.std.specs.List.{AllByRecursion}
use Rattle.gfx_model.specs.Words.{Handle, Kind, layout_kind, vertex_buffer_kind, index_buffer_kind, texture_kind, frame_buffer_kind, program_kind, uniform_kind, kind_number, greatest}
use Rattle.gfx_model.specs.Views.{View, Views}
use Rattle.gfx_model.specs.Resources.{Thing, Resources, Book, is_at, is_live_handle, book_at_start, live_target, with_live_target, with_live_targets}
use Rattle.schedule_model.specs.Held.{count_of}
use Rattle.view_table.specs.Targets.{kept_target, with_target_kept, with_targets_kept}
use Rattle.resource_laws.specs.Lawful.{count_where, dies, dies_at, waits_at, IsLawful}
use Rattle.resource_book.specs.declared.rows.Row.{Row}
use Rattle.resource_book.specs.declared.shelf.Shelf.{Shelf}
use Rattle.resource_book.specs.Seen.{row_seen, rows_seen}
use Rattle.resource_book.specs.Shelves.{resources_of, HasLimits}
use Rattle.resource_book.specs.Stacks.{StackView, book_seen, CanReclaim, reclaimed}
use Rattle.resource_book.specs.Tables.{StandApart}
use Rattle.resource_book.proofs.ReclaimLaws.{any}
use Rattle.resource_book.proofs.Rooms.{waiting_below}
use Rattle.resource_book.proofs.StackLaws.{limit, seven, limit_at, book_here}

-- ---- stacks

and_few : (b c : Bool) → (if b && c then 1 else 0) ≤ (if b then 1 else 0)
and_few true true = omega arith
and_few true false = omega arith
and_few false c = omega arith

dead_few : (k : Kind) (i : ℕ) (ts : List Thing) → count_where (dies_at k i any) ts ≤ count_where (is_at k i) ts
dead_few k i [] = omega arith
dead_few k i (t ∷ ts) = let a = and_few (is_at k i t) (dies any t.death) in let b = dead_few k i ts in omega (arith, a, b)

pub by_kind : (Q : ℕ → Type 0) → ((k : Kind) → Q (kind_number k)) → (i : ℕ) → i < 7 → Q i
by_kind Q h zero lt = h layout_kind
by_kind Q h (suc zero) lt = h vertex_buffer_kind
by_kind Q h (suc (suc zero)) lt = h index_buffer_kind
by_kind Q h (suc (suc (suc zero))) lt = h texture_kind
by_kind Q h (suc (suc (suc (suc zero)))) lt = h frame_buffer_kind
by_kind Q h (suc (suc (suc (suc (suc zero))))) lt = h program_kind
by_kind Q h (suc (suc (suc (suc (suc (suc zero)))))) lt = h uniform_kind
by_kind Q h (suc (suc (suc (suc (suc (suc (suc n))))))) lt = absurd (omega (arith, lt))

module _ (s : Shelf) (limits : HasLimits s) (law : IsLawful (resources_of s)) where
  pub apart : StandApart s.table.things
  apart = record { fits = law.fits; once = λ k index lt. let o = law.once k index lt in omega (arith, o) }

  kind_reclaims : (k : Kind) (d : StackView) → CanReclaim (slice_index_or s.stacks (kind_number k) d)
  kind_reclaims k d =
      let here = book_here s.stacks k (kind_number k) d (record { free = []; waiting = [] }) refl limits in
      let most = limit_at s.stacks k d limits in
      record {
        once = λ index lt.
            let w = law.waits k index any in
            let o = law.once k index (subst (λ (n : ℕ). index < n) most lt) in
            let f = ap (λ (b : Book). count_of index b.free) here in
            let v = ap (λ (b : Book). count_where (waits_at index any) b.waiting) here in
            let few = dead_few k index s.table.things in
            omega (arith, w, o, f, v, few);
        below = subst (λ (n : ℕ). AllByRecursion (λ (w : ℕ × ℕ). w.0 < n) (slice_index_or s.stacks (kind_number k) d).waiting) (sym most)
            (subst (λ (b : Book). AllByRecursion (λ (w : ℕ × ℕ). w.0 < greatest k) b.waiting) here (waiting_below (resources_of s) law k));
      }

  pub reclaims : (i : ℕ) (d : StackView) → i < length s.stacks → CanReclaim (slice_index_or s.stacks i d)
  reclaims i d lt = by_kind (λ n. CanReclaim (slice_index_or s.stacks n d)) (λ k. kind_reclaims k d) i (let n = seven s.stacks limits in omega (arith, lt, n))

pub books_started : (latency frame : ℕ) (ss : List StackView) → map book_seen (map (reclaimed latency frame) ss) ≡ map (book_at_start latency frame) (map book_seen ss)
books_started latency frame [] = refl
books_started latency frame (s ∷ ss) = ap (λ bs. book_at_start latency frame (book_seen s) ∷ bs) (books_started latency frame ss)

pub limits_started : (latency frame : ℕ) (ss : List StackView) → map limit (map (reclaimed latency frame) ss) ≡ map limit ss
limits_started latency frame [] = refl
limits_started latency frame (s ∷ ss) = ap (λ ns. s.limit ∷ ns) (limits_started latency frame ss)

-- ---- things

kept_step : (p : Thing → Bool) (r : Row) (rs : List Row) (b : Bool) → map row_seen (filter (λ x. p (row_seen x)) rs) ≡ filter p (rows_seen rs)
    → map row_seen (if b then r ∷ filter (λ x. p (row_seen x)) rs else filter (λ x. p (row_seen x)) rs) ≡ (if b then row_seen r ∷ filter p (rows_seen rs) else filter p (rows_seen rs))
kept_step p r rs true e = ap (λ l. row_seen r ∷ l) e
kept_step p r rs false e = e

pub kept_rows : (p : Thing → Bool) (rs : List Row) → map row_seen (filter (λ x. p (row_seen x)) rs) ≡ filter p (rows_seen rs)
kept_rows p [] = refl
kept_rows p (r ∷ rs) = kept_step p r rs (p (row_seen r)) (kept_rows p rs)

fits_step : (P : Thing → Type 0) (p : Thing → Bool) (t : Thing) (ts : List Thing) (b : Bool) → P t → AllByRecursion P (filter p ts) → AllByRecursion P (if b then t ∷ filter p ts else filter p ts)
fits_step P p t ts true h a = (h, a)
fits_step P p t ts false h a = a

pub all_kept : (P : Thing → Type 0) (p : Thing → Bool) (ts : List Thing) → AllByRecursion P ts → AllByRecursion P (filter p ts)
all_kept P p [] a = tt
all_kept P p (t ∷ ts) a = fits_step P p t ts (p t) a.0 (all_kept P p ts a.1)

few_step : (q p : Thing → Bool) (t : Thing) (ts : List Thing) (b : Bool) → count_where q (filter p ts) ≤ count_where q ts → count_where q (if b then t ∷ filter p ts else filter p ts) ≤ count_where q (t ∷ ts)
few_step q p t ts true h = omega (arith, h)
few_step q p t ts false h = omega (arith, h)

pub few_kept : (q p : Thing → Bool) (ts : List Thing) → count_where q (filter p ts) ≤ count_where q ts
few_kept q p [] = omega arith
few_kept q p (t ∷ ts) = few_step q p t ts (p t) (few_kept q p ts)

pub apart_kept : (p : Thing → Bool) (ts : List Thing) → StandApart ts → StandApart (filter p ts)
apart_kept p ts a = record {
  fits = all_kept (λ t. t.handle.index < greatest t.handle.kind) p ts a.fits;
  once = λ k index lt. let f = few_kept (is_at k index) p ts in let o = a.once k index lt in omega (arith, f, o);
}

length_step : (p : Thing → Bool) (t : Thing) (ts : List Thing) (b : Bool) → length (filter p ts) ≤ length ts → length (if b then t ∷ filter p ts else filter p ts) ≤ length (t ∷ ts)
length_step p t ts true h = omega (arith, h)
length_step p t ts false h = omega (arith, h)

pub length_kept : (p : Thing → Bool) (ts : List Thing) → length (filter p ts) ≤ length ts
length_kept p [] = omega arith
length_kept p (t ∷ ts) = length_step p t ts (p t) (length_kept p ts)

-- ---- views

live_kept : (r : Resources) (o : Option Handle) → kept_target (is_live_handle r) o ≡ live_target r o
live_kept r None = refl
live_kept r (Some h) = refl

views_live : (r : Resources) (vs : List View) → map (with_target_kept (is_live_handle r)) vs ≡ map (with_live_target r) vs
views_live r [] = refl
views_live r (v ∷ vs) = λ j. (record v { target = live_kept r v.target j }) ∷ views_live r vs j

pub targets_live : (r : Resources) (vs : Views) → with_targets_kept (is_live_handle r) vs ≡ with_live_targets r vs
targets_live r vs = λ j. record vs { settings = views_live r vs.settings j }
