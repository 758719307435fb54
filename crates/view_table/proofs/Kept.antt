-- What a table keeps: its order, and the answers that its calls give.
use Rattle.std.proofs.Common.{◌≡◌, ◌<◌, ◌≤◌, ◌+◌, ℕ, Bool, true, false, not, ◌||◌, nat_le, nat_lt, List, [], ◌∷◌, ◌++◌, length, map, replicate, take, drop, filter, slice_index, slice_index_or, slice_set, Option, Some, None, zero, suc, refl, sym, ap, subst, ◌∙◌, arith}
use mathlib.Core.Logic.{⊎_elim}
use Rattle.std.specs.List.{range_with_len, list_any}
use Rattle.std.proofs.lemmas.Bool.{or_parts, leb-false, le-ltb}
use Rattle.std.proofs.lemmas.List.{get_or_read, length-map, length-replicate, map-set, append-nil, drop_all, take_all, take-append-le, length-take-le}
use Rattle.std.proofs.lemmas.List.FromFn.{length-range_with_len, get_or-range_with_len}
use Rattle.gfx_model.specs.Number.{is_among, is_without_repeat, place_of}
use Rattle.gfx_model.specs.Views as model
use Rattle.gfx_model.specs.Resources.{Refusal, first_refusal, refusals, set_view_order, with_order, bad_view, bad_range}
use Rattle.view_table.specs.declared.views.View.{View}
use Rattle.view_table.specs.Seen.{view_seen}
use Rattle.view_table.specs.Answered.{views_alone}
use Rattle.view_table.specs.Order.{AreBelow, in_order, IsOrder, IsViewTable}
use Rattle.view_table.proofs.Lists.{at_place, place_at}
use Rattle.view_table.proofs.Permuted.{is_other, order_length, order_has, order_without, order_below}
use Rattle.view_table.proofs.Filled.{listed_le}

-- the views that settings and listed ids are seen as
abbrev pub views_of : List View → List ℕ → model.Views
views_of items order = record { settings = map view_seen items; order = order }

pub count_is : (items : List View) (order : List ℕ) (now : model.Views) (n : ℕ) → views_of items order ≡ now → length items ≡ n → model.view_count now ≡ n
count_is items order now n e long = ap model.view_count (sym e) ∙ length-map items view_seen ∙ long

pub order_is : (items : List View) (listed : ℕ) (sequence positions : List ℕ) (now : model.Views)
    → IsOrder (length items) listed sequence positions → views_of items (take listed sequence) ≡ now → model.view_order now ≡ sequence
order_is items listed sequence positions now k e =
    ap model.view_order (sym e) ∙ ap (λ n. in_order n (take listed sequence)) (length-map items view_seen) ∙ sym k.ordered

has_view : (count listed : ℕ) (sequence positions : List ℕ) (view : ℕ) → IsOrder count listed sequence positions → view < count → is_among view sequence ≡ true
has_view count listed sequence positions view k h = ap (is_among view) k.ordered ∙ order_has count (take listed sequence) view h

no_repeat : (count listed : ℕ) (sequence positions : List ℕ) → IsOrder count listed sequence positions → is_without_repeat sequence ≡ true
no_repeat count listed sequence positions k = ap is_without_repeat k.ordered ∙ order_without count (take listed sequence) k.distinct

-- ---- positions and views

-- the position p that is read for a view
pub record IsPosition (now : model.Views) (view p : ℕ) : Type 0 where
  pub position : p ≡ model.position_of_view now view
  pub inverse : slice_index (model.view_order now) p ≡ view
  pub below : p < model.view_count now

pub position_read : (items : List View) (listed : ℕ) (sequence positions : List ℕ) (now : model.Views) (view p : ℕ)
    → IsOrder (length items) listed sequence positions → views_of items (take listed sequence) ≡ now
    → view < model.view_count now → p ≡ slice_index_or positions view p → IsPosition now view p
position_read items listed sequence positions now view p k e h r =
    let o : model.view_order now ≡ sequence = order_is items listed sequence positions now k e in
    let count : model.view_count now ≡ length items = count_is items (take listed sequence) now (length items) e refl in
    let within : view < length items = omega (arith, h, count) in
    let value : p ≡ place_of view sequence = get_or_read positions view p (omega (arith, within, k.positions_length)) r 0 ∙ k.placed view within in
    let found = at_place view sequence (has_view (length items) listed sequence positions view k within) in
    record {
      position = value ∙ ap (place_of view) (sym o);
      inverse = ap (λ xs. slice_index xs p) o ∙ ap (slice_index sequence) value ∙ found.1;
      below = omega (arith, value, found.0, k.sequence_length, count);
    }

-- the view v that is read at a position
pub record IsViewAt (now : model.Views) (position v : ℕ) : Type 0 where
  pub view : v ≡ slice_index (model.view_order now) position
  pub inverse : model.position_of_view now v ≡ position
  pub below : v < model.view_count now

pub view_read : (items : List View) (listed : ℕ) (sequence positions : List ℕ) (now : model.Views) (position v : ℕ)
    → IsOrder (length items) listed sequence positions → views_of items (take listed sequence) ≡ now
    → position < model.view_count now → v ≡ slice_index_or sequence position v → IsViewAt now position v
view_read items listed sequence positions now position v k e h r =
    let o : model.view_order now ≡ sequence = order_is items listed sequence positions now k e in
    let count : model.view_count now ≡ length items = count_is items (take listed sequence) now (length items) e refl in
    let within : position < length sequence = omega (arith, h, k.sequence_length, count) in
    let value : v ≡ slice_index sequence position = get_or_read sequence position v within r 0 in
    let there : slice_index (in_order (length items) (take listed sequence)) position < length items
    = order_below (length items) (take listed sequence) k.below position (omega (arith, within, ap length k.ordered)) in
    let same : slice_index sequence position ≡ slice_index (in_order (length items) (take listed sequence)) position = ap (λ xs. slice_index xs position) k.ordered in
    record {
      view = value ∙ ap (λ xs. slice_index xs position) (sym o);
      inverse = ap (place_of v) o ∙ ap (λ w. place_of w sequence) value ∙ place_at sequence (no_repeat (length items) listed sequence positions k) position within;
      below = omega (arith, value, same, there, count);
    }

-- ---- what every table keeps

table_of : (items : List View) (listed : ℕ) (sequence positions : List ℕ) → model.IsViewCount (length items)
    → IsOrder (length items) listed sequence positions → IsViewTable (views_of items (take listed sequence))
table_of items listed sequence positions c k =
    let same : length (map view_seen items) ≡ length items = length-map items view_seen in
    record {
      count = rw same c;
      listed = rw same (omega (arith, length-take-le listed sequence, k.room));
      listed_below = rw same k.below;
      listed_once = k.distinct;
      ordered = rw same (order_length (length items) (take listed sequence) k.distinct k.below);
      below = rw same (order_below (length items) (take listed sequence) k.below);
      once = rw same (order_without (length items) (take listed sequence) k.distinct);
    }

pub table_seen : (items : List View) (listed : ℕ) (sequence positions : List ℕ) (now : model.Views) → model.IsViewCount (length items)
    → IsOrder (length items) listed sequence positions → views_of items (take listed sequence) ≡ now → IsViewTable now
table_seen items listed sequence positions now c k e = subst IsViewTable e (table_of items listed sequence positions c k)

pub most_of : (n : ℕ) → model.IsViewCount n → n ≤ 512
most_of n c = ⊎_elim (λ e. omega (arith, e)) (λ e. omega (arith, e)) c

-- ---- a new table

none_listed : (p : ℕ → Bool) → ((v : ℕ) → p v ≡ true) → (a n : ℕ) → filter p (range_with_len a n) ≡ range_with_len a n
none_listed p h a zero = refl
none_listed p h a (suc n) = rw (h a) (ap (λ rest. a ∷ rest) (none_listed p h (a + 1) n))

order_of_none : (n : ℕ) → in_order n [] ≡ range_with_len 0 n
order_of_none n = none_listed (is_other []) (λ v. refl) 0 n

pub new_order : (n : ℕ) → IsOrder n 0 (range_with_len 0 n) (range_with_len 0 n)
new_order n =
    let long : length (range_with_len 0 n) ≡ n = length-range_with_len 0 n in
    let once : is_without_repeat (range_with_len 0 n) ≡ true = ap is_without_repeat (sym (order_of_none n)) ∙ order_without n [] refl in
    let at : (v : ℕ) → v < n → slice_index (range_with_len 0 n) v ≡ v = λ v h. get_or-range_with_len 0 n v 0 h ∙ omega arith in
    record {
      sequence_length = long;
      positions_length = long;
      room = omega arith;
      below = λ i h. absurd (omega (arith, h));
      distinct = refl;
      ordered = sym (order_of_none n);
      placed = λ v h. at v h ∙ sym (ap (λ w. place_of w (range_with_len 0 n)) (sym (at v h)) ∙ place_at (range_with_len 0 n) once v (omega (arith, h, long)));
    }

-- ---- a new order

pub below_from_any : (count : ℕ) (ids : List ℕ) → list_any (λ v. nat_le count v) ids ≡ false → AreBelow count ids
below_from_any count [] h i within = absurd (omega (arith, within))
below_from_any count (x ∷ xs) h zero within = leb-false count x (or_parts (nat_le count x) (list_any (λ v. nat_le count v) xs) h).0
below_from_any count (x ∷ xs) h (suc i) within =
    below_from_any count xs (or_parts (nat_le count x) (list_any (λ v. nat_le count v) xs) h).1 i (omega (arith, within))

-- what a new order is refused for where there are so many views
abbrev order_refusal : ℕ → List ℕ → Option Refusal
order_refusal n ids = first_refusal ((list_any (λ v. nat_le n v) ids, bad_view) ∷ (nat_lt n (length ids) || not (is_without_repeat ids), bad_range) ∷ [])

or_true : (a b : Bool) → b ≡ true → (a || b) ≡ true
or_true true b e = refl
or_true false b e = e

pub refused_stranger : (old : model.Views) (n : ℕ) (ids : List ℕ) → model.view_count old ≡ n → list_any (λ v. nat_le n v) ids ≡ true
    → first_refusal (refusals (views_alone old) (set_view_order ids)) ≡ Some bad_view
refused_stranger old n ids count any = ap (λ m. order_refusal m ids) count ∙ rw any refl

pub refused_repeat : (old : model.Views) (n : ℕ) (ids : List ℕ) → model.view_count old ≡ n → list_any (λ v. nat_le n v) ids ≡ false
    → is_without_repeat ids ≡ false → first_refusal (refusals (views_alone old) (set_view_order ids)) ≡ Some bad_range
refused_repeat old n ids count any twice =
    ap (λ m. order_refusal m ids) count ∙ rw (any, or_true (nat_lt n (length ids)) (not (is_without_repeat ids)) (ap not twice)) refl

pub accepted_order : (old : model.Views) (n : ℕ) (ids : List ℕ) → model.view_count old ≡ n → list_any (λ v. nat_le n v) ids ≡ false
    → is_without_repeat ids ≡ true → first_refusal (refusals (views_alone old) (set_view_order ids)) ≡ None
accepted_order old n ids count any once =
    ap (λ m. order_refusal m ids) count ∙ rw (any, le-ltb n (length ids) (listed_le n ids once (below_from_any n ids any)), once) refl

-- ---- settings

pub map-replicate : {A B : Type 0} (f : A → B) (n : ℕ) (x : A) (y : B) → f x ≡ y → map f (replicate n x) ≡ replicate n y
map-replicate f zero x y e = refl
map-replicate f (suc n) x y e = rw (e, map-replicate f n x y e) refl

-- the view without a target
abbrev pub to_back : model.View → model.View
to_back w = record w { target = None }

pub new_table : (items : List View) (sequence positions : List ℕ) (n : ℕ) → model.IsViewCount n → map view_seen items ≡ replicate n model.plain_view
    → sequence ≡ range_with_len 0 n → positions ≡ range_with_len 0 n → model.IsViewCount (length items) × IsOrder (length items) 0 sequence positions
new_table items sequence positions n c e s p =
    let long : length items ≡ n = sym (length-map items view_seen) ∙ ap length e ∙ length-replicate n model.plain_view in
    (rw long c, rw (long, s, p) (new_order n))

abbrev with_settings : List model.View → List ℕ → model.Views
with_settings xs order = record { settings = xs; order = order }

abbrev put_settings : ℕ → View → model.Views → model.Views
put_settings view v now = model.set_view now view (λ w. view_seen v)

-- one view's settings are put in the place of others
pub put_view : (items : List View) (order : List ℕ) (now : model.Views) (view : ℕ) (v : View) → views_of items order ≡ now
    → views_of (slice_set items view v) order ≡ model.set_view now view (λ w. view_seen v)
put_view items order now view v e =
    ap (λ xs. with_settings xs order) (map-set view_seen items view v) ∙ ap (put_settings view v) e

-- ---- the two lists after a new order

pub written : {A : Type 0} (n : ℕ) (new old : List A) → length new ≡ n → length old ≡ n → take n (new ++ drop (length new) old) ≡ new
written n new old e f =
    ap (take n) (ap (λ rest. new ++ rest) (drop_all (length new) old (omega (arith, e, f))) ∙ append-nil new) ∙ take_all n new (omega (arith, e))

pub front_of : (count : ℕ) (ids sequence : List ℕ) → sequence ≡ in_order count ids → take (length ids) sequence ≡ ids
front_of count ids sequence e =
    ap (take (length ids)) e ∙ take-append-le (length ids) ids (filter (is_other ids) (range_with_len 0 count)) (omega arith) ∙ take_all (length ids) ids (omega arith)

pub new_order_seen : (items : List View) (order ids sequence : List ℕ) (now : model.Views) (count : ℕ) → views_of items order ≡ now
    → sequence ≡ in_order count ids → views_of items (take (length ids) sequence) ≡ with_order ids now
new_order_seen items order ids sequence now count e f = ap (views_of items) (front_of count ids sequence f) ∙ ap (with_order ids) e

pub new_order_kept : (count : ℕ) (ids sequence positions : List ℕ) → AreBelow count ids → is_without_repeat ids ≡ true
    → sequence ≡ in_order count ids → length positions ≡ count → ((v : ℕ) → v < count → slice_index positions v ≡ place_of v sequence)
    → IsOrder count (length ids) sequence positions
new_order_kept count ids sequence positions below once e long placed =
    let front = front_of count ids sequence e in
    record {
      sequence_length = ap length e ∙ order_length count ids once below;
      positions_length = long;
      room = listed_le count ids once below;
      below = rw front below;
      distinct = rw front once;
      ordered = e ∙ ap (in_order count) (sym front);
      placed = placed;
    }
