-- A view's part of a frame's lists.
use Rattle.std.proofs.Common.{◌≡◌, ℕ, ◌-◌, ◌<◌, ◌==◌, Bool, true, false, cond, List, [], ◌∷◌, map, filter, take, drop, slice_index_or, refl, sym, ap, subst, ◌∙◌}
use Rattle.std.specs.Prelude.{filter_map}
use Rattle.std.specs.List.{AllByRecursion}
use Rattle.gfx_model.specs.Frames as model
use Rattle.gfx_model.specs.Frames.{draw_order}
use Rattle.gfx_model.specs.Views.{Views, view_count, position_of_view}
use Rattle.gfx_model.specs.World.{Item, draw_item, touch_item, blit_item, is_blit, is_of_view, sorted_by_key}
use Rattle.gfx_model.proofs.OrderedLaws.{at_key, sorted-at_key}
use Rattle.frame_record.specs.declared.frame.Frame.{Frame}
use Rattle.frame_record.specs.declared.ordering.OrderedItem.{OrderedItem}
use Rattle.frame_record.specs.declared.placing.PlacedBlit.{PlacedBlit}
use Rattle.frame_record.specs.Ordered.{IsPlaced, keyed_of, position_of}
use Rattle.frame_record.specs.Placed.{placed_of, blit_entries, items_in}
use Rattle.frame_record.specs.Seen.{entry_seen}
use Rattle.frame_record.proofs.KeyLaws.{entries_seen}
use Rattle.frame_record.proofs.PlainLaws.{all_plain}
use Rattle.view_drawing.specs.Entries.{blit_of, items_of, blits_of}
use Rattle.render_core.specs.declared.lists.Lists.{Lists}
use Rattle.render_core.specs.Lists.{AreListed, IsPart}
use Rattle.render_core.specs.Seen.{recordings_of, journal_of, frame_seen}
use Rattle.render_core.proofs.Runs.{at_position, NextRun}
use Rattle.render_core.proofs.ViewRuns.{IsAt, at_view, blits_of_view}

abbrev ordered_entry : OrderedItem → model.Entry
ordered_entry o = entry_seen o.entry

abbrev blit_entry : PlacedBlit → model.Entry
blit_entry b = entry_seen b.entry

abbrev blit_place : PlacedBlit → ℕ
blit_place b = b.position

all_if : {A : Type 0} (P : A → Type 0) (b : Bool) (x : A) (xs : List A) → P x → AllByRecursion P xs → AllByRecursion P (cond b (x ∷ xs) xs)
all_if P true x xs h all = (h, all)
all_if P false x xs h all = all

all_filtered : {A : Type 0} (P : A → Type 0) (p : A → Bool) (xs : List A) → AllByRecursion P xs → AllByRecursion P (filter p xs)
all_filtered P p [] all = tt
all_filtered P p (x ∷ xs) all = all_if P (p x) x (filter p xs) all.0 (all_filtered P p xs all.1)

-- the blits among items are those that the definition keeps
pub blits_shown : (ys : List Item) → map blit_item (filter_map blit_of ys) ≡ filter is_blit ys
blits_shown [] = refl
blits_shown (draw_item d ∷ ys) = blits_shown ys
blits_shown (touch_item t ∷ ys) = blits_shown ys
blits_shown (blit_item b ∷ ys) = ap (λ xs. blit_item b ∷ xs) (blits_shown ys)

pub blits_again : (p : Item → Bool) (ys : List Item) → filter is_blit (filter p (filter is_blit ys)) ≡ filter p (filter is_blit ys)
blits_again p [] = refl
blits_again p (draw_item d ∷ ys) = blits_again p ys
blits_again p (touch_item t ∷ ys) = blits_again p ys
blits_again p (blit_item b ∷ ys) = by (p (blit_item b)) (blits_again p ys)
  where
    by : (c : Bool) → filter is_blit (filter p (filter is_blit ys)) ≡ filter p (filter is_blit ys)
        → filter is_blit (cond c (blit_item b ∷ filter p (filter is_blit ys)) (filter p (filter is_blit ys))) ≡ cond c (blit_item b ∷ filter p (filter is_blit ys)) (filter p (filter is_blit ys))
    by true h = ap (λ xs. blit_item b ∷ xs) h
    by false h = h

module _ (vs : Views) (rs : List model.Recorded) where
  ordered_at : (xs : List OrderedItem) → AllByRecursion (IsPlaced vs rs) (map keyed_of xs) → AllByRecursion (IsAt vs rs ordered_entry position_of) xs
  ordered_at [] all = tt
  ordered_at (x ∷ xs) all = ((all.0.0, all.0.1, all.0.2.0, all.0.2.1), ordered_at xs all.1)

  one_key : (b : Bool) (x : PlacedBlit) (xs : List PlacedBlit) (ys : List (ℕ × model.Entry)) → map placed_of xs ≡ ys → map placed_of (cond b (x ∷ xs) xs) ≡ cond b (placed_of x ∷ ys) ys
  one_key true x xs ys e = ap (λ zs. placed_of x ∷ zs) e
  one_key false x xs ys e = e

  -- the blits of a position in their list are those in the journal
  at_keys : (p : ℕ) (xs : List PlacedBlit) → map placed_of (at_position blit_place p xs) ≡ at_key p (map placed_of xs)
  at_keys p [] = refl
  at_keys p (x ∷ xs) = one_key (x.position == p) x (at_position blit_place p xs) (at_key p (map placed_of xs)) (at_keys p xs)

  entries_of : (xs : List PlacedBlit) → map blit_entry xs ≡ map (λ x. x.1) (map placed_of xs)
  entries_of [] = refl
  entries_of (x ∷ xs) = ap (λ ys. blit_entry x ∷ ys) (entries_of xs)

  in_journal : (p : ℕ) (journal : List model.Entry) (xs : List PlacedBlit) → map placed_of xs ≡ sorted_by_key (blit_entries vs rs journal)
      → map blit_entry (at_position blit_place p xs) ≡ map (λ x. x.1) (at_key p (blit_entries vs rs journal))
  in_journal p journal xs is =
      entries_of (at_position blit_place p xs) ∙ ap (map (λ x. x.1)) (at_keys p xs ∙ ap (at_key p) is ∙ sorted-at_key p (blit_entries vs rs journal))

-- the run of a view
pub part_is : (f : Frame) (l : Lists) (v p : ℕ) (is_entered : Bool) (drawn drawn_end copied copied_end : ℕ) → AreListed f l → v < view_count f.views → position_of_view f.views v ≡ p
    → is_entered ≡ slice_index_or l.entered.items v false → NextRun position_of drawn drawn_end p l.ordered.items → NextRun blit_place copied copied_end p l.blits.items
    → IsPart f v is_entered (take (copied_end - copied) (drop copied l.blits.items)) (take (drawn_end - drawn) (drop drawn l.ordered.items))
part_is f l v p is_entered drawn drawn_end copied copied_end all within at entered draws blits =
    let vs : Views = f.views in
    let rs : List model.Recorded = recordings_of f in
    let order : map ordered_entry l.ordered.items ≡ draw_order vs rs (journal_of f) = sym (entries_seen l.ordered.items) ∙ ap (map (λ x. x.1)) all.draws.keyed in
    let drawn_is : items_of f (take (drawn_end - drawn) (drop drawn l.ordered.items)) ≡ filter (is_of_view v) (frame_seen f).ordered =
    ap (items_of f) draws.run
    ∙ at_view vs rs ordered_entry position_of v p within (sym at) l.ordered.items (ordered_at vs rs l.ordered.items all.draws.placed)
    ∙ ap (λ es. filter (is_of_view v) (items_in rs es)) order in
    let copied_is : map blit_item (blits_of f (take (copied_end - copied) (drop copied l.blits.items))) ≡ filter (is_of_view v) (filter is_blit (frame_seen f).items) =
    blits_shown (items_in rs (map blit_entry (take (copied_end - copied) (drop copied l.blits.items))))
    ∙ ap (λ xs. filter is_blit (items_in rs (map blit_entry xs))) blits.run
    ∙ ap (λ es. filter is_blit (items_in rs es)) (in_journal vs rs p (journal_of f) l.blits.items all.blits.sorted)
    ∙ ap (filter is_blit) (blits_of_view vs rs v p within (sym at) (journal_of f))
    ∙ blits_again (is_of_view v) (items_in rs (journal_of f)) in
    record {
      plain = subst (AllByRecursion (λ i. is_blit i ≡ false)) (ap (λ es. filter (is_of_view v) (items_in rs es)) order ∙ sym drawn_is)
          (all_filtered (λ i. is_blit i ≡ false) (is_of_view v) (items_in rs (map ordered_entry l.ordered.items)) (all_plain vs rs (journal_of f) l.ordered.items all.draws.keyed));
      copied = copied_is;
      drawn = drawn_is;
      entered = entered ∙ all.entered.noted v within;
    }
