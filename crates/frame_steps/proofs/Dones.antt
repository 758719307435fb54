-- What the doers of a frame do are its deeds.
use Rattle.std.proofs.Common.{◌≡◌, ◌∙◌, ℕ, suc, ◌<◌, ◌≤◌, Bool, true, false, cond, if◌then◌else◌, nat_lt, arith, List, [], ◌∷◌, ◌++◌, map, filter, Option, Some, None, refl, sym, ap, subst}
use Rattle.std.proofs.lemmas.Bool.{lt-ltb, le-ltb}
use Rattle.std.specs.Prelude.{filter_map, flat_map, fold, option_map, unwrap_or}
use Rattle.std.specs.List.{AllByRecursion, cons_option, list_any}
use Rattle.std.proofs.lemmas.List.Elements.{filter_map-append}
use Rattle.gfx_model.specs.Frames.{Entry, Recorded, item_of_entry, draw_order}
use Rattle.gfx_model.specs.Views.{View, Views, view_at, view_count, view_order}
use Rattle.gfx_model.specs.World.{Item, draw_item, touch_item, blit_item, is_blit, is_of_view}
use Rattle.store_laws.specs.ByIndex.{Stores, do_by_index}
use Rattle.frame_record.specs.declared.frame.Frame.{Frame}
use Rattle.view_table.specs.Order.{AreBelow}
use Rattle.frame_record.specs.Placed.{items_in}
use Rattle.view_drawing.specs.Entries.{blit_of}
use Rattle.render_core.specs.Seen.{recordings_of, journal_of, frame_seen}
use Rattle.trace_laws.specs.ByIndex.{stores_after, deeds_in, deeds_in_view}
use Rattle.trace_laws.specs.Deeds.{Deed, clear_deed, item_deed}
use Rattle.trace_laws.specs.Doers.{Doer, clear_doer, item_doer, has_in, done_entries, doers_in_view}
use Rattle.trace_laws.proofs.Lists.{map-more, flat-more}
use Rattle.frame_steps.specs.Doing.{in_view, deed_by, stores_after_some, DoneLaw}

-- ---- views

-- where there is the view
pub view-there : (vs : Views) (v : ℕ) (o : Option Deed) → v < view_count vs → in_view vs v o ≡ o
view-there vs v o lt = ap (λ b. if b then o else None) (lt-ltb v (view_count vs) lt)

-- where there is no such view
pub view-none : (vs : Views) (v : ℕ) (o : Option Deed) → view_count vs ≤ v → in_view vs v o ≡ None
view-none vs v o le = ap (λ b. if b then o else None) (le-ltb v (view_count vs) le)

-- ---- one item

pub plain-one : (o : Option Item) → unwrap_or (option_map is_blit o) false ≡ false → AllByRecursion (λ i. is_blit i ≡ false) (cons_option o [])
plain-one None e = tt
plain-one (Some i) e = (e, tt)

pub blit-one : (view : View) (h : Stores) (o : Option Item) → unwrap_or (option_map is_blit o) false ≡ true
    → fold (do_by_index view) h (map blit_item (filter_map blit_of (cons_option o []))) ≡ stores_after_some h (option_map (item_deed view) o)
blit-one view h None e = cc e
blit-one view h (Some (draw_item d)) e = cc e
blit-one view h (Some (touch_item t)) e = cc e
blit-one view h (Some (blit_item b)) e = refl

pub draw-one : (view : View) (h : Stores) (o : Option Item) → fold (do_by_index view) h (cons_option o []) ≡ stores_after_some h (option_map (item_deed view) o)
draw-one view h None = refl
draw-one view h (Some i) = refl

-- ---- the entries that have an item of some sort

module _ (rs : List Recorded) where
  such-items : (q : Item → Bool) (ns : List Entry) → filter_map (item_of_entry rs) (filter (has_in q rs) ns) ≡ filter q (filter_map (item_of_entry rs) ns)
  such-items q [] = refl
  such-items q (n ∷ ns) = go (item_of_entry rs n) refl (such-items q ns)
    where
      more : List Entry
      more = filter (has_in q rs) ns

      one : (i : Item) (b : Bool) → item_of_entry rs n ≡ Some i → filter_map (item_of_entry rs) more ≡ filter q (filter_map (item_of_entry rs) ns)
          → filter_map (item_of_entry rs) (cond b (n ∷ more) more) ≡ cond b (i ∷ filter q (filter_map (item_of_entry rs) ns)) (filter q (filter_map (item_of_entry rs) ns))
      one i true is h = ap (λ o. cons_option o (filter_map (item_of_entry rs) more)) is ∙ ap (λ (xs : List Item). i ∷ xs) h
      one i false is h = h

      go : (o : Option Item) → item_of_entry rs n ≡ o → filter_map (item_of_entry rs) more ≡ filter q (filter_map (item_of_entry rs) ns)
          → filter_map (item_of_entry rs) (cond (unwrap_or (option_map q (item_of_entry rs n)) false) (n ∷ more) more) ≡ filter q (cons_option (item_of_entry rs n) (filter_map (item_of_entry rs) ns))
      go None is h =
          ap (λ o. filter_map (item_of_entry rs) (cond (unwrap_or (option_map q o) false) (n ∷ more) more)) is ∙ h ∙ sym (ap (λ o. filter q (cons_option o (filter_map (item_of_entry rs) ns))) is)
      go (Some i) is h =
          ap (λ o. filter_map (item_of_entry rs) (cond (unwrap_or (option_map q o) false) (n ∷ more) more)) is ∙ one i (q i) is h ∙ sym (ap (λ o. filter q (cons_option o (filter_map (item_of_entry rs) ns))) is)

  -- the deed of a doer whose view is there
  abbrev plain_by : Views → Doer → Option Deed
  plain_by vs (clear_doer v) = Some (clear_deed (view_at vs v))
  plain_by vs (item_doer v n) = option_map (item_deed (view_at vs v)) (item_of_entry rs n)

  in-items : (vs : Views) (v : ℕ) (xs : List Entry) → nat_lt v (view_count vs) ≡ true → map (deed_by vs rs) (map (item_doer v) xs) ≡ map (plain_by vs) (map (item_doer v) xs)
  in-items vs v [] is = refl
  in-items vs v (n ∷ xs) is =
      ap (λ b. (if b then option_map (item_deed (view_at vs v)) (item_of_entry rs n) else None) ∷ map (deed_by vs rs) (map (item_doer v) xs)) is
      ∙ ap (λ (ds : List (Option Deed)). option_map (item_deed (view_at vs v)) (item_of_entry rs n) ∷ ds) (in-items vs v xs is)

  in-clear : (vs : Views) (v : ℕ) → nat_lt v (view_count vs) ≡ true → deed_by vs rs (clear_doer v) ≡ Some (clear_deed (view_at vs v))
  in-clear vs v is = ap (λ b. if b then Some (clear_deed (view_at vs v)) else None) is

  abbrev DoneSame : Views → ℕ → List Entry → Type 0
  DoneSame vs v xs = map (plain_by vs) (map (item_doer v) xs) ≡ map Some (map (item_deed (view_at vs v)) (filter_map (item_of_entry rs) xs))

  item-deeds : (vs : Views) (v : ℕ) (q : Item → Bool) (ns : List Entry) → DoneSame vs v (filter (has_in q rs) ns)
  item-deeds vs v q [] = refl
  item-deeds vs v q (n ∷ ns) = go (item_of_entry rs n) refl (item-deeds vs v q ns)
    where
      view : View
      view = view_at vs v

      more : List Entry
      more = filter (has_in q rs) ns

      one : (i : Item) (b : Bool) → item_of_entry rs n ≡ Some i → DoneSame vs v more → DoneSame vs v (cond b (n ∷ more) more)
      one i true is h =
          ap (λ o. option_map (item_deed view) o ∷ map (plain_by vs) (map (item_doer v) more)) is
          ∙ ap (λ (ds : List (Option Deed)). Some (item_deed view i) ∷ ds) h
          ∙ sym (ap (λ o. map Some (map (item_deed view) (cons_option o (filter_map (item_of_entry rs) more)))) is)
      one i false is h = h

      go : (o : Option Item) → item_of_entry rs n ≡ o → DoneSame vs v more → DoneSame vs v (cond (unwrap_or (option_map q (item_of_entry rs n)) false) (n ∷ more) more)
      go None is h = subst (λ o. DoneSame vs v (cond (unwrap_or (option_map q o) false) (n ∷ more) more)) (sym is) h
      go (Some i) is h = subst (λ o. DoneSame vs v (cond (unwrap_or (option_map q o) false) (n ∷ more) more)) (sym is) (one i (q i) is h)

  -- ---- a frame

  module _ (vs : Views) (journal : List Entry) where
    abbrev ordered_items : List Item
    ordered_items = filter_map (item_of_entry rs) (draw_order vs rs journal)

    abbrev all_items : List Item
    all_items = filter_map (item_of_entry rs) journal

    items-done : filter_map (item_of_entry rs) (done_entries vs rs journal) ≡ filter is_blit all_items ++ ordered_items
    items-done =
        filter_map-append (item_of_entry rs) (filter (has_in is_blit rs) journal) (draw_order vs rs journal)
        ∙ ap (λ (xs : List Item). xs ++ ordered_items) (such-items is_blit journal)

    view-done : (v : ℕ) → nat_lt v (view_count vs) ≡ true → map (deed_by vs rs) (doers_in_view rs (done_entries vs rs journal) v) ≡ map Some (deeds_in_view vs all_items ordered_items v)
    view-done v is =
        let own : List Entry = filter (has_in (is_of_view v) rs) (done_entries vs rs journal) in
        ap (λ (o : Option Deed). o ∷ map (deed_by vs rs) (map (item_doer v) own)) (in-clear vs v is)
        ∙ ap (λ (ds : List (Option Deed)). Some (clear_deed (view_at vs v)) ∷ ds)
        (in-items vs v own is
        ∙ item-deeds vs v (is_of_view v) (done_entries vs rs journal)
        ∙ ap (λ (xs : List Item). map Some (map (item_deed (view_at vs v)) xs)) (such-items (is_of_view v) (done_entries vs rs journal) ∙ ap (filter (is_of_view v)) items-done))

    views-done : (p : ℕ → Bool) (ns : List ℕ) → AreBelow (view_count vs) ns
        → map (deed_by vs rs) (flat_map (doers_in_view rs (done_entries vs rs journal)) (filter p ns)) ≡ map Some (flat_map (deeds_in_view vs all_items ordered_items) (filter p ns))
    views-done p [] below = refl
    views-done p (v ∷ ns) below = go (p v) (views-done p ns (λ i lt. below (suc i) (omega (arith, lt))))
      where
        kept : List ℕ
        kept = filter p ns

        go : (b : Bool) → map (deed_by vs rs) (flat_map (doers_in_view rs (done_entries vs rs journal)) kept) ≡ map Some (flat_map (deeds_in_view vs all_items ordered_items) kept)
            → map (deed_by vs rs) (flat_map (doers_in_view rs (done_entries vs rs journal)) (cond b (v ∷ kept) kept)) ≡ map Some (flat_map (deeds_in_view vs all_items ordered_items) (cond b (v ∷ kept) kept))
        go true later =
            let own : List Deed = deeds_in_view vs all_items ordered_items v in
            let rest : List Deed = flat_map (deeds_in_view vs all_items ordered_items) kept in
            map-more (deed_by vs rs) (doers_in_view rs (done_entries vs rs journal) v) (flat_map (doers_in_view rs (done_entries vs rs journal)) kept)
            ∙ ap (λ (ds : List (Option Deed)). ds ++ map (deed_by vs rs) (flat_map (doers_in_view rs (done_entries vs rs journal)) kept)) (view-done v (lt-ltb v (view_count vs) (below 0 (omega arith))))
            ∙ ap (λ (ds : List (Option Deed)). map Some own ++ ds) later
            ∙ sym (map-more Some own rest)
        go false later = later

pub done-law : DoneLaw
done-law f table = views-done (recordings_of f) f.views (journal_of f) (λ v. list_any (is_of_view v) (items_in (recordings_of f) (journal_of f))) (view_order f.views) table.below
