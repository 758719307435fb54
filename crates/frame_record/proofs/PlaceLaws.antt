-- Blits with their positions, and the views of items.
use Rattle.std.proofs.Common.{◌≡◌, ℕ, ◌+◌, ◌<◌, ◌≤◌, ◌==◌, ◌||◌, Bool, true, false, cond, nat_lt, Option, Some, None, List, [], ◌∷◌, ◌++◌, map, take, length, slice_index_or, refl, sym, ap, subst, ◌∙◌, arith}
use Rattle.std.specs.Prelude.{filter_map, option_map, option_and_then, IfSome}
use Rattle.std.specs.List.{list_any, AllByRecursion}
use Rattle.std.proofs.lemmas.Bool.{lt-ltb}
use Rattle.std.proofs.lemmas.List.{take_more, map-append}
use Rattle.std.proofs.lemmas.List.Elements.{filter_map-append}
use Rattle.std.proofs.lemmas.List.Folds.{list_any-append}
use Rattle.gfx_model.specs.Frames as model
use Rattle.gfx_model.specs.Frames.{item_of_entry}
use Rattle.gfx_model.specs.Views.{Views, view_count, position_of_view}
use Rattle.gfx_model.specs.World.{Item, Blit, draw_item, touch_item, blit_item, is_of_view, view_of_item, sorted_by_key}
use Rattle.gfx_model.proofs.OrderedLaws.{Ascends, sorted-ascends}
use Rattle.schedule_model.proofs.Lists.{all-append}
use Rattle.gfx_words.specs.declared.journal.JournalEntry.{JournalEntry}
use Rattle.frame_record.specs.declared.placing.PlacedBlit.{PlacedBlit}
use Rattle.frame_record.specs.Ordered.{AscendFrom}
use Rattle.frame_record.specs.Placed.{placed_of, blit_position, position_of_blit, one_placed, blit_entries, items_in, IsBlitAt}
use Rattle.frame_record.specs.Seen.{entry_seen}
use Rattle.frame_record.proofs.KeyLaws.{placed_sorted}

-- a blit in a view that is there, and in one that is not
pub blit_placed : (vs : Views) (b : Blit) (position : ℕ) → b.view < view_count vs → position ≡ position_of_view vs b.view → Some position ≡ blit_position vs (blit_item b)
blit_placed vs b position h is = rw (lt-ltb b.view (view_count vs) h) (ap Some is)

pub blit_left : (vs : Views) (b : Blit) → view_count vs ≤ b.view → None ≡ blit_position vs (blit_item b)
blit_left vs b h = let no : nat_lt b.view (view_count vs) ≡ false = grind (arith, h) in rw no refl

one_kept : (position : Option ℕ) (e : model.Entry) → filter_map (λ (o : Option (ℕ × model.Entry)). o) (option_map (λ (p : ℕ). (p, e)) position ∷ []) ≡ one_placed position e
one_kept None e = refl
one_kept (Some p) e = refl

one_entry : (vs : Views) (rs : List model.Recorded) (e : model.Entry) (position : Option ℕ) → position_of_blit vs rs e ≡ position → blit_entries vs rs (e ∷ []) ≡ one_placed position e
one_entry vs rs e None is = rw is refl
one_entry vs rs e (Some p) is = rw is refl

-- one entry more
pub blits_more : (vs : Views) (rs : List model.Recorded) (journal : List JournalEntry) (place : ℕ) (d : JournalEntry) (position : Option ℕ) → place < length journal
    → position ≡ position_of_blit vs rs (entry_seen (slice_index_or journal place d))
    → blit_entries vs rs (map entry_seen (take (place + 1) journal)) ≡ blit_entries vs rs (map entry_seen (take place journal)) ++ one_placed position (entry_seen (slice_index_or journal place d))
blits_more vs rs journal place d position within is =
    let e : JournalEntry = slice_index_or journal place d in
    ap (λ xs. blit_entries vs rs (map entry_seen xs)) (take_more journal place d within)
    ∙ ap (blit_entries vs rs) (map-append entry_seen (take place journal) (e ∷ []))
    ∙ filter_map-append (λ (n : model.Entry). option_map (λ (p : ℕ). (p, n)) (position_of_blit vs rs n)) (map entry_seen (take place journal)) (entry_seen e ∷ [])
    ∙ ap (λ zs. blit_entries vs rs (map entry_seen (take place journal)) ++ zs) (one_entry vs rs (entry_seen e) position (sym is))

-- ---- the views of items

or_false : (b : Bool) → (b || false) ≡ b
or_false true = refl
or_false false = refl

-- the item of one entry, and one entry without an item
pub noted_item : (rs : List model.Recorded) (e : model.Entry) (v : ℕ) (x : Item) (old new : Bool) → Some x ≡ item_of_entry rs e → new ≡ (old || (view_of_item x == v))
    → new ≡ (old || list_any (is_of_view v) (items_in rs (e ∷ [])))
noted_item rs e v x old new there is = is ∙ ap (λ b. old || b) (sym one)
  where
    one : list_any (is_of_view v) (items_in rs (e ∷ [])) ≡ (view_of_item x == v)
    one = rw (sym there) (or_false (view_of_item x == v))

pub noted_none : (rs : List model.Recorded) (e : model.Entry) (v : ℕ) (old : Bool) → None ≡ item_of_entry rs e → old ≡ (old || list_any (is_of_view v) (items_in rs (e ∷ [])))
noted_none rs e v old gone = sym (or_false old) ∙ ap (λ b. old || b) (sym none)
  where
    none : list_any (is_of_view v) (items_in rs (e ∷ [])) ≡ false
    none = rw (sym gone) refl

-- one entry more
pub noted_more : (rs : List model.Recorded) (journal : List JournalEntry) (place : ℕ) (d : JournalEntry) (v : ℕ) (old new : Bool) → place < length journal
    → old ≡ list_any (is_of_view v) (items_in rs (map entry_seen (take place journal)))
    → new ≡ (old || list_any (is_of_view v) (items_in rs (entry_seen (slice_index_or journal place d) ∷ [])))
    → new ≡ list_any (is_of_view v) (items_in rs (map entry_seen (take (place + 1) journal)))
noted_more rs journal place d v old new within was is =
    let e : JournalEntry = slice_index_or journal place d in
    is ∙ ap (λ b. b || list_any (is_of_view v) (items_in rs (entry_seen e ∷ []))) was
    ∙ sym (ap (λ xs. list_any (is_of_view v) (items_in rs (map entry_seen xs))) (take_more journal place d within)
    ∙ ap (λ xs. list_any (is_of_view v) (items_in rs xs)) (map-append entry_seen (take place journal) (e ∷ []))
    ∙ ap (list_any (is_of_view v)) (filter_map-append (item_of_entry rs) (map entry_seen (take place journal)) (entry_seen e ∷ []))
    ∙ list_any-append (is_of_view v) (items_in rs (map entry_seen (take place journal))) (items_in rs (entry_seen e ∷ [])))

-- ---- positions

places_from : (low : ℕ) (ps : List PlacedBlit) → Ascends low (map placed_of ps) → AscendFrom low (map (λ p. p.position) ps)
places_from low [] a = tt
places_from low (p ∷ ps) a = (a.0, places_from p.position ps a.1)

pub places_ascend : (old : List (ℕ × model.Entry)) (ps : List PlacedBlit) → map placed_of ps ≡ sorted_by_key old → AscendFrom 0 (map (λ p. p.position) ps)
places_ascend old ps is = places_from 0 ps (subst (Ascends 0) (sym is) (sorted-ascends old))

module _ (vs : Views) (rs : List model.Recorded) where
  blit_at : (e : model.Entry) (o : Option Item) → item_of_entry rs e ≡ o → IfSome (option_and_then (blit_position vs) o) (λ p. IsBlitAt vs rs (p, e))
  blit_at e None is = tt
  blit_at e (Some (draw_item d)) is = tt
  blit_at e (Some (touch_item t)) is = tt
  blit_at e (Some (blit_item b)) is = here (nat_lt b.view (view_count vs)) refl
    where
      here : (c : Bool) → nat_lt b.view (view_count vs) ≡ c → IfSome (cond c (Some (position_of_view vs b.view)) None) (λ p. IsBlitAt vs rs (p, e))
      here true within = (b, is, grind (arith, within), refl)
      here false within = tt

  one_all : (e : model.Entry) (o : Option ℕ) → IfSome o (λ p. IsBlitAt vs rs (p, e)) → AllByRecursion (IsBlitAt vs rs) (one_placed o e)
  one_all e None h = tt
  one_all e (Some p) h = (h, tt)

  all_placed : (journal : List model.Entry) → AllByRecursion (IsBlitAt vs rs) (blit_entries vs rs journal)
  all_placed [] = tt
  all_placed (e ∷ es) =
      subst (AllByRecursion (IsBlitAt vs rs))
      (sym (filter_map-append (λ (n : model.Entry). option_map (λ (p : ℕ). (p, n)) (position_of_blit vs rs n)) (e ∷ []) es ∙ ap (λ xs. xs ++ blit_entries vs rs es) (one_entry vs rs e (position_of_blit vs rs e) refl)))
      (all-append (IsBlitAt vs rs) (one_placed (position_of_blit vs rs e) e) (blit_entries vs rs es) (one_all e (position_of_blit vs rs e) (blit_at e (item_of_entry rs e) refl)) (all_placed es))

  pub places_placed : (journal : List model.Entry) (ps : List PlacedBlit) → map placed_of ps ≡ sorted_by_key (blit_entries vs rs journal) → AllByRecursion (IsBlitAt vs rs) (map placed_of ps)
  places_placed journal ps is = placed_sorted (IsBlitAt vs rs) (blit_entries vs rs journal) (map placed_of ps) is (all_placed journal)
