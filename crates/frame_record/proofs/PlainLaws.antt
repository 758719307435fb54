-- What is drawn in an order by key is no blit.
use Rattle.std.proofs.Common.{◌≡◌, ℕ, ◌+◌, Bool, true, false, cond, Option, Some, None, List, [], ◌∷◌, map, refl, sym, subst}
use Rattle.std.specs.Prelude.{filter_map, option_and_then, IfSome}
use Rattle.std.specs.List.{AllByRecursion, cons_option}
use Rattle.gfx_model.specs.Number.{map_from}
use Rattle.gfx_model.specs.Frames as model
use Rattle.gfx_model.specs.Frames.{item_of_entry, is_ordered, with_key, keyed_entry, keyed_entries}
use Rattle.gfx_model.specs.Views.{Views}
use Rattle.gfx_model.specs.World.{Item, draw_item, touch_item, blit_item, is_blit, key_of_item, sorted_by_key}
use Rattle.frame_record.specs.declared.ordering.OrderedItem.{OrderedItem}
use Rattle.frame_record.specs.Ordered.{keyed_of}
use Rattle.frame_record.specs.Placed.{items_in}
use Rattle.frame_record.specs.Seen.{entry_seen}
use Rattle.frame_record.proofs.KeyLaws.{placed_sorted}

all_cons : {A : Type 0} (P : A → Type 0) (o : Option A) (xs : List A) → IfSome o P → AllByRecursion P xs → AllByRecursion P (cons_option o xs)
all_cons P None xs h all = all
all_cons P (Some x) xs h all = (h, all)

module _ (vs : Views) (rs : List model.Recorded) where
  -- the entry has an item that is no blit
  abbrev IsPlain : ℕ × model.Entry → Type 0
  IsPlain x = (i : Item) × (item_of_entry rs x.1 ≡ Some i) × (is_blit i ≡ false)

  plain_key : (place : ℕ) (n : model.Entry) (i : Item) → is_blit i ≡ false → item_of_entry rs n ≡ Some i → IfSome (with_key vs place n i) IsPlain
  plain_key place n i plain is = go (is_ordered vs i)
    where
      go : (b : Bool) → IfSome (cond b (Some (key_of_item vs place i, n)) None) IsPlain
      go true = (i, is, plain)
      go false = tt

  plain_entry : (place : ℕ) (n : model.Entry) (o : Option Item) → item_of_entry rs n ≡ o → IfSome (option_and_then (with_key vs place n) o) IsPlain
  plain_entry place n None is = tt
  plain_entry place n (Some (draw_item d)) is = plain_key place n (draw_item d) refl is
  plain_entry place n (Some (touch_item t)) is = plain_key place n (touch_item t) refl is
  plain_entry place n (Some (blit_item b)) is = tt

  plain_from : (k : ℕ) (journal : List model.Entry) → AllByRecursion IsPlain (filter_map (λ o. o) (map_from (keyed_entry vs rs) k journal))
  plain_from k [] = tt
  plain_from k (n ∷ ns) = all_cons IsPlain (keyed_entry vs rs k n) (filter_map (λ o. o) (map_from (keyed_entry vs rs) (k + 1) ns)) (plain_entry k n (item_of_entry rs n) refl) (plain_from (k + 1) ns)

  plain_items : (xs : List OrderedItem) → AllByRecursion IsPlain (map keyed_of xs) → AllByRecursion (λ i. is_blit i ≡ false) (items_in rs (map (λ o. entry_seen o.entry) xs))
  plain_items [] all = tt
  plain_items (x ∷ xs) all =
      let one : items_in rs (map (λ o. entry_seen o.entry) (x ∷ xs)) ≡ all.0.0 ∷ items_in rs (map (λ o. entry_seen o.entry) xs) = rw all.0.1 refl in
      subst (AllByRecursion (λ i. is_blit i ≡ false)) (sym one) (all.0.2, plain_items xs all.1)

  -- no item of an order by key is a blit
  pub all_plain : (journal : List model.Entry) (xs : List OrderedItem) → map keyed_of xs ≡ sorted_by_key (keyed_entries vs rs journal)
      → AllByRecursion (λ i. is_blit i ≡ false) (items_in rs (map (λ o. entry_seen o.entry) xs))
  all_plain journal xs is = plain_items xs (placed_sorted IsPlain (keyed_entries vs rs journal) (map keyed_of xs) is (plain_from 0 journal))
