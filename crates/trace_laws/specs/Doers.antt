-- Whose deeds they are: a view's clear, or an item by its encoder and its place among the encoder's items.
use Rattle.std.specs.List.{AllByRecursion}
use Rattle.std.specs.Prelude.{◌≡◌, ◌||◌, is_some, filter_map, true, ℕ, Bool, false, List, ◌∷◌, ◌++◌, map, filter, flat_map, Option, Some, option_map, unwrap_or}
use Rattle.gfx_model.specs.Number.{map_from}
use Rattle.gfx_model.specs.Views.{view_at}
use Rattle.gfx_model.specs.World.{Item, is_blit, is_of_view, numbered, entered_views}
use Rattle.std.specs.List.{list_any}
use Rattle.gfx_model.specs.Views.{Views, view_order}
use Rattle.gfx_model.specs.Frames.{Entry, Recorded, draw_order, is_ordered, item_of_entry}
use Rattle.scene_model.specs.Fold.{Accepted, FramePlan}
use Rattle.scene_model.specs.Journal.{item_of, frame_content}
use Rattle.trace_laws.specs.Deeds.{Deed, clear_deed, item_deed, deeds}

-- a clear of a view, or an item of a view
pub data Doer : Type 0 where
  clear_doer : (view : ℕ) → Doer
  item_doer : (view : ℕ) → Entry → Doer

-- what the encoders of a plan recorded
abbrev pub recorded_of : List Accepted → List Recorded
recorded_of encoders = map_from (λ e a. record { encoder = e; items = numbered a.items }) 0 encoders

-- whether an entry has an item of some sort
abbrev pub has_such : (Item → Bool) → List Accepted → Entry → Bool
has_such p encoders n = unwrap_or (option_map p (item_of encoders n)) false

-- whose deeds those of a view that is entered are
abbrev pub doers_of_view : FramePlan → List Entry → ℕ → List Doer
doers_of_view p entries v =
    clear_doer v ∷ map (item_doer v) (filter (has_such (is_of_view v) p.encoders) (filter (has_such is_blit p.encoders) entries ++ draw_order p.views (recorded_of p.encoders) entries))

-- whose deeds those of a frame are, in the order of the deeds
abbrev pub doers : FramePlan → List Entry → List Doer
doers p entries = flat_map (doers_of_view p entries) (entered_views (frame_content p entries))

-- the deed of a doer, if there is one
abbrev pub deed_of : FramePlan → Doer → Option Deed
deed_of p (clear_doer v) = Some (clear_deed (view_at p.views v))
deed_of p (item_doer v n) = option_map (item_deed (view_at p.views v)) (item_of p.encoders n)

-- where each entry has an item, and each item is a blit or is drawn in an order, the doers' deeds are those of the frame
abbrev pub DoersLaw : Type 0
DoersLaw = (p : FramePlan) (entries : List Entry) → AllByRecursion (λ n. is_some (item_of p.encoders n) ≡ true) entries → AllByRecursion (λ i. (is_blit i || is_ordered p.views i) ≡ true) (filter_map (item_of p.encoders) entries)
    → map (deed_of p) (doers p entries) ≡ map Some (deeds (frame_content p entries))

-- ---- the same of recordings

-- whether an entry's recording has an item of some sort there
abbrev pub has_in : (Item → Bool) → List Recorded → Entry → Bool
has_in p rs n = unwrap_or (option_map p (item_of_entry rs n)) false

-- the entries of a frame in the order in which their items are done in each view: the blits as they stand in the journal, then the draws and touches in their order
abbrev pub done_entries : Views → List Recorded → List Entry → List Entry
done_entries vs rs journal = filter (has_in is_blit rs) journal ++ draw_order vs rs journal

-- whose deeds those of a view that is entered are, of entries in the order in which their items are done
abbrev pub doers_in_view : List Recorded → List Entry → ℕ → List Doer
doers_in_view rs entries v = clear_doer v ∷ map (item_doer v) (filter (has_in (is_of_view v) rs) entries)

-- the items of a journal
abbrev pub items_in : List Recorded → List Entry → List Item
items_in rs journal = filter_map (item_of_entry rs) journal

-- whose deeds those of a frame of recordings are
abbrev pub doers_in : Views → List Recorded → List Entry → List Doer
doers_in vs rs journal = flat_map (doers_in_view rs (done_entries vs rs journal)) (filter (λ v. list_any (is_of_view v) (items_in rs journal)) (view_order vs))
