-- Frames as they are handed over: recordings of encoders, the journal of their items, and the order in which they are drawn.
use Rattle.std.specs.Prelude.{◌≢◌, ◌||◌, true, is_some, ℕ, Bool, false, ◌&&◌, ◌==◌, nat_lt, if◌then◌else◌, List, [], ◌∷◌, map, filter, filter_map, flat_map, Option, Some, None, option_map, option_and_then, slice_get, unwrap_or, ⊤, length, ◌≤◌, ◌≡◌}
use Rattle.std.specs.List.{AllByRecursion, range_with_len}
use Rattle.gfx_model.specs.Number.{map_from}
use Rattle.gfx_model.specs.Words.{program_kind, is_kind}
use Rattle.gfx_model.specs.Views.{Views, view_count}
use Rattle.gfx_model.specs.World.{Item, draw_item, touch_item, blit_item, is_blit, ordered, Numbered, key_of_item, sorted_by_key}

-- ---- journals

-- an item by its encoder and its place among that encoder's items
pub record Entry : Type 0 where
  pub encoder : ℕ
  pub ordinal : ℕ

-- the ordinals of an encoder's entries, in order
abbrev pub ordinals_of : ℕ → List Entry → List ℕ
ordinals_of e entries = map (λ n. n.ordinal) (filter (λ n. n.encoder == e) entries)

-- what an encoder recorded in a frame: its items in order, each with the number that it drew
pub record Recorded : Type 0 where
  pub encoder : ℕ
  pub items : List Numbered

-- the entries of a recording's items from a place on, each with its item's number
abbrev pub numbered_from : ℕ → ℕ → List Numbered → List (ℕ × Entry)
numbered_from e ordinal items = map_from (λ k i. (i.number, record { encoder = e; ordinal = k })) ordinal items

-- a recording's entries in order, each with its item's number
abbrev pub numbered_entries : Recorded → List (ℕ × Entry)
numbered_entries r = numbered_from r.encoder 0 r.items

-- the journal of several recordings: the entries of all their items, ascending by number
abbrev pub collected : List Recorded → List Entry
collected rs = map (λ x. x.1) (sorted_by_key (flat_map numbered_entries rs))

-- ---- the item of an entry

-- what an encoder recorded, of the first recording that is its own; nothing without one
abbrev pub items_by : List Recorded → ℕ → List Numbered
items_by [] e = []
items_by (r ∷ rs) e = if r.encoder == e then r.items else items_by rs e

-- the item that an entry names, if there is one
abbrev pub item_of_entry : List Recorded → Entry → Option Item
item_of_entry rs n = option_map (λ i. i.item) (slice_get (items_by rs n.encoder) n.ordinal)

-- ---- the draw order

-- whether an item is drawn in an order by key: a draw of a program, or a touch, in a view that is there
abbrev pub is_ordered : Views → Item → Bool
is_ordered vs (draw_item d) = nat_lt d.view (view_count vs) && is_kind d.program.kind program_kind
is_ordered vs (touch_item t) = nat_lt t.view (view_count vs)
is_ordered vs (blit_item b) = false

-- something with the key of an item at a place of the journal, if the item is drawn in an order by key
abbrev pub with_key : {A : Type 0} → Views → ℕ → A → Item → Option (ℕ × A)
with_key vs place x i = if is_ordered vs i then Some (key_of_item vs place i, x) else None

-- an entry at a place of the journal with the key of its item, if that has one
abbrev pub keyed_entry : Views → List Recorded → ℕ → Entry → Option (ℕ × Entry)
keyed_entry vs rs place n = option_and_then (with_key vs place n) (item_of_entry rs n)

-- whether an entry has an item that is drawn in an order by key
abbrev pub has_key : Views → List Recorded → Entry → Bool
has_key vs rs n = unwrap_or (option_map (is_ordered vs) (item_of_entry rs n)) false

-- the entries of a journal that have a key, each with it
abbrev pub keyed_entries : Views → List Recorded → List Entry → List (ℕ × Entry)
keyed_entries vs rs journal = filter_map (λ o. o) (map_from (keyed_entry vs rs) 0 journal)

-- the entries of a journal's draws and touches, ascending by key, and at equal keys by their places in the journal
abbrev pub draw_order : Views → List Recorded → List Entry → List Entry
draw_order vs rs journal = map (λ x. x.1) (sorted_by_key (keyed_entries vs rs journal))

-- ---- laws of both

-- no two recordings are of one encoder
abbrev pub AreOfOwnEncoders : List Recorded → Type 0
AreOfOwnEncoders [] = ⊤
AreOfOwnEncoders (r ∷ rs) = AllByRecursion (λ x. x.encoder ≢ r.encoder) rs × AreOfOwnEncoders rs

-- numbers ascend, from one on
abbrev pub NumbersAscend : ℕ → List Numbered → Type 0
NumbersAscend low [] = ⊤
NumbersAscend low (i ∷ rest) = (low ≤ i.number) × NumbersAscend i.number rest

-- the journal has each item of each encoder once, in the encoder's order
abbrev pub CollectedLaw : Type 0
CollectedLaw = (rs : List Recorded) (e : ℕ) → AreOfOwnEncoders rs → AllByRecursion (λ r. NumbersAscend 0 r.items) rs
    → ordinals_of e (collected rs) ≡ range_with_len 0 (length (items_by rs e))

-- the draw order has each entry of the journal that has a key as often as the journal, and no other
abbrev pub DrawOrderLaw : Type 0
DrawOrderLaw = (vs : Views) (rs : List Recorded) (journal : List Entry) (p : Entry → Bool)
    → length (filter p (draw_order vs rs journal)) ≡ length (filter p (filter (has_key vs rs) journal))

-- where each entry has an item, and each item is a blit or has a key, the items of the draw order are those of the journal in the order of the frame step
abbrev pub OrderedItemsLaw : Type 0
OrderedItemsLaw = (vs : Views) (rs : List Recorded) (journal : List Entry) → AllByRecursion (λ n. is_some (item_of_entry rs n) ≡ true) journal
    → AllByRecursion (λ i. (is_blit i || is_ordered vs i) ≡ true) (filter_map (item_of_entry rs) journal)
    → filter_map (item_of_entry rs) (draw_order vs rs journal) ≡ ordered vs (filter_map (item_of_entry rs) journal)
