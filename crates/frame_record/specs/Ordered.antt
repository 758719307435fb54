-- Items of a frame with their sort keys.
use Rattle.std.specs.Prelude.{ℕ, ◌≡◌, ◌<◌, ◌≤◌, ◌-◌, ◌/◌, ◌^◌, if◌then◌else◌, List, [], ◌∷◌, Option, Some, None, ⊤}
use Rattle.gfx_model.specs.Frames as model
use Rattle.gfx_model.specs.Frames.{item_of_entry}
use Rattle.gfx_model.specs.Views.{Views, KeyFields, key_bits, position_bits, view_count, position_of_view}
use Rattle.gfx_model.specs.World.{Item, key_of_item, view_of_item}
use Rattle.frame_record.specs.declared.ordering.OrderedItem.{OrderedItem}
use Rattle.frame_record.specs.Seen.{entry_seen}

-- an entry with its item's key
abbrev pub keyed_of : OrderedItem → ℕ × model.Entry
keyed_of o = (key_bits o.key, entry_seen o.entry)

-- the position of a view in the order, which the highest bits of a key's number say
abbrev pub position_in : ℕ → ℕ
position_in key = key / 2 ^ (64 - position_bits)

-- the view position in an item's key
abbrev pub position_of : OrderedItem → ℕ
position_of o = position_in (key_bits o.key)

-- the key of an item at a place of the journal, if the item is drawn in an order by key
abbrev pub key_or_none : Views → ℕ → Item → Option ℕ
key_or_none vs place i = if model.is_ordered vs i then Some (key_of_item vs place i) else None

-- an entry with its key, where it has one
abbrev pub one_or_none : Option KeyFields → model.Entry → List (ℕ × model.Entry)
one_or_none None e = []
one_or_none (Some key) e = (key_bits key, e) ∷ []

-- ---- positions

-- numbers of which none is below the one before, nor the first below the given one
abbrev pub AscendFrom : ℕ → List ℕ → Type 0
AscendFrom low [] = ⊤
AscendFrom low (n ∷ ns) = (low ≤ n) × AscendFrom n ns

-- the view is there, and the key has its position
abbrev pub IsOfView : Views → ℕ → ℕ → Type 0
IsOfView vs view key = (view < view_count vs) × (position_in key ≡ position_of_view vs view)

-- the entry has an item, and the key has the position of that item's view
abbrev pub IsPlaced : Views → List model.Recorded → ℕ × model.Entry → Type 0
IsPlaced vs rs x = (i : Item) × (item_of_entry rs x.1 ≡ Some i) × IsOfView vs (view_of_item i) x.0
