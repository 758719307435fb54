-- Blits of a frame with the positions of their views.
use Rattle.std.specs.Prelude.{ℕ, ◌≡◌, ◌<◌, nat_lt, if◌then◌else◌, List, [], ◌∷◌, Option, Some, None, filter_map, option_map, option_and_then}
use Rattle.gfx_model.specs.Frames as model
use Rattle.gfx_model.specs.Frames.{item_of_entry}
use Rattle.gfx_model.specs.Views.{Views, view_count, position_of_view}
use Rattle.gfx_model.specs.World.{Item, Blit, draw_item, touch_item, blit_item}
use Rattle.frame_record.specs.declared.placing.PlacedBlit.{PlacedBlit}
use Rattle.frame_record.specs.Seen.{entry_seen}

-- a blit's entry with its view's position
abbrev pub placed_of : PlacedBlit → ℕ × model.Entry
placed_of p = (p.position, entry_seen p.entry)

-- the position of a blit's view, where it is there
abbrev pub blit_position : Views → Item → Option ℕ
blit_position vs (draw_item d) = None
blit_position vs (touch_item t) = None
blit_position vs (blit_item b) = if nat_lt b.view (view_count vs) then Some (position_of_view vs b.view) else None

-- the position of the view of an entry's blit, if it is one and its view is there
abbrev pub position_of_blit : Views → List model.Recorded → model.Entry → Option ℕ
position_of_blit vs rs n = option_and_then (blit_position vs) (item_of_entry rs n)

-- an entry with its position, where it has one
abbrev pub one_placed : Option ℕ → model.Entry → List (ℕ × model.Entry)
one_placed None n = []
one_placed (Some position) n = (position, n) ∷ []

-- the entries of a journal that are blits of views that are there, each with the position of its view
abbrev pub blit_entries : Views → List model.Recorded → List model.Entry → List (ℕ × model.Entry)
blit_entries vs rs journal = filter_map (λ n. option_map (λ p. (p, n)) (position_of_blit vs rs n)) journal

-- the items of a journal, in order
abbrev pub items_in : List model.Recorded → List model.Entry → List Item
items_in rs journal = filter_map (item_of_entry rs) journal

-- the entry's item is a blit of a view that is there, and the place is that view's position
abbrev pub IsBlitAt : Views → List model.Recorded → ℕ × model.Entry → Type 0
IsBlitAt vs rs x = (b : Blit) × (item_of_entry rs x.1 ≡ Some (blit_item b)) × (b.view < view_count vs) × (x.0 ≡ position_of_view vs b.view)
