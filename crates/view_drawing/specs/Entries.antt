-- The items of a frame's entries.
use Rattle.std.specs.Prelude.{List, map, Option, Some, None, filter_map}
use Rattle.std.specs.Borrow.{Bor}
use Rattle.gfx_model.specs.Frames as model
use Rattle.gfx_model.specs.World.{Item, Blit, draw_item, touch_item, blit_item}
use Rattle.draw_encoder.specs.declared.items.Item as encoder
use Rattle.draw_encoder.specs.declared.items.Recording.{Recording}
use Rattle.draw_encoder.specs.Seen.{item_seen}
use Rattle.frame_record.specs.declared.frame.Frame.{Frame}
use Rattle.frame_record.specs.declared.ordering.OrderedItem.{OrderedItem}
use Rattle.frame_record.specs.declared.placing.PlacedBlit.{PlacedBlit}
use Rattle.frame_record.specs.Placed.{items_in}
use Rattle.frame_record.specs.Seen.{entry_seen, recordings_seen}

-- an item that was found, with its recording's bytes and values
abbrev pub found_seen : Bor Recording × Bor encoder.Item → Item
found_seen p = item_seen p.0.now.bytes p.0.now.uniforms p.1.now

-- the blit that an item is, if it is one
abbrev pub blit_of : Item → Option Blit
blit_of (draw_item d) = None
blit_of (touch_item t) = None
blit_of (blit_item b) = Some b

-- the blits among the items of entries; entries without an item are passed over
abbrev pub blits_in : List model.Recorded → List model.Entry → List Blit
blits_in rs entries = filter_map blit_of (items_in rs entries)

-- the items of entries of a frame, in order
abbrev pub items_of : Frame → List OrderedItem → List Item
items_of f entries = items_in (recordings_seen f.recordings.items) (map (λ o. entry_seen o.entry) entries)

-- the blits of entries of a frame, in order
abbrev pub blits_of : Frame → List PlacedBlit → List Blit
blits_of f entries = blits_in (recordings_seen f.recordings.items) (map (λ p. entry_seen p.entry) entries)
