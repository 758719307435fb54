-- What is known of a bundle.
use Rattle.std.specs.Prelude.{◌≡◌, ◌≤◌, ℕ, List, [], length}
use Rattle.std.specs.List.{AllByRecursion}
use Rattle.atomic_table.specs.Seated.{TableId}
use Rattle.gfx_model.specs.FrameCalls.{most_items}
use Rattle.gfx_model.specs.World.{Item}
use Rattle.schedule_model.specs.Held.{Ascends}
use Rattle.hold_table.specs.declared.table.EncSeat.{EncSeat}
use Rattle.hold_table.specs.Seats.{enc_view}
use Rattle.draw_encoder.specs.declared.items.Recording.{Recording}
use Rattle.draw_encoder.specs.Seen.{items_seen, uniforms_seen, numbers_of, HasRangesWithin}
use Rattle.draw_encoder.specs.Names.{HasNamed, FitsUniform, FitsItem}

-- the name of no table
abbrev pub no_table : TableId
no_table = record { words = 0; slots = 0; views_name = 0; atom = 0; block = 0; offset = 0; slot_names = [] }

-- a recording's items without draw numbers, with its bytes and values in place of ranges
abbrev pub items_of : Recording → List Item
items_of r = items_seen r.bytes r.uniforms r.items

-- a recording and its seat: the encoder's number, the frame and the draw numbers are the seat's, the numbers ascend, each range lies within the bytes or the values,
-- each handle is of a thing that the seat named and of the kind that its call asked, and each view is below the number of views
pub record BelongTogether (views : ℕ) (r : Recording) (seat : EncSeat) : Type 0 where
  pub encoder : r.encoder ≡ (enc_view seat).encoder
  pub frame : r.frame ≡ (enc_view seat).frame
  pub numbers : numbers_of r.items ≡ (enc_view seat).numbers
  pub ascends : Ascends (numbers_of r.items)
  pub few : length r.items ≤ most_items
  pub within : AllByRecursion (HasRangesWithin (length r.bytes) (length r.uniforms)) r.items
  pub items : AllByRecursion (FitsItem (HasNamed (enc_view seat)) views) (items_of r)
  pub uniforms : AllByRecursion (FitsUniform (HasNamed (enc_view seat))) (uniforms_seen r.uniforms)
