-- What a letter is, and what it says of the encoder that it is the end of.
use Rattle.std.specs.Prelude.{ℕ, ◌≡◌, List, Option, Some, None}
use Rattle.atomic_table.specs.Seated.{TableId}
use Rattle.gfx_model.specs.World.{Item}
use Rattle.hold_table.specs.declared.table.EncSeat.{EncSeat}
use Rattle.hold_table.specs.Seats.{enc_table, enc_view}
use Rattle.draw_encoder.specs.declared.items.Recording.{Recording}
use Rattle.draw_encoder.specs.Bundles.{BelongTogether, items_of}

-- the end of an encoder: its recording, or none where it was given up; and its seat
abbrev pub Letter : Type 0
Letter = Option Recording × EncSeat

-- a letter is of a table
abbrev pub IsOf : TableId → Letter → Type 0
IsOf table letter = enc_table letter.1 ≡ table

-- a recording and its seat belong together, in a frame with 512 views, and were posted as they are; or the encoder of the seat was given up
abbrev pub Says : (ℕ → ℕ → List Item → ℕ → Type 0) → (ℕ → ℕ → Type 0) → Option Recording → EncSeat → Type 0
Says posted given_up (Some r) seat = BelongTogether 512 r seat × posted r.encoder r.frame (items_of r) r.dropped
Says posted given_up None seat = given_up (enc_view seat).encoder (enc_view seat).frame
