-- The tape's fields as its view, and what they keep.
use Rattle.std.specs.Prelude.{◌≤◌, vec_len, vec_capacity}
use Rattle.draw_encoder.specs.declared.tape.Tape.TheInside.{Inside}
use Rattle.gfx_model.specs.FrameCalls.{IsRoom}
use Rattle.gfx_words.specs.Seen.{room_seen}
use Rattle.draw_encoder.specs.TapeViews.{TapeView}
use Rattle.draw_encoder.specs.TapeLists.{tape_of, AreRanges}

-- what the fields of a tape record
abbrev pub tape_seen : Inside → TapeView
tape_seen t = tape_of t.frame t.views t.room t.current t.pending_at t.items.items t.bytes.items t.uniforms.items

-- the vectors have room for all that may come, and each range lies within what is there
pub record IsTape (t : Inside) : Type 0 where
  pub room : IsRoom (room_seen t.room)
  pub items : (vec_len t.items ≤ t.room.items) × (t.room.items ≤ vec_capacity t.items)
  pub bytes : (vec_len t.bytes ≤ t.room.bytes) × (t.room.bytes ≤ vec_capacity t.bytes)
  pub uniforms : (vec_len t.uniforms ≤ t.room.uniforms) × (t.room.uniforms ≤ vec_capacity t.uniforms)
  pub ranges : AreRanges t.current t.pending_at t.items.items t.bytes.items t.uniforms.items
