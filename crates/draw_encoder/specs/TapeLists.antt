-- What is recorded, by its lists.
use Rattle.std.specs.Prelude.{ℕ, ◌≤◌, List, drop, length}
use Rattle.std.specs.List.{AllByRecursion}
use Rattle.gfx_words.specs.declared.rooms.Room.{Room}
use Rattle.draw_encoder.specs.declared.items.Item.{Item}
use Rattle.draw_encoder.specs.declared.items.UniformSet.{UniformSet}
use Rattle.draw_encoder.specs.declared.states.DrawState.{DrawState}
use Rattle.draw_encoder.specs.Seen.{room_seen, items_seen, uniforms_seen, numbers_of, HasVerticesWithin, HasIndicesWithin, HasRangesWithin}
use Rattle.draw_encoder.specs.States.{state_seen}
use Rattle.draw_encoder.specs.TapeViews.{TapeView}

-- the pending values are those from a place on
abbrev pub tape_of : (frame views : ℕ) → Room → DrawState → (pending_at : ℕ) → List Item → List ℕ → List UniformSet → TapeView
tape_of frame views room current pending_at items bytes sets = record {
  recorder = record {
    frame = frame;
    view_count = views;
    room = room_seen room;
    current = state_seen bytes current;
    pending = uniforms_seen (drop pending_at sets);
    items = items_seen bytes sets items;
    used_bytes = length bytes;
    used_uniforms = length sets;
  };
  sets = uniforms_seen sets;
  numbers = numbers_of items;
}

-- each range lies within the bytes or the values
pub record AreRanges (current : DrawState) (pending_at : ℕ) (items : List Item) (bytes : List ℕ) (sets : List UniformSet) : Type 0 where
  pub pending : pending_at ≤ length sets
  pub vertices : HasVerticesWithin (length bytes) current.vertices
  pub indices : HasIndicesWithin (length bytes) current.indices
  pub within : AllByRecursion (HasRangesWithin (length bytes) (length sets)) items
