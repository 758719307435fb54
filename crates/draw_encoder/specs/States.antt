-- The state for the next draw.
use Rattle.std.specs.Prelude.{ℕ, List, [], ◌∷◌}
use Rattle.gfx_model.specs.Recorder as model
use Rattle.fix_math.specs.Seen.{rect_seen, affine_seen}
use Rattle.draw_encoder.specs.declared.states.DrawState.{DrawState}
use Rattle.gfx_model.specs.Words.{Handle}
use Rattle.draw_encoder.specs.declared.items.DrawItem.{DrawItem}
use Rattle.draw_encoder.specs.Seen.{vertices_seen, indices_seen, HasVerticesWithin, HasIndicesWithin}

-- the state as the definitions see it, with the bytes of its ranges
abbrev pub state_seen : List ℕ → DrawState → model.DrawState
state_seen bytes s = record {
  state = s.state;
  front = s.front;
  back = s.back;
  scissor = rect_seen s.scissor;
  model = affine_seen s.model;
  vertices = vertices_seen bytes s.vertices;
  indices = indices_seen bytes s.indices;
  textures = s.first_texture ∷ s.second_texture ∷ [];
}

-- the state with the plain state word, no stencil and no scissor
abbrev pub with_plain_words : DrawState → DrawState
with_plain_words s = record s { state = 15; front = 0; back = 0; scissor = record { x = 0; y = 0; w = 0; h = 0 } }

-- the item of a draw with the state
abbrev pub drawn_with : DrawState → ℕ → ℕ → Handle → ℕ → ℕ → ℕ → DrawItem
drawn_with s view number program depth values_at values = record {
  view = view;
  number = number;
  program = program;
  depth = depth;
  state = s.state;
  front = s.front;
  back = s.back;
  scissor = s.scissor;
  model = s.model;
  vertices = s.vertices;
  indices = s.indices;
  textures = s.first_texture ∷ s.second_texture ∷ [];
  values_at = values_at;
  values = values;
}

-- the ranges of the state lie within as many bytes
abbrev pub HasStateWithin : ℕ → DrawState → Type 0
HasStateWithin many s = HasVerticesWithin many s.vertices × HasIndicesWithin many s.indices
