-- The ring, and what is recorded of it.
use Rattle.std.specs.Prelude.{◌≡◌, ℕ, ◌+◌, ◌-◌, ◌*◌, ◌%◌, ◌≤◌, ℤ, pos, negsuc, List, [], ◌∷◌, ◌++◌, map, slice_index_or}
use Rattle.std.specs.List.{range_with_len}
use Rattle.gfx.specs.Definitions.{UniformValue, vec4_value, Affine, Item, draw_item, stored_vertices, Recorder, plain_state}
use Rattle.gfx.specs.Calls.{EncoderView}
use Rattle.ring_turning.specs.declared.things.Things.{Things}

-- the cosines of 0 to 15 steps of 22.5 degrees, in 1/65536
abbrev pub cosines : List ℤ
cosines =
    pos 65536 ∷ pos 60547 ∷ pos 46341 ∷ pos 25080 ∷ pos 0 ∷ negsuc 25079 ∷ negsuc 46340 ∷ negsuc 60546
    ∷ negsuc 65535 ∷ negsuc 60546 ∷ negsuc 46340 ∷ negsuc 25079 ∷ pos 0 ∷ pos 25080 ∷ pos 46341 ∷ pos 60547 ∷ []

-- the cosine of so many steps
abbrev pub cosine : ℕ → ℤ
cosine steps = slice_index_or cosines (steps % 16) (pos 0)

-- the turn by so many steps with the clock. The sine is the cosine of 12 steps more, and less the sine that of 4 steps more
abbrev pub turn : ℕ → Affine
turn steps =
    cosine steps ∷ cosine (steps + 12) ∷ pos 0 ∷ pos 0
    ∷ cosine (steps + 4) ∷ cosine steps ∷ pos 0 ∷ pos 0
    ∷ pos 0 ∷ pos 0 ∷ pos 65536 ∷ pos 0 ∷ []

-- the colour of triangle i: from green to red round the ring
abbrev pub color : ℕ → UniformValue
color i = vec4_value (pos (4096 * i) ∷ pos (65536 - 4096 * i) ∷ pos 32768 ∷ pos 65536 ∷ [])

-- the draw of triangle i, turned by so many steps: all else is as at an encoder's beginning
abbrev pub triangle : Things → (steps i : ℕ) → Item
triangle t steps i = draw_item (record {
  view = 0;
  program = t.paint;
  depth = 0;
  state = plain_state.state;
  front = plain_state.front;
  back = plain_state.back;
  scissor = plain_state.scissor;
  model = turn steps;
  vertices = stored_vertices t.corners 0 3;
  indices = plain_state.indices;
  textures = plain_state.textures;
  values = record { uniform = t.color; value = color i } ∷ [];
})

-- so many triangles from the first on, where the ring is turned by so many steps of 16
abbrev pub triangles : Things → (steps first many : ℕ) → List Item
triangles t steps first many = map (λ i. triangle t ((steps + i) % 16) i) (range_with_len first many)

-- an encoder records with the state of its beginning
abbrev pub IsPlain : Recorder → Type 0
IsPlain e = (e.current ≡ plain_state) × (e.pending ≡ [])

-- an encoder of this number has recorded nothing
pub record IsNewEncoder (e : ℕ) (v : EncoderView) : Type 0 where
  pub plain : IsPlain v.recorder
  pub none : v.recorder.items ≡ []
  pub number : v.seat.encoder ≡ e

-- an encoder of this number has recorded nothing, and the ring is turned by so many steps in its frame
pub record IsReady (e steps : ℕ) (v : EncoderView) : Type 0 where
  pub new : IsNewEncoder e v
  pub few : steps ≤ 15
  pub turned : steps ≡ v.seat.frame % 16

-- some items more were recorded
pub record Records (items : List Item) (old new : Recorder) : Type 0 where
  pub items_are : new.items ≡ old.items ++ items
  pub plain : IsPlain new

-- encoder e has half of the ring, as it is turned in frame n, with some things
abbrev pub IsHalf : (e n : ℕ) → List Item → Type 0
IsHalf e n items = (t : Things) × (items ≡ triangles t (n % 16) (8 * e) 8)

-- what an encoder may end with: where no draw was refused, its half of the ring
abbrev pub IsPart : (e n : ℕ) → List Item → (refused : ℕ) → Type 0
IsPart e n items refused = refused ≡ 0 → IsHalf e n items

-- each part may be recorded
abbrev pub TakesParts : (admits : ℕ → ℕ → List Item → ℕ → Type 0) → Type 0
TakesParts admits = (e n : ℕ) (items : List Item) (refused : ℕ) → IsPart e n items refused → admits e n items refused

-- nothing but parts may be recorded
abbrev pub TakesPartsOnly : (admits : ℕ → ℕ → List Item → ℕ → Type 0) → Type 0
TakesPartsOnly admits = (e n : ℕ) (items : List Item) (refused : ℕ) → admits e n items refused → IsPart e n items refused
