-- Lines of a block that are read in one pass, each by the fields that its word wants.
use Rattle.std.specs.Prelude.{◌≡◌, ℕ, ◌+◌, ◌-◌, ◌<◌, ◌≤◌, true, List, ◌∷◌, length, take, drop, Ok, slice_index}
use Rattle.std.specs.List.{list_all}
use Rattle.scene_model.specs.Field.{BoundName, split_at, is_digit, value_onto}
use Rattle.scene_model.specs.Scene.{EncoderLine, SceneFrame}
use Rattle.scene_model.specs.Grammar.{Field, Reading, in_block, line_read, read_pieces, whole_language, on_last_frame, with_encoder_line}
use Rattle.scene_text.specs.Cuts.{AreVisible}

-- the bytes between two places
abbrev pub part : List ℕ → ℕ → ℕ → Field
part bytes from end = take (end - from) (drop from bytes)

-- a field goes from one place to another, where a byte stands
pub record IsPart (bytes : List ℕ) (from end stop : ℕ) : Type 0 where
  pub ordered : from ≤ end
  pub within : end < length bytes
  pub visible : AreVisible bytes from end
  pub stops : slice_index bytes end ≡ stop

-- between the places stand digits, with their value
pub record AreDigits (bytes : List ℕ) (from end n : ℕ) : Type 0 where
  pub ordered : from ≤ end
  pub within : end ≤ length bytes
  pub digits : list_all is_digit (part bytes from end) ≡ true
  pub value : n ≡ value_onto 0 (part bytes from end)

-- in a block with these names the first line, which ends there, is a line of the encoder
pub record IsFirstLine (names : List BoundName) (bytes : List ℕ) (end : ℕ) (line : EncoderLine) : Type 0 where
  pub within : end < length bytes
  pub first : split_at 10 bytes ≡ take end bytes ∷ split_at 10 (drop (end + 1) bytes)
  pub read : (r : Reading) → r.stage ≡ in_block → r.names ≡ names → line_read whole_language r (take end bytes) ≡ Ok (on_last_frame (with_encoder_line line) r)

-- the reading with other frames
abbrev pub with_frames : List SceneFrame → Reading → Reading
with_frames frames r = record r { frames = frames }

-- the lines up to a place lead from one state to another
pub record AreRead (bytes : List ℕ) (place lines : ℕ) (old new : Reading) : Type 0 where
  pub within : place ≤ length bytes
  pub few : lines ≤ place
  pub same : (n : ℕ) → read_pieces whole_language n (Ok old) (split_at 10 bytes) ≡ read_pieces whole_language (n + lines) (Ok new) (split_at 10 (drop place bytes))
