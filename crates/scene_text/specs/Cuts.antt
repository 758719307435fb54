-- A line that is cut into its fields while its end is looked for, 32 bytes at a time.
use Rattle.std.specs.Prelude.{◌≡◌, ℕ, ◌+◌, ◌-◌, ◌<◌, ◌≤◌, Bool, true, false, ◌&&◌, nat_le, List, ◌++◌, length, take, drop, slice_index, ⊤}
use Rattle.std.specs.Int.{bit_at}
use Rattle.std.specs.List.{list_all}
use Rattle.scene_model.specs.Field.{split_at}
use Rattle.scene_model.specs.Grammar.{Field, is_text_byte}
use Rattle.scene_text.specs.declared.splitting.Step.{Step}
use Rattle.scene_text.specs.declared.splitting.Step.TheVariants as steps

-- a byte of a field: a text byte but the blank
abbrev pub is_visible : ℕ → Bool
is_visible b = nat_le 33 b && nat_le b 126

-- the bytes between two places are visible
abbrev pub AreVisible : List ℕ → ℕ → ℕ → Type 0
AreVisible bytes from to = (k : ℕ) → from ≤ k → k < to → is_visible (slice_index bytes k) ≡ true

-- of the 32 bytes from a place on, those that are not visible are marked, and no more than 32 bits are set
pub record AreMarks (bytes : List ℕ) (from marks : ℕ) : Type 0 where
  pub each : (k : ℕ) → k < 32 → is_visible (slice_index bytes (from + k)) ≡ false → bit_at marks k ≡ 1
  pub within : (k : ℕ) → bit_at marks k ≡ 1 → k < 32

-- text bytes stand before the place, and however far the line goes, it has these fields and then those from the place on
pub record IsCut (bytes : List ℕ) (place : ℕ) (fields : List Field) : Type 0 where
  pub within : place ≤ length bytes
  pub text : (k : ℕ) → k < place → is_text_byte (slice_index bytes k) ≡ true
  pub cut : (end : ℕ) → place ≤ end → split_at 32 (take end bytes) ≡ fields ++ split_at 32 (take (end - place) (drop place bytes))

-- the same, and the field that begins there goes on up to a further place
pub record IsOpen (bytes : List ℕ) (start upto : ℕ) (fields : List Field) : Type 0 where
  pub cut : IsCut bytes start fields
  pub ordered : start ≤ upto
  pub visible : AreVisible bytes start upto

-- a line of text bytes that a newline ends, with its fields
pub record IsLine (bytes : List ℕ) (end : ℕ) (fs : List Field) : Type 0 where
  pub within : end < length bytes
  pub newline : slice_index bytes end ≡ 10
  pub text : list_all is_text_byte (take end bytes) ≡ true
  pub fields : fs ≡ split_at 32 (take end bytes)

-- what was found in the bytes up to a place
abbrev pub IsStep : List ℕ → ℕ → List Field → Step → Type 0
IsStep bytes upto fields (steps.Open place) = IsOpen bytes place upto fields
IsStep bytes upto fields (steps.Line end) = IsLine bytes end fields
IsStep bytes upto fields steps.Other = ⊤

-- of the 32 bytes from a place on, those from the open field on that are not visible are marked
pub record IsPending (bytes : List ℕ) (start from marks : ℕ) : Type 0 where
  pub each : (k : ℕ) → start ≤ k → k < from + 32 → is_visible (slice_index bytes k) ≡ false → (from ≤ k) × (bit_at marks (k - from) ≡ 1)
  pub within : (k : ℕ) → bit_at marks k ≡ 1 → (start ≤ from + k) × (k < 32)

-- a line of text bytes is split into its fields
pub record IsSplit (line : List ℕ) (fs : List Field) : Type 0 where
  pub text : list_all is_text_byte line ≡ true
  pub fields : fs ≡ split_at 32 line
