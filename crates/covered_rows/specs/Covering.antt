-- Runs of what a triangle covers within a cut.
use Rattle.std.specs.Prelude.{◌≡◌, ◌⊎◌, ℕ, ◌+◌, ◌<◌, ◌≤◌, true, List}
use Rattle.gfx_model.specs.Vertex.{Triangle}
use Rattle.gfx_model.specs.Raster.{Rect, ScreenVertex, contains, covers}
use Rattle.shared_keys.specs.Members.{In}
use Rattle.covered_rows.specs.declared.runs.Run.{Run}
use Rattle.covered_rows.specs.Apart.{HasColumn}

-- a pixel is in a run of a key and an encoder
abbrev pub HasRun : List Run → (key encoder x y : ℕ) → Type 0
HasRun runs key e x y = (r : Run) × In r runs × (r.key ≡ key) × (r.encoder ≡ e) × (r.row ≡ y) × HasColumn r x

-- each pixel of a row of a cut that a triangle covers is in a run
abbrev pub HasRow : List Run → (key encoder : ℕ) → Triangle ScreenVertex → Rect → (width row : ℕ) → Type 0
HasRow runs key e t cut width y = (x : ℕ) → x < width → cut.x ≤ x → x < cut.x + cut.w → covers t x y ≡ true → HasRun runs key e x y

-- the same of the rows before one
abbrev pub HasRowsBefore : List Run → (key encoder : ℕ) → Triangle ScreenVertex → Rect → (width height row : ℕ) → Type 0
HasRowsBefore runs key e t cut width height row = (x y : ℕ) → x < width → y < height → contains cut x y ≡ true → covers t x y ≡ true → y < row → HasRun runs key e x y

-- the same of all rows
abbrev pub HasAll : List Run → (key encoder : ℕ) → Triangle ScreenVertex → Rect → (width height : ℕ) → Type 0
HasAll runs key e t cut width height = (x y : ℕ) → x < width → y < height → contains cut x y ≡ true → covers t x y ≡ true → HasRun runs key e x y

-- what was there is there
abbrev pub Keeps : (old new : List Run) → Type 0
Keeps old new = (r : Run) → In r old → In r new

-- a run is of a key, an encoder and a row, has a column, and a triangle covers each of its columns within a cut
pub record IsOf (key encoder : ℕ) (t : Triangle ScreenVertex) (cut : Rect) (width height : ℕ) (r : Run) : Type 0 where
  pub key_is : r.key ≡ key
  pub encoder_is : r.encoder ≡ encoder
  pub low : r.row < height
  pub some : r.first < r.after
  pub covered : (x : ℕ) → HasColumn r x → (x < width) × (contains cut x r.row ≡ true) × (covers t x r.row ≡ true)

-- runs that were not there are of some kind
abbrev pub AddsOnly : (Run → Type 0) → (old new : List Run) → Type 0
AddsOnly P old new = (r : Run) → In r new → In r old ⊎ P r
