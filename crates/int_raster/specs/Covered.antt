-- Rows that triangles may cover.
use Rattle.std.specs.Prelude.{ℕ, ◌≡◌, ◌≤◌, ◌<◌, true, List, slice_index_or}
use Rattle.gfx_model.specs.Raster.{covers}
use Rattle.tri_cover.specs.Shown.{setup_seen}
use Rattle.tri_cover.specs.declared.triangles.Setup.{Setup}

-- the first n of these triangles cover no pixels of a surface but in the rows from top up to bottom
abbrev pub CoverRows : (top bottom n : ℕ) → List Setup → Type 0
CoverRows top bottom n ts = (i x y : ℕ) (s : Setup) → i < n → y < 65535 → covers (setup_seen (slice_index_or ts i s)).triangle x y ≡ true → (top ≤ y) × (y < bottom)
