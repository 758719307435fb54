-- Draws whose triangles stand in one list.
use Rattle.std.specs.Prelude.{ℕ, ◌-◌, ◌≤◌, ◌<◌, List, length, slice_index_or, take, drop, map}
use Rattle.tri_cover.specs.Shown.{setup_seen}
use Rattle.tri_cover.specs.declared.triangles.Setup.{Setup}
use Rattle.int_raster.specs.Drawing.{PreparedDraw}
use Rattle.int_raster.specs.Seen.{prepared_seen}
use Rattle.int_raster.specs.Covered.{CoverRows}
use Rattle.int_raster.specs.declared.listed.Listed.{Listed}

-- the triangles of a draw among all
abbrev pub own_triangles : List Setup → Listed → List Setup
own_triangles triangles l = take (l.after - l.first) (drop l.first triangles)

-- a draw of a list with its triangles
abbrev pub listed_with : Listed → List Setup → PreparedDraw
listed_with l triangles = prepared_seen (record { cut = l.cut; state = l.state; front = l.front; back = l.back; paint = l.paint }) (map setup_seen triangles)

-- a listed draw with its own of the list's triangles
abbrev pub listed_seen : List Setup → Listed → PreparedDraw
listed_seen triangles l = listed_with l (own_triangles triangles l)

-- the triangles of each draw are there
abbrev pub AreWithin : List Listed → ℕ → Type 0
AreWithin ls n = (i : ℕ) (l : Listed) → i < length ls → ((slice_index_or ls i l).first ≤ (slice_index_or ls i l).after) × ((slice_index_or ls i l).after ≤ n)

-- the triangles of each draw cover no pixels but in its rows
abbrev pub AreInRows : List Listed → List Setup → Type 0
AreInRows ls ts = (i : ℕ) (l : Listed) → i < length ls → CoverRows (slice_index_or ls i l).top (slice_index_or ls i l).bottom (length (own_triangles ts (slice_index_or ls i l))) (own_triangles ts (slice_index_or ls i l))
