-- Runs of triangles and of items.
use Rattle.std.specs.Prelude.{◌≡◌, ℕ, List, Option, Some, None}
use Rattle.gfx_model.specs.Raster.{Rect}
use Rattle.gfx_model.specs.Views.{View}
use Rattle.gfx_model.specs.World.{Item, draw_item}
use Rattle.store_model.specs.Slots.{at}
use Rattle.store_laws.specs.ByIndex.{Stores}
use Rattle.tri_cover.specs.Seen.{triangle_seen}
use Rattle.tri_cover.specs.declared.triangles.Setup.{Setup}
use Rattle.shared_keys.specs.Members.{In}
use Rattle.covered_rows.specs.declared.runs.Run.{Run}
use Rattle.covered_rows.specs.Covering.{HasAll, IsOf}
use Rattle.harmless_views.specs.Covers.{HasCovers, IsRunOf}

-- what triangles cover of a cut is in runs of a key and an encoder
abbrev pub HasTriangles : List Run → (key encoder : ℕ) → List Setup → Rect → (width height : ℕ) → Type 0
HasTriangles runs key e triangles cut width height = (s : Setup) → In s triangles → HasAll runs key e (triangle_seen s.a s.b s.c) cut width height

-- an item is a draw, and what it covers is in such runs
abbrev pub ItemCovered : List Run → (key encoder : ℕ) → Stores → View → Option Item → Type 0
ItemCovered runs key e h view (Some (draw_item d)) = HasCovers runs key e h view d
ItemCovered runs key e h view _ = ⊥

-- a run is of one of triangles
abbrev pub IsTriangleRun : (key encoder : ℕ) → List Setup → Rect → (width height : ℕ) → Run → Type 0
IsTriangleRun key e triangles cut width height r = (s : Setup) × (In s triangles × IsOf key e (triangle_seen s.a s.b s.c) cut width height r)

-- a run is of an item that is a draw
abbrev pub IsItemRun : (key encoder : ℕ) → Stores → View → Option Item → Run → Type 0
IsItemRun key e h view (Some (draw_item d)) r = IsRunOf key e h view d r
IsItemRun key e h view _ r = ⊥

-- an item that is a draw lacks its program
abbrev pub LacksProgram : Stores → Option Item → Type 0
LacksProgram h (Some (draw_item d)) = at h.programs d.program.index ≡ None
LacksProgram h _ = Unit {0}
