-- What draws cover, by the stores.
use Rattle.std.specs.Prelude.{◌≡◌, ℕ, ◌<◌, Bool, true, ◌&&◌, List, filter_map}
use Rattle.std.specs.List.{list_any}
use Rattle.gfx_model.specs.Words.{primitive_of}
use Rattle.gfx_model.specs.Vertex.{triangles_of}
use Rattle.gfx_model.specs.Raster.{Rect, covers, view_rect}
use Rattle.gfx_model.specs.Views.{View}
use Rattle.gfx_model.specs.World.{Draw, Facing, is_in_cut, placed_facing, draw_vertices}
use Rattle.store_laws.specs.ByIndex.{Stores, vertices_at, indices_at}
use Rattle.covered_rows.specs.declared.runs.Run.{Run}
use Rattle.covered_rows.specs.Apart.{HasColumn}
use Rattle.covered_rows.specs.Covering.{HasRun}

-- a view's rectangle on the back buffer
abbrev pub back_rect : Stores → View → Rect
back_rect h view = view_rect view.rect h.back.color.width h.back.color.height

-- the triangles of a draw on the back buffer
abbrev pub facings_in : Stores → View → Draw → List Facing
facings_in h view d = filter_map (placed_facing view (back_rect h view) d) (triangles_of (primitive_of d.state) (draw_vertices (vertices_at h.buffers d.vertices) (indices_at h.buffers d.indices)))

-- a draw covers a pixel of the back buffer: it lies in the view's rectangle and in both scissors, and in one of the draw's triangles
abbrev pub covers_in : Stores → View → Draw → ℕ → ℕ → Bool
covers_in h view d x y = is_in_cut view (back_rect h view) d x y && list_any (λ f. covers f.triangle x y) (facings_in h view d)

-- each pixel of the back buffer that a draw covers is in a run of a key and an encoder
abbrev pub HasCovers : List Run → (key encoder : ℕ) → Stores → View → Draw → Type 0
HasCovers runs key e h view d = (x y : ℕ) → x < h.back.color.width → y < h.back.color.height → covers_in h view d x y ≡ true → HasRun runs key e x y

-- a run is of a key, an encoder and a row, has a column, and a draw covers each of its columns
pub record IsRunOf (key encoder : ℕ) (h : Stores) (view : View) (d : Draw) (r : Run) : Type 0 where
  pub key_is : r.key ≡ key
  pub encoder_is : r.encoder ≡ encoder
  pub low : r.row < h.back.color.height
  pub some : r.first < r.after
  pub covered : (x : ℕ) → HasColumn r x → (x < h.back.color.width) × (covers_in h view d x r.row ≡ true)
