-- The deeds and histories of a frame by index, on a renderer's stores.
use Rattle.std.specs.Prelude.{◌≡◌, ℕ, ◌+◌, if◌then◌else◌, List, [], ◌∷◌, ◌++◌, map, filter, filter_map, flat_map, fold, Option, Some, None}
use Rattle.gfx_model.specs.Words.{primitive_of}
use Rattle.gfx_model.specs.Vertex.{triangles_of}
use Rattle.gfx_model.specs.Raster.{contains, view_rect}
use Rattle.gfx_model.specs.Views.{View, Views, view_at}
use Rattle.gfx_model.specs.World.{World, Draw, Item, draw_item, touch_item, blit_item, is_blit, is_of_view, Paint, is_in_cut, placed_facing, draw_vertices, clear_surface, FrameContent}
use Rattle.store_model.specs.Slots.{at}
use Rattle.store_laws.specs.ByIndex.{Stores, FrameData, with_buffers, with_values, textures_out, vertices_at, indices_at, paint_at, on_target, do_by_index, all_commanded, entered_by_index, drawn_by_index}
use Rattle.store_laws.specs.Says.{StandsFor, Says, left}
use Rattle.trace_laws.specs.Deeds.{Deed, clear_deed, item_deed, deeds, step_pictures}
use Rattle.trace_laws.specs.History.{Stroke, clear_stroke, fragments_from, on_back, Made, pixel_history}

-- the stores after a deed
abbrev pub stores_after : Stores → Deed → Stores
stores_after h (clear_deed view) = on_target h view.target (clear_surface view)
stores_after h (item_deed view i) = do_by_index view h i

-- what is done in a view that is entered
abbrev pub deeds_in_view : Views → List Item → List Item → ℕ → List Deed
deeds_in_view views items drawn_items v =
    let view = view_at views v in
    clear_deed view ∷ map (item_deed view) (filter (is_of_view v) (filter is_blit items ++ drawn_items))

-- what a frame does, in its order
abbrev pub deeds_in : FrameData → List Deed
deeds_in f = flat_map (deeds_in_view f.views f.items f.ordered) (entered_by_index f)

-- the stores in which the first deed is done
abbrev pub begun_in : Stores → FrameData → Stores
begun_in h f = all_commanded f.payloads h f.pre

-- the stores after each of these deeds
abbrev pub stores_after_each : Stores → List Deed → List Stores
stores_after_each h [] = []
stores_after_each h (d ∷ ds) = stores_after h d ∷ stores_after_each (stores_after h d) ds

-- the fragments at a pixel of the back buffer of a draw with a paint, if there is one
abbrev pub drawn_strokes_in : Stores → View → Draw → ℕ → ℕ → Option Paint → List Stroke
drawn_strokes_in h view d x y None = []
drawn_strokes_in h view d x y (Some paint) =
    let rect = view_rect view.rect h.back.color.width h.back.color.height in
    if is_in_cut view rect d x y
    then
    fragments_from 0 d.state paint x y
    (filter_map (placed_facing view rect d) (triangles_of (primitive_of d.state) (draw_vertices (vertices_at h.buffers d.vertices) (indices_at h.buffers d.indices))))
    else []

-- the fragments of a draw whose values are given
abbrev pub draw_strokes_in : Stores → View → Draw → ℕ → ℕ → List Stroke
draw_strokes_in h view d x y = drawn_strokes_in h view d x y (paint_at h.buffers (textures_out view.target h.textures) d (at h.programs d.program.index))

-- what an item does to a pixel of the back buffer, on which its view draws
abbrev pub item_strokes_in : Stores → View → ℕ → ℕ → Item → List Stroke
item_strokes_in h view x y (draw_item d) = draw_strokes_in (with_buffers h (with_values h.buffers d.values)) view d x y
item_strokes_in h view x y (touch_item t) = []
item_strokes_in h view x y (blit_item b) = []

-- a clear does something to a pixel in its view's rectangle
abbrev pub clear_strokes_in : Stores → View → ℕ → ℕ → List Stroke
clear_strokes_in h view x y = if contains (view_rect view.rect h.back.color.width h.back.color.height) x y then clear_stroke view.clear ∷ [] else []

-- what a deed does to a pixel of the back buffer
abbrev pub strokes_in : ℕ → ℕ → Stores → Deed → List Stroke
strokes_in x y h (clear_deed view) = on_back view.target (clear_strokes_in h view x y)
strokes_in x y h (item_deed view i) = on_back view.target (item_strokes_in h view x y i)

-- the strokes of deeds that are numbered from n on, in order
abbrev pub history_in : ℕ → ℕ → ℕ → Stores → List Deed → List Made
history_in x y n h [] = []
history_in x y n h (d ∷ ds) = map (λ s. record { deed = n; stroke = s }) (strokes_in x y h d) ++ history_in x y (n + 1) (stores_after h d) ds

-- the stores' back buffer is the world's, and a frame by index has the deeds, the steps and the histories of the frame of the definition
pub record IsTraced (h : Stores) (w : World) (f : FrameData) (content : FrameContent) : Type 0 where
  pub back : h.back ≡ w.back
  pub deeds : deeds_in f ≡ deeds content
  pub drawn : fold stores_after (begun_in h f) (deeds_in f) ≡ drawn_by_index h f
  pub steps : map (λ u. u.back.color) (begun_in h f ∷ stores_after_each (begun_in h f) (deeds_in f)) ≡ step_pictures w content
  pub history : (x y : ℕ) → history_in x y 0 (begun_in h f) (deeds_in f) ≡ pixel_history w content x y

-- where stores stand for a world without what died in the frame before, and the frame by index says what the definition's frame has
abbrev pub IndexedLaw : Type 0
IndexedLaw = (place : ℕ → ℕ) (h : Stores) (w : World) (f : FrameData) (content : FrameContent) (gone : List ℕ) → StandsFor place h (left content.gone w) → Says place w f content gone → IsTraced h w f content
