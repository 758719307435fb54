-- The parts of a frame's views.
use Rattle.std.specs.Prelude.{ℕ, List, map, filter, filter_map, fold, take}
use Rattle.gfx_model.specs.Views.{view_at}
use Rattle.gfx_model.specs.World.{is_blit, is_of_view}
use Rattle.store_laws.specs.ByIndex.{Stores, FrameData, all_commanded, entered_by_index}
use Rattle.view_drawing.specs.Entries.{blit_of}
use Rattle.view_drawing.specs.Passes.{Part, after_part}

-- a view with its blits, and its draws and touches
abbrev pub part_of : FrameData → ℕ → Part
part_of f v = record {
  view = view_at f.views v;
  blits = filter_map blit_of (filter (is_of_view v) (filter is_blit f.items));
  items = filter (is_of_view v) f.ordered;
}

-- the views that have an item, in the views' order
abbrev pub parts_in : FrameData → List Part
parts_in f = map (part_of f) (entered_by_index f)

-- the stores after a frame's first commands and so many of these views
abbrev pub stores_within : Stores → FrameData → ℕ → Stores
stores_within h f n = fold after_part (all_commanded f.payloads h f.pre) (take n (parts_in f))
