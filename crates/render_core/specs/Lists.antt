-- The lists from which a frame's views are drawn.
use Rattle.std.specs.Prelude.{◌≡◌, ℕ, ◌<◌, Bool, false, List, map, filter, length, slice_index_or}
use Rattle.std.specs.List.{list_any, AllByRecursion}
use Rattle.gfx_model.specs.Frames.{keyed_entries}
use Rattle.gfx_model.specs.Views.{view_count}
use Rattle.gfx_model.specs.World.{blit_item, is_blit, is_of_view, sorted_by_key}
use Rattle.frame_record.specs.declared.frame.Frame.{Frame}
use Rattle.frame_record.specs.declared.ordering.OrderedItem.{OrderedItem}
use Rattle.frame_record.specs.declared.placing.PlacedBlit.{PlacedBlit}
use Rattle.frame_record.specs.Ordered.{AscendFrom, IsPlaced, keyed_of, position_of}
use Rattle.frame_record.specs.Placed.{placed_of, blit_entries, items_in}
use Rattle.view_drawing.specs.Entries.{items_of, blits_of}
use Rattle.render_core.specs.declared.lists.Lists.{Lists}
use Rattle.render_core.specs.Seen.{recordings_of, journal_of, frame_seen}

-- a frame's draws and touches by the positions of their views
pub record AreDraws (f : Frame) (ordered : List OrderedItem) : Type 0 where
  pub keyed : map keyed_of ordered ≡ sorted_by_key (keyed_entries f.views (recordings_of f) (journal_of f))
  pub ascend : AscendFrom 0 (map position_of ordered)
  pub placed : AllByRecursion (IsPlaced f.views (recordings_of f)) (map keyed_of ordered)

-- a frame's blits by the positions of their views
pub record AreBlits (f : Frame) (blits : List PlacedBlit) : Type 0 where
  pub sorted : map placed_of blits ≡ sorted_by_key (blit_entries f.views (recordings_of f) (journal_of f))
  pub ascend : AscendFrom 0 (map (λ p. p.position) blits)

-- for each view of a frame whether an item is of it
pub record AreEntered (f : Frame) (entered : List Bool) : Type 0 where
  pub many : length entered ≡ view_count f.views
  pub noted : (v : ℕ) → v < view_count f.views → slice_index_or entered v false ≡ list_any (is_of_view v) (items_in (recordings_of f) (journal_of f))

-- all lists of a frame
pub record AreListed (f : Frame) (l : Lists) : Type 0 where
  pub draws : AreDraws f l.ordered.items
  pub blits : AreBlits f l.blits.items
  pub entered : AreEntered f l.entered.items

-- a view's part of a frame's lists
pub record IsPart (f : Frame) (v : ℕ) (is_entered : Bool) (blits : List PlacedBlit) (items : List OrderedItem) : Type 0 where
  pub plain : AllByRecursion (λ i. is_blit i ≡ false) (items_of f items)
  pub copied : map blit_item (blits_of f blits) ≡ filter (is_of_view v) (filter is_blit (frame_seen f).items)
  pub drawn : items_of f items ≡ filter (is_of_view v) (frame_seen f).ordered
  pub entered : is_entered ≡ list_any (is_of_view v) (frame_seen f).items
