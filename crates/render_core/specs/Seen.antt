-- Frames as the definitions see them.
use Rattle.std.specs.Prelude.{List, map}
use Rattle.gfx_model.specs.Frames as model
use Rattle.gfx_model.specs.Frames.{draw_order}
use Rattle.gfx_model.specs.Views.{view_order}
use Rattle.store_laws.specs.ByIndex.{FrameData}
use Rattle.frame_record.specs.declared.frame.Frame.{Frame}
use Rattle.frame_record.specs.Placed.{items_in}
use Rattle.frame_record.specs.Seen.{entry_seen, recordings_seen}
use Rattle.render_stores.specs.Payloads.{payloads_seen}

-- what encoders recorded in a frame
abbrev pub recordings_of : Frame → List model.Recorded
recordings_of f = recordings_seen f.recordings.items

-- the order of all items
abbrev pub journal_of : Frame → List model.Entry
journal_of f = map entry_seen f.journal.items

-- a frame with the items of its journal, and its draws and touches in their order
abbrev pub frame_seen : Frame → FrameData
frame_seen f = record {
  pre = f.pre;
  post = f.post;
  payloads = payloads_seen f.payloads.items;
  views = f.views;
  sequence = view_order f.views;
  items = items_in (recordings_of f) (journal_of f);
  ordered = items_in (recordings_of f) (draw_order f.views (recordings_of f) (journal_of f));
}
