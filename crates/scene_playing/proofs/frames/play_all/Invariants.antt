use Rattle.std.proofs.Common.{◌≡◌, ◌≤◌, ℕ, map, length, [], vec_len, vec_capacity}
use Rattle.gfx_words.specs.Seen.{entry_seen}
use Rattle.scene_text.specs.Seen.{scene_seen}
use Rattle.render_core.specs.Ended.{first_outcome}
use Rattle.scene_playing.specs.Recording.{IsAt}
use Rattle.scene_playing.specs.Order.{wanted_seen, Keeps}
use Rattle.scene_playing.specs.Frames.{note_seen}
use Rattle.scene_playing.proofs.FrameLaws.{AreGiven}
use Rattle.scene_playing.proofs.frames.play_all.Given as goal

abbrev pub invariant-loop-frame : goal.invariant-loop-frame
invariant-loop-frame g l = record {
  at : IsAt (scene_seen l.scene) l.frame-index l.handles l.context;
  given : AreGiven (scene_seen l.scene) l.frame-index l.context.given (map (map entry_seen) l.told.lists.items) (map note_seen l.told.notes.items);
  keeps : Keeps (wanted_seen l.order) (map (map entry_seen) l.told.lists.items);
  outcome : l.told.outcome ≡ first_outcome l.context.back;
  lists : (vec_len l.told.lists ≡ l.frame-index) × (length l.scene.frames ≤ vec_capacity l.told.lists);
  notes : (vec_len l.told.notes ≡ l.frame-index) × (length l.scene.frames ≤ vec_capacity l.told.notes);
  none_off : l.context.seat.off ≡ [];
  owes : g.W.Recorders.owes l.recorders 0;
  origin : g.L.FrameLink.origin l.context.link ≡ g.L.FrameLink.origin l.fn.context.link;
}
