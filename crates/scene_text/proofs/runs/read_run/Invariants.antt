use Rattle.std.proofs.Common.{◌≡◌, ◌-◌, ◌≤◌, length, map}
use Rattle.scene_model.specs.Grammar as model
use Rattle.scene_text.specs.Seen.{frame_seen}
use Rattle.scene_text.specs.Runs.{AreRead, with_frames}
use Rattle.scene_text.proofs.runs.read_run.Given as goal

abbrev pub invariant-loop-line : goal.invariant-loop-line
invariant-loop-line l = record {
  within : l.place ≤ length l.bytes;
  few : l.lines ≤ l.place;
  read : (r : model.Reading) → r.stage ≡ model.in_block → r.names ≡ l.names → r.frames ≡ map frame_seen l.initial.frames.items → AreRead l.bytes l.place l.lines r (with_frames (map frame_seen l.frames.items) r);
}

abbrev pub decreases-loop-line : goal.decreases-loop-line
decreases-loop-line l = length l.bytes - l.place
