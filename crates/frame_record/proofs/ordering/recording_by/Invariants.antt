use Rattle.std.proofs.Common.{◌≡◌, drop}
use Rattle.gfx_model.specs.Frames.{items_by}
use Rattle.frame_record.specs.Seen.{recordings_seen}
use Rattle.frame_record.proofs.ordering.recording_by.Given as goal

-- no recording before the index is the encoder's
abbrev pub invariant-loop-recording : goal.invariant-loop-recording
invariant-loop-recording l = items_by (recordings_seen l.recordings) l.encoder ≡ items_by (recordings_seen (drop l.recording-index l.recordings)) l.encoder
