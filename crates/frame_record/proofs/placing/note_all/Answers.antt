use Rattle.std.proofs.Common.{◌∙◌, arith}
use Rattle.frame_record.specs.Seen.{recordings_seen}
use Rattle.frame_record.proofs.PlaceLaws.{noted_more}
use Rattle.frame_record.proofs.placing.note_all.Goals as goal

pub loop-place-preserved : goal.loop-place-preserved
loop-place-preserved c = (
  c.note_at.ensures.many ∙ c.loop-place.invariant.0,
  λ v within. noted_more (recordings_seen c.args.recordings.now) c.args.journal.now c.loop-place.place record { encoder = 0; ordinal = 0 } v _ _
      c.loop-place-test.true (c.loop-place.invariant.1 v within) (c.note_at.ensures.noted v (omega (arith, within, c.loop-place.invariant.0))),
)
