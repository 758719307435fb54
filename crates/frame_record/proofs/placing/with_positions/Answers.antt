use Rattle.std.proofs.Common.{ap, sym, slice_index_or, ◌∙◌, ◌++◌}
use Rattle.frame_record.specs.Placed.{one_placed}
use Rattle.frame_record.specs.Seen.{entry_seen, recordings_seen}
use Rattle.frame_record.proofs.PlaceLaws.{blits_more}
use Rattle.frame_record.proofs.placing.with_positions.Goals as goal

pub loop-place-preserved : goal.loop-place-preserved
loop-place-preserved c =
    c.in_ok-put_placed.ensures
    ∙ ap (λ xs. xs ++ one_placed c.position_at-position.result (entry_seen (slice_index_or c.args.journal.now c.loop-place.place record { encoder = 0; ordinal = 0 }))) c.loop-place.invariant
    ∙ sym (blits_more c.args.views.now (recordings_seen c.args.recordings.now) c.args.journal.now c.loop-place.place record { encoder = 0; ordinal = 0 } c.position_at-position.result
    c.loop-place-test.true c.position_at-position.ensures)
