use Rattle.std.proofs.Common.{ap, sym, slice_index_or, ◌∙◌, ◌++◌, map}
use Rattle.gfx_words.specs.declared.journal.JournalEntry.{JournalEntry}
use Rattle.frame_record.specs.Ordered.{keyed_of, one_or_none, IsPlaced}
use Rattle.frame_record.specs.Seen.{entry_seen, recordings_seen}
use Rattle.frame_record.proofs.KeyLaws.{keyed_more, placed_more}
use Rattle.frame_record.proofs.ordering.with_keys.Goals as goal

pub loop-place-preserved : goal.loop-place-preserved
loop-place-preserved c =
    let e : JournalEntry = slice_index_or c.args.journal.now c.loop-place.place record { encoder = 0; ordinal = 0 } in (
      c.in_ok-put_keyed.ensures
          ∙ ap (λ xs. xs ++ one_or_none c.key_at-key.result (entry_seen e)) c.loop-place.invariant.0
          ∙ sym (keyed_more c.args.views.now (recordings_seen c.args.recordings.now) c.args.journal.now c.loop-place.place record { encoder = 0; ordinal = 0 } c.key_at-key.result
          c.loop-place-test.true c.key_at-key.ensures.key),
      placed_more (IsPlaced c.args.views.now (recordings_seen c.args.recordings.now)) (map keyed_of c.loop-place.room.items) _ c.key_at-key.result (entry_seen e)
          c.in_ok-put_keyed.ensures c.loop-place.invariant.1 c.key_at-key.ensures.placed,
    )
