use Rattle.std.proofs.Common.{sym, ◌∙◌, length}
use Rattle.std.specs.Prelude.{slice_get}
use Rattle.recorded_keys.specs.Pairs.{is_recorded_by}
use Rattle.shared_items.proofs.Finds.{find_next}
use Rattle.recorded_keys.proofs.pairs.place_of.Goals as goal

pub loop-place-preserved : goal.loop-place-preserved
loop-place-preserved c =
    find_next (λ n. is_recorded_by c.args.encoder (slice_get c.args.recordings.now n)) c.loop-place.place (length c.args.recordings.now) _ c.loop-place-test.true (sym c.is_recorded_by.ensures ∙ c.if-is_recorded_by.false) c.loop-place.invariant
