use Rattle.std.proofs.Common.{List, arith, ap, ◌∙◌}
use Rattle.gfx_model.specs.Words.{place_of_handle}
use Rattle.schedule_model.specs.Machine.{Place, place_at, place_count}
use Rattle.hold_table.proofs.PlaceLaws.{place-set}
use Rattle.hold_table.proofs.Steps.{all_free}
use Rattle.test_frames.proofs.hold_table_tests.three_frames.Goals as goal

-- each place of a new table is free
pub place_live-requires-clause-place : goal.place_live-requires-clause-place
place_live-requires-clause-place g c = ap (λ v. place_at v.places (place_of_handle c.of-thing.result)) c.in_ok-table.ensures.1 ∙ all_free place_count (place_of_handle c.of-thing.result)

-- the thing is live where it was placed, after a frame too
pub place_dying-requires-clause-place : goal.place_dying-requires-clause-place
place_dying-requires-clause-place g c =
    let p = place_of_handle c.of-thing.result in
    ap (λ (l : List Place). place_at l p) c.one_frame-live.ensures.places ∙ ap (λ v. place_at v.places p) c.place_live.ensures.api ∙ place-set _ p _ (omega (arith, ap place_of_handle c.of-thing.ensures, c.in_ok-table.api.many))
