use Rattle.std.specs.Prelude.{◌≡◌}
use Rattle.frame_record.specs.Links.{frames_of}
use Rattle.frame_swap.specs.Ends.{render_table, render_knows}
use Rattle.test_frames.proofs.frame_swap_tests.serve.Given as goal

abbrev pub invariant-loop : goal.invariant-loop
invariant-loop g l = (render_table l.end ≡ render_table l.initial.end) × ((render_knows l.end).taken ≡ frames_of (render_knows l.end).returned)
