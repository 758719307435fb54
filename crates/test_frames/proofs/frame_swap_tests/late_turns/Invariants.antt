use Rattle.std.specs.Prelude.{◌≡◌, length}
use Rattle.frame_swap.specs.Ends.{api_table, api_knows}
use Rattle.test_frames.proofs.frame_swap_tests.late_turns.Given as goal

-- no frame is out between two turns
abbrev pub invariant-loop-turn : goal.invariant-loop-turn
invariant-loop-turn g l = (api_table l.api ≡ api_table l.initial.api) × (l.api.latency ≡ l.initial.api.latency) × (length (api_knows l.api).given ≡ length (api_knows l.api).back)
