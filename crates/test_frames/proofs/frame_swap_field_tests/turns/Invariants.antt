use Rattle.std.proofs.Common.{◌≡◌, ◌+◌, ◌≤◌, length}
use Rattle.frame_swap.specs.Ends.{api_table, api_knows}
use Rattle.test_frames.proofs.frame_swap_field_tests.turns.Given as goal

-- so many frames are out, no more than may be
abbrev pub invariant-loop-frame : goal.invariant-loop-frame
invariant-loop-frame g l =
    (api_table l.api ≡ api_table l.initial.api) × (l.api.latency ≡ l.initial.api.latency)
    × (length (api_knows l.api).given ≡ length (api_knows l.api).back + l.out) × (l.out ≤ l.latency)
    × (goal.iterator-loop-frame g).can_next l.frame-iterator × (goal.iterator-loop-frame g).is_finite l.frame-iterator

-- so many of those that were out came back
abbrev pub invariant-loop : goal.invariant-loop
invariant-loop g l =
    (api_table l.api ≡ api_table l.initial.api) × (l.api.latency ≡ l.initial.api.latency)
    × (length (api_knows l.api).given + l.counter ≡ length (api_knows l.api).back + l.out) × (l.counter ≤ l.out)
