use Rattle.std.proofs.Common.{◌≡◌, length}
use Rattle.c_calls.specs.Bands.{AreLent, values_of}
use Rattle.c_calls.proofs.bands.hand_out.Given as goal

-- the handles before the index are set
abbrev pub invariant-loop-at : goal.invariant-loop-at
invariant-loop-at l = AreLent l.at (values_of l.bands) × (length l.bands ≡ length l.fn.bands)
