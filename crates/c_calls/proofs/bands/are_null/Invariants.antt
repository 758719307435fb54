use Rattle.std.proofs.Common.{◌≡◌, take}
use Rattle.std.specs.List.{AllByRecursion}
use Rattle.c_calls.specs.Bands.{IsNull, values_of}
use Rattle.c_calls.proofs.bands.are_null.Given as goal

-- the handles are as they were, and those before the index are null
abbrev pub invariant-loop-at : goal.invariant-loop-at
invariant-loop-at l = (values_of l.bands ≡ values_of l.fn.bands) × AllByRecursion IsNull (take l.at (values_of l.bands))
