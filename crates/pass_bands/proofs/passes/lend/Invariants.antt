use Rattle.pass_bands.specs.Rowed.{AreIn}
use Rattle.pass_bands.proofs.passes.lend.Given as goal

-- the rows that are not lent yet lie in the surface
abbrev pub invariant-loop-lent : goal.invariant-loop-lent
invariant-loop-lent l = AreIn l.rest l.surface
