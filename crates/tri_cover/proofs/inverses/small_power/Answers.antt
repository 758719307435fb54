use Rattle.std.proofs.Common.{arith, lit<}
use Rattle.std.proofs.Math.Nat.{pow-le-pow_right}
use Rattle.tri_cover.proofs.inverses.small_power.Goals as goal

pub returns-clause-near : goal.returns-clause-near
returns-clause-near c = omega (arith, pow-le-pow_right {n = 2} (lit< tt) {i = c.args.n} {j = 62} c.requires)
