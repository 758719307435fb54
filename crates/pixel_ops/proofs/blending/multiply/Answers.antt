use Rattle.std.proofs.Common.{◌≡◌, ℕ, ◌+◌, ◌*◌, ◌/◌, ◌≤◌, arith}
use Rattle.std.proofs.Math.Nat.{mul-le-mul_right}
use Rattle.pixel_ops.proofs.blending.multiply.Goals as goal

-- a division by 255 as two by 256
by_shifts : (sum : ℕ) → sum ≤ 65279 → (sum + 1 + sum / 256) / 256 ≡ sum / 255
by_shifts sum h = omega arith

pub returns : goal.returns
returns c =
    let a : c.args.a ≤ 255 = omega (arith, c.ranges.a.fits) in
    by_shifts (c.args.a * c.args.b + 127) (omega (arith, c.ranges.b.fits, mul-le-mul_right c.args.b a))
