-- How far a vertex on the target can be from the rectangle's corner.
use Rattle.std.proofs.Common.{◌≤◌, ◌<◌, ℕ, suc, arith}
use Rattle.std.specs.Prelude.{ℤ, pos, negsuc, ◌*ℤ◌, ◌≤ℤ◌, unsigned_abs}
use Rattle.std.specs.Int.{int_div_euclid}
use Rattle.std.proofs.Math.Nat.{mul-le-mul_left}
use Rattle.std.proofs.lemmas.Int.{ints}
use borrow.Author.Differences.{product_is}
use Rattle.tri_cover.proofs.Fixed.{floor_is}

pub share_near : (d : ℤ) (s : ℕ) → negsuc 458751 ≤ℤ d → d ≤ℤ pos 589824 → s < 65536 → unsigned_abs (int_div_euclid (d *ℤ pos s) (pos 512)) ≤ 75497472
share_near (pos a) s l h b =
    let most : a ≤ 589824 = omega (arith, ints, h) in
    omega (arith, mul-le-mul_left s most)
share_near (negsuc a) s l h b =
    let most : suc a ≤ 589824 = omega (arith, ints, l) in
    let f = floor_is (negsuc a *ℤ pos s) 512 (omega arith) in
    omega (arith, ints, product_is, f.is, f.below, mul-le-mul_left s most)
