use Rattle.std.proofs.Common.{rules, ◌≡◌, ◌+ℤ◌, ◌-ℤ◌, ◌*ℤ◌, FitsSigned, w64, arith}
use Rattle.std.specs.Int.{int_div_euclid, int_rem_euclid}
use Rattle.std.proofs.lemmas.Int.{ints, to_z-of_z}
use Rattle.tri_cover.proofs.Walks.{floor_and_rest, rest_low, rest_high, product_fits}
use Rattle.tri_cover.proofs.sides.divided.Goals as goal

pub overflow_mul-result : goal.overflow_mul-result
overflow_mul-result c =
    let z : FitsSigned w64 c.args.z = c.ranges.z in
    let n : FitsSigned w64 c.args.n = c.ranges.n in
    let f1 : FitsSigned w64 c.div_euclid-whole.result = search rules in
    let whole : c.div_euclid-whole.result ≡ int_div_euclid c.args.z c.args.n = simp to_z-of_z at c.div_euclid-whole.ensures in
    simp to_z-of_z (rw whole (product_fits c.args.z c.args.n c.requires.z c.requires.few c.requires.n))

pub overflow_sub-result : goal.overflow_sub-result
overflow_sub-result c =
    let z : FitsSigned w64 c.args.z = c.ranges.z in
    let n : FitsSigned w64 c.args.n = c.ranges.n in
    let f1 : FitsSigned w64 c.div_euclid-whole.result = search rules in
    let whole : c.div_euclid-whole.result ≡ int_div_euclid c.args.z c.args.n = simp to_z-of_z at c.div_euclid-whole.ensures in
    let product : FitsSigned w64 (c.div_euclid-whole.result *ℤ c.args.n) = rw whole (product_fits c.args.z c.args.n c.requires.z c.requires.few c.requires.n) in
    let is : c.args.z ≡ c.div_euclid-whole.result *ℤ c.args.n +ℤ int_rem_euclid c.args.z c.args.n = rw whole (floor_and_rest c.args.z c.args.n c.requires.n) in
    let low = rest_low c.args.z c.args.n c.requires.n in
    let high = rest_high c.args.z c.args.n c.requires.n in
    let rest : FitsSigned w64 (c.args.z -ℤ c.div_euclid-whole.result *ℤ c.args.n) = omega (arith, ints, is, low, high, c.requires.few) in
    simp to_z-of_z rest

pub returns : goal.returns
returns c =
    let z : FitsSigned w64 c.args.z = c.ranges.z in
    let n : FitsSigned w64 c.args.n = c.ranges.n in
    let f1 : FitsSigned w64 c.div_euclid-whole.result = search rules in
    let whole : c.div_euclid-whole.result ≡ int_div_euclid c.args.z c.args.n = simp to_z-of_z at c.div_euclid-whole.ensures in
    let product : FitsSigned w64 (c.div_euclid-whole.result *ℤ c.args.n) = rw whole (product_fits c.args.z c.args.n c.requires.z c.requires.few c.requires.n) in
    let is : c.args.z ≡ c.div_euclid-whole.result *ℤ c.args.n +ℤ int_rem_euclid c.args.z c.args.n = rw whole (floor_and_rest c.args.z c.args.n c.requires.n) in
    let low = rest_low c.args.z c.args.n c.requires.n in
    let high = rest_high c.args.z c.args.n c.requires.n in
    let rest : FitsSigned w64 (c.args.z -ℤ c.div_euclid-whole.result *ℤ c.args.n) = omega (arith, ints, is, low, high, c.requires.few) in
    record {
      rest = record {
        low = simp to_z-of_z (omega (arith, ints, is, low));
        high = simp to_z-of_z (omega (arith, ints, is, high));
      };
      is = simp to_z-of_z (omega (arith, ints));
    }
