use Rattle.std.proofs.Common.{rules, ◌≡◌, ◌<◌, ◌^◌, ◌+ℤ◌, ◌*ℤ◌, unsigned_abs, FitsSigned, w64, refl, arith}
use Rattle.std.specs.Int.{w128}
use Rattle.std.proofs.lemmas.Int.{ints, to_z-of_z}
use Rattle.tri_cover.proofs.numbers.pair_sum.Goals as goal

pub returns : goal.returns
returns c =
    let q : FitsSigned w64 c.args.q = c.ranges.q in
    let r : FitsSigned w64 c.args.r = c.ranges.r in
    let v : FitsSigned w64 c.args.v = c.ranges.v in
    let w : FitsSigned w64 c.args.w = c.ranges.w in
    let f1 : FitsSigned w128 c.wide_product.result = search rules in
    let f2 : FitsSigned w128 c.wide_product-2.result = search rules in
    let p1 : c.wide_product.result ≡ c.args.q *ℤ c.args.v = simp to_z-of_z at c.wide_product.ensures.value in
    let p2 : c.wide_product-2.result ≡ c.args.r *ℤ c.args.w = simp to_z-of_z at c.wide_product-2.ensures.value in
    let n1 : unsigned_abs c.wide_product.result < 2 ^ 92 = c.wide_product.ensures.near in
    let n2 : unsigned_abs c.wide_product-2.result < 2 ^ 92 = c.wide_product-2.ensures.near in
    let fits : FitsSigned w128 (c.wide_product.result +ℤ c.wide_product-2.result) = omega (arith, ints, n1, n2) in
    let whole : c.wide_product.result +ℤ c.wide_product-2.result ≡ c.args.q *ℤ c.args.v +ℤ c.args.r *ℤ c.args.w = rw (p1, p2) refl in
    simp to_z-of_z whole
