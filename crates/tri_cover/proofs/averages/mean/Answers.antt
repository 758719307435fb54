use Rattle.std.proofs.Common.{rules, ◌≡◌, ◌+ℤ◌, ◌*ℤ◌, FitsSigned, w64}
use Rattle.std.specs.Int.{int_div_euclid, w128}
use Rattle.std.proofs.lemmas.Int.{to_z-of_z}
use Rattle.tri_cover.proofs.Means.{mean_small, mean_from, mean_to}
use Rattle.tri_cover.proofs.averages.mean.Goals as goal

pub floor_of-requires-clause-small : goal.floor_of-requires-clause-small
floor_of-requires-clause-small c =
    let b = c.args.by.now in
    let fa : FitsSigned w64 c.args.by.now.a = search rules in
    let fb : FitsSigned w64 c.args.by.now.b = search rules in
    let fc : FitsSigned w64 c.args.by.now.c = search rules in
    let fs : FitsSigned w64 c.args.by.now.sum = search rules in
    let fu : FitsSigned w64 c.args.u = c.ranges.u in
    let fv : FitsSigned w64 c.args.v = c.ranges.v in
    let fw : FitsSigned w64 c.args.w = c.ranges.w in
    let fz : FitsSigned w128 c.weighted.result = search rules in
    let z : c.weighted.result ≡ c.args.by.now.a *ℤ c.args.u +ℤ c.args.by.now.b *ℤ c.args.v +ℤ c.args.by.now.c *ℤ c.args.w = simp to_z-of_z at c.weighted.ensures.value in
    simp to_z-of_z (rw z (mean_small b.a b.b b.c c.args.u c.args.v c.args.w b.sum b.low.0 b.low.1 b.low.2 b.whole b.positive c.requires.u c.requires.v c.requires.w))

pub returns-clause-low : goal.returns-clause-low
returns-clause-low c l hu hv hw =
    let b = c.args.by.now in
    let fa : FitsSigned w64 c.args.by.now.a = search rules in
    let fb : FitsSigned w64 c.args.by.now.b = search rules in
    let fc : FitsSigned w64 c.args.by.now.c = search rules in
    let fs : FitsSigned w64 c.args.by.now.sum = search rules in
    let fu : FitsSigned w64 c.args.u = c.ranges.u in
    let fv : FitsSigned w64 c.args.v = c.ranges.v in
    let fw : FitsSigned w64 c.args.w = c.ranges.w in
    let fz : FitsSigned w128 c.weighted.result = search rules in
    let z : c.weighted.result ≡ c.args.by.now.a *ℤ c.args.u +ℤ c.args.by.now.b *ℤ c.args.v +ℤ c.args.by.now.c *ℤ c.args.w = simp to_z-of_z at c.weighted.ensures.value in
    let fr : FitsSigned w64 c.floor_of.result = search rules in
    let r : c.floor_of.result ≡ int_div_euclid c.weighted.result c.args.by.now.sum = simp to_z-of_z at c.floor_of.ensures in
    simp to_z-of_z (rw (r, z) (mean_from b.a b.b b.c c.args.u c.args.v c.args.w b.sum l b.low.0 b.low.1 b.low.2 b.whole b.positive hu hv hw))

pub returns-clause-high : goal.returns-clause-high
returns-clause-high c l hu hv hw =
    let b = c.args.by.now in
    let fa : FitsSigned w64 c.args.by.now.a = search rules in
    let fb : FitsSigned w64 c.args.by.now.b = search rules in
    let fc : FitsSigned w64 c.args.by.now.c = search rules in
    let fs : FitsSigned w64 c.args.by.now.sum = search rules in
    let fu : FitsSigned w64 c.args.u = c.ranges.u in
    let fv : FitsSigned w64 c.args.v = c.ranges.v in
    let fw : FitsSigned w64 c.args.w = c.ranges.w in
    let fz : FitsSigned w128 c.weighted.result = search rules in
    let z : c.weighted.result ≡ c.args.by.now.a *ℤ c.args.u +ℤ c.args.by.now.b *ℤ c.args.v +ℤ c.args.by.now.c *ℤ c.args.w = simp to_z-of_z at c.weighted.ensures.value in
    let fr : FitsSigned w64 c.floor_of.result = search rules in
    let r : c.floor_of.result ≡ int_div_euclid c.weighted.result c.args.by.now.sum = simp to_z-of_z at c.floor_of.ensures in
    simp to_z-of_z (rw (r, z) (mean_to b.a b.b b.c c.args.u c.args.v c.args.w b.sum l b.low.0 b.low.1 b.low.2 b.whole b.positive hu hv hw))
