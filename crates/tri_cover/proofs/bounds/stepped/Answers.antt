use Rattle.std.proofs.Common.{rules, ◌≡◌, ◌+◌, ◌+ℤ◌, FitsSigned, w64, arith}
use Rattle.std.proofs.lemmas.Int.{ints, to_z-of_z}
use Rattle.tri_cover.specs.Bounded.{bound_at}
use Rattle.tri_cover.proofs.Ends.{moved_on}
use Rattle.tri_cover.proofs.bounds.stepped.Goals as goal

pub overflow_add-result : goal.overflow_add-result
overflow_add-result c =
    let a : FitsSigned w64 c.args.bound.now.at = search rules in
    let s : FitsSigned w64 c.args.bound.now.step = search rules in
    let sum : c.args.bound.now.at +ℤ c.args.bound.now.step ≡ bound_at c.args.start.now (c.args.k + 1) = moved_on c.args.bound.now c.args.start.now c.args.k c.requires.here in
    let near = c.requires.tame (c.args.k + 1) (omega (arith, c.requires.few)) in
    let fits : FitsSigned w64 (c.args.bound.now.at +ℤ c.args.bound.now.step) = omega (arith, ints, sum, near) in
    simp to_z-of_z fits

pub returns : goal.returns
returns c =
    let a : FitsSigned w64 c.args.bound.now.at = search rules in
    let s : FitsSigned w64 c.args.bound.now.step = search rules in
    let sum : c.args.bound.now.at +ℤ c.args.bound.now.step ≡ bound_at c.args.start.now (c.args.k + 1) = moved_on c.args.bound.now c.args.start.now c.args.k c.requires.here in
    let near = c.requires.tame (c.args.k + 1) (omega (arith, c.requires.few)) in
    let fits : FitsSigned w64 (c.args.bound.now.at +ℤ c.args.bound.now.step) = omega (arith, ints, sum, near) in
    record {
      at = simp to_z-of_z sum;
      step = simp to_z-of_z c.requires.here.step;
    }
