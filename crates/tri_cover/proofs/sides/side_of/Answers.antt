use Rattle.std.proofs.Common.{rules, ◌≡◌, pos, ◌*ℤ◌, FitsSigned, w64}
use Rattle.std.proofs.lemmas.Int.{to_z-of_z}
use Rattle.tri_cover.specs.Walked.{reached_at, IsDivisor, IsDivided}
use Rattle.tri_cover.proofs.sides.side_of.Goals as goal

pub returns : goal.returns
returns c =
    let e = c.args.edge.now in
    let f1 : FitsSigned w64 c.reach.result = search rules in
    let f2 : FitsSigned w64 c.gained_by_row.result = search rules in
    let f3 : FitsSigned w64 c.divisor_of-divisor.result = search rules in
    let f4 : FitsSigned w64 e.fall = search rules in
    let here : IsDivided c.divided.result c.reach.result c.divisor_of-divisor.result = simp to_z-of_z at c.divided.ensures in
    let gain : IsDivided c.divided-2.result c.gained_by_row.result c.divisor_of-divisor.result = simp to_z-of_z at c.divided-2.ensures in
    let value : c.reach.result ≡ reached_at e c.args.row = c.reach.ensures.value in
    let gained : c.gained_by_row.result ≡ pos 256 *ℤ e.rise = c.gained_by_row.ensures.value in
    let divisor : IsDivisor c.divisor_of-divisor.result e.fall = simp to_z-of_z at c.divisor_of-divisor.ensures.divisor in
    record {
      divisor = simp to_z-of_z divisor;
      here = simp to_z-of_z (rw value at here);
      gain = simp to_z-of_z (rw gained at gain);
    }
