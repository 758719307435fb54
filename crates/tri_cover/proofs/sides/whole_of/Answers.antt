use Rattle.std.proofs.Common.{rules, FitsSigned, w64, arith}
use Rattle.std.proofs.lemmas.Int.{to_z-of_z}
use Rattle.tri_cover.proofs.Walks.{side_near}
use Rattle.tri_cover.proofs.sides.whole_of.Goals as goal

pub returns-clause-near : goal.returns-clause-near
returns-clause-near c =
    let f1 : FitsSigned w64 c.args.side.now.here.whole = search rules in
    simp to_z-of_z (side_near c.args.side.now c.args.edge.now c.args.row c.requires.near (omega arith) c.requires.side)
