use Rattle.std.proofs.Common.{rules, ◌≡◌, pos, ◌+ℤ◌, ◌*ℤ◌, FitsSigned, w64, sym, ◌∙◌, arith}
use Rattle.std.proofs.lemmas.Int.{to_z-of_z}
use Rattle.tri_cover.specs.Seen.{IsRest}
use Rattle.tri_cover.specs.Walked.{reached_at}
use Rattle.tri_cover.proofs.Walks.{divisor_near, side_near, gain_near, row_on}
use Rattle.tri_cover.proofs.sides.next_side.Goals as goal

pub advanced-requires-clause-n : goal.advanced-requires-clause-n
advanced-requires-clause-n c =
    let f1 : FitsSigned w64 c.args.side.divisor = search rules in
    simp to_z-of_z (divisor_near c.args.side.divisor c.args.edge.now.fall c.requires.side.divisor c.requires.near.fall)

pub advanced-requires-clause-whole : goal.advanced-requires-clause-whole
advanced-requires-clause-whole c = side_near c.args.side c.args.edge.now c.args.row c.requires.near (omega arith) c.requires.side

pub advanced-requires-clause-step : goal.advanced-requires-clause-step
advanced-requires-clause-step c = gain_near c.args.side c.args.edge.now c.args.row c.requires.near c.requires.side

pub returns : goal.returns
returns c =
    let s = c.args.side in
    let e = c.args.edge.now in
    let n : FitsSigned w64 s.divisor = search rules in
    let r = c.advanced.result in
    let rest : IsRest r s.divisor = simp to_z-of_z at c.advanced.ensures.rest in
    let is : reached_at e c.args.row +ℤ pos 256 *ℤ e.rise ≡ r.whole *ℤ s.divisor +ℤ r.rest =
    simp to_z-of_z at (c.advanced.ensures.steps (reached_at e c.args.row) (pos 256 *ℤ e.rise) (simp to_z-of_z c.requires.side.here.is) (simp to_z-of_z c.requires.side.gain.is)) in
    record {
      divisor = simp to_z-of_z c.requires.side.divisor;
      here = record {
        rest = simp to_z-of_z rest;
        is = simp to_z-of_z (sym (row_on e c.args.row) ∙ is);
      };
      gain = simp to_z-of_z c.requires.side.gain;
    }
