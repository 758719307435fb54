use Rattle.std.proofs.Common.{rules, ◌≡◌, pos, ◌+ℤ◌, ◌≤ℤ◌, ◌<ℤ◌, FitsSigned, w64, arith, sym, ◌∙◌}
use Rattle.std.proofs.lemmas.Int.{ints, to_z-of_z}
use Rattle.tri_cover.specs.Seen.{triangle_seen}
use Rattle.tri_cover.proofs.Barycentre.{covered_weighs, weights_sum}
use Rattle.tri_cover.proofs.triangles.Setup.weights.Goals as goal

pub invariant_of-result : goal.invariant_of-result
invariant_of-result c =
    let s = c.args.self.now in
    let t = triangle_seen s.a s.b s.c in
    let w = covered_weighs t c.args.x c.args.y c.requires in
    let fa : FitsSigned w64 c.weight-a.result = search rules in
    let fb : FitsSigned w64 c.weight-b.result = search rules in
    let fc : FitsSigned w64 c.weight-c.result = search rules in
    let fs : FitsSigned w64 c.area.result = search rules in
    let whole : c.area.result ≡ c.weight-a.result +ℤ c.weight-b.result +ℤ c.weight-c.result =
    c.area.ensures.value ∙ sym (weights_sum t c.args.x c.args.y) ∙ (λ i. sym c.weight-a.ensures.value i +ℤ sym c.weight-b.ensures.value i +ℤ sym c.weight-c.ensures.value i) in
    let low_a : pos 0 ≤ℤ c.weight-a.result = rw c.weight-a.ensures.value w.a in
    let low_b : pos 0 ≤ℤ c.weight-b.result = rw c.weight-b.ensures.value w.b in
    let low_c : pos 0 ≤ℤ c.weight-c.result = rw c.weight-c.ensures.value w.c in
    let positive : pos 0 <ℤ c.area.result = rw c.area.ensures.value s.turned in
    record {
      low = (omega (arith, ints, low_a), omega (arith, ints, low_b), omega (arith, ints, low_c));
      near = (omega (arith, ints, c.weight-a.ensures.near), omega (arith, ints, c.weight-b.ensures.near), omega (arith, ints, c.weight-c.ensures.near));
      whole = simp to_z-of_z whole;
      positive = omega (arith, ints, positive);
    }
