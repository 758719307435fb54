use Rattle.std.proofs.Common.{◌≡◌, ◌^◌, ◌+◌, ◌-◌, ◌*◌, arith, ap, ◌∙◌}
use Rattle.std.specs.Int.Count.{count_leading_zeros}
use Rattle.std.proofs.lemmas.Nat.{leading_top, pow-add}
use Rattle.tri_cover.proofs.inverses.scale_for.Goals as goal

pub returns-clause-close : goal.returns-clause-close
returns-clause-close c =
    let n = c.args.divisor in
    let top = leading_top 64 n c.requires (omega (arith, c.ranges.divisor.fits)) in
    let j = top.0 in
    let scale : 125 - count_leading_zeros 64 n ≡ 62 + j = omega (arith, top.1) in
    let power : 2 ^ (125 - count_leading_zeros 64 n) ≡ 2 ^ 62 * 2 ^ j = ap (λ k. 2 ^ k) scale ∙ pow-add 2 62 j in
    omega (arith, power, top.2)
