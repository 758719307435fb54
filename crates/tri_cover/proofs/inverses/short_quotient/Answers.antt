use Rattle.std.proofs.Common.{◌≡◌, ◌^◌, ◌*◌, ◌+◌, sym}
use Rattle.std.proofs.lemmas.Nat.{pow-add}
use Rattle.tri_cover.proofs.Slopes.{by_parts_low, by_parts_high}
use Rattle.tri_cover.proofs.inverses.short_quotient.Goals as goal

pub returns-clause-low : goal.returns-clause-low
returns-clause-low c =
    let all : c.small_power-full.result * c.small_power-step.result ≡ 2 ^ (62 + c.args.more) = rw (c.small_power-full.ensures.value, c.small_power-step.ensures.value) (sym (pow-add 2 62 c.args.more)) in
    rw all at (by_parts_low c.small_power-full.result c.args.divisor c.small_power-step.result)

pub returns-clause-high : goal.returns-clause-high
returns-clause-high c =
    let all : c.small_power-full.result * c.small_power-step.result ≡ 2 ^ (62 + c.args.more) = rw (c.small_power-full.ensures.value, c.small_power-step.ensures.value) (sym (pow-add 2 62 c.args.more)) in
    rw all at (by_parts_high c.small_power-full.result c.args.divisor c.small_power-step.result c.requires.positive)
