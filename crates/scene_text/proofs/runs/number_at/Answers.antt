use Rattle.std.proofs.Common.{◌≤◌, refl, arith}
use Rattle.scene_text.proofs.RunLines.{digits_part, digits_numeral}
use Rattle.scene_text.proofs.runs.number_at.Goals as goal

pub returns : goal.returns
returns c =
    let bytes = c.args.bytes.now in
    let n = c.digits_at-value.result.0 in
    let end = c.digits_at-value.result.1 in
    let le : n ≤ c.args.high = omega (arith, c.if-value-from.false, c.from.ensures) in
    let a = c.digits_at-value.ensures (omega (arith, le, c.ranges.high.fits)) in
    (digits_part bytes c.args.from end n c.args.stop a (omega (arith, c.if-end-bytes.false)) c.if-bytes-end.false, digits_numeral bytes c.args.from end n a (omega (arith, a.ordered, c.if-end-from.false)) (c.if-has_lead.ensures refl), a.value, le)
