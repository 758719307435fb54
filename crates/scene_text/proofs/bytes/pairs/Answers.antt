use Rattle.std.proofs.Common.{◌≡◌, ◌%◌, length, ap, sym, ◌∙◌, Ok, arith}
use Rattle.scene_text.proofs.HexDigits.{odd_wrong, some_wrong, all_right, written_whole}
use Rattle.scene_text.proofs.bytes.pairs.Goals as goal

pub returns-then-digits-eq1 : goal.returns-then-digits-eq1
returns-then-digits-eq1 c = odd_wrong c.args.digits.now c.if-digits-eq1.true

pub returns-then-not-all_hex : goal.returns-then-not-all_hex
returns-then-not-all_hex c = some_wrong c.args.digits.now (sym c.all_hex.ensures ∙ c.if-not-all_hex.true)

pub returns : goal.returns
returns c =
    let even : length c.args.digits.now % 2 ≡ 0 = omega (arith, c.if-digits-eq1.false) in
    all_right c.args.digits.now (sym c.all_hex.ensures ∙ c.if-not-all_hex.false) even ∙ ap Ok (sym c.put_pairs.ensures ∙ sym (written_whole c.put_pairs.new.bytes c.in_ok-bytes.bytes.items c.in_ok-bytes.bytes.len (omega (arith, c.put_pairs.auto.bytes, c.deref_mut.ensures.len)) (omega (arith, c.in_ok-bytes.bytes.ok.0))))
