use Rattle.std.proofs.Common.{◌≡◌, ◌≤◌, ◌*◌, ◌/◌, ◌%◌, ◌^◌, arith}
use Rattle.std.proofs.Math.Pow.{pow_mono}
use Rattle.std.proofs.lemmas.Nat.{and_mask}
use Rattle.gfx_words.proofs.states.bits.Goals as goal

pub returns : goal.returns
returns c =
    let below : 2 ^ c.args.count ≤ 2 ^ 16 = pow_mono c.requires.count in
    let whole : 1 * 2 ^ c.args.count % 18446744073709551616 ≡ 2 ^ c.args.count = omega (arith, below) in
    rw whole (and_mask (c.args.word / 2 ^ c.args.low) c.args.count)
