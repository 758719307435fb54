use Rattle.std.proofs.Common.{length, ap, ◌∙◌}
use Rattle.std.proofs.lemmas.Simd.{length-chunk}
use Rattle.scene_text.specs.Digits.{pairs_of}
use Rattle.scene_text.proofs.HexDigits.{lanes_joined, two_chunks}
use Rattle.scene_text.proofs.bytes.sixteen_pairs.Goals as goal

pub returns : goal.returns
returns c =
    let whole = two_chunks c.args.digits.now c.args.from in
    lanes_joined _ _ _ (ap length whole ∙ length-chunk c.args.from 32 c.args.digits.now c.requires) c.digits_of-high.ensures c.digits_of-low.ensures ∙ ap pairs_of whole
