use Rattle.scene_text.proofs.HexDigits.{lanes_right}
use Rattle.scene_text.proofs.bytes.digits_of.Goals as goal

pub returns : goal.returns
returns c = lanes_right c.args.digits c.fits-digits.0
