use Rattle.pixel_ops.proofs.Pairs.{lower_bytes_is}
use Rattle.pixel_ops.proofs.blending.lower_bytes.Goals as goal

pub returns : goal.returns
returns c = lower_bytes_is c.args.word
