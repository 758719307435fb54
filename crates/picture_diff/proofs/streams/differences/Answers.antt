use Rattle.picture_diff.proofs.Frames.{told-only}
use Rattle.picture_diff.proofs.streams.differences.Goals as goal

pub returns-clause-only : goal.returns-clause-only
returns-clause-only c ps are = told-only c.args.near c.args.asked c.args.bytes.now _ c.tell.result ps c.tell.ensures are
