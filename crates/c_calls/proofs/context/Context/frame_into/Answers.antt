use Rattle.std.proofs.Common.{sym, ◌∙◌}
use Rattle.c_calls.proofs.Frames.{into_none, into_some}
use Rattle.c_calls.proofs.context.Context.frame_into.Goals as goal

pub returns-then-is_empty : goal.returns-then-is_empty
returns-then-is_empty c = into_none c.frame_unseen.result c.args.buffer.now c.args.self.now c.frame_unseen.new.self (sym c.is_empty.ensures ∙ c.if-is_empty.true) c.frame_unseen.ensures

pub returns : goal.returns
returns c = into_some c.frame_seen.result c.args.buffer.now c.frame_seen.new.buffer c.args.self.now c.frame_seen.new.self (sym c.is_empty.ensures ∙ c.if-is_empty.false) c.frame_seen.ensures
