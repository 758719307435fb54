use Rattle.std.proofs.Common.{sym, ◌∙◌}
use Rattle.frame_blame.proofs.Starts.{pixels-many}
use Rattle.target_tracing.proofs.pixels.count_of.Goals as goal

pub returns : goal.returns
returns c = c.len.ensures ∙ sym (pixels-many c.args.surface.now)
