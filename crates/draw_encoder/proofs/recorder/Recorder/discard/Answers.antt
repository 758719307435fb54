use Rattle.std.proofs.Common.{ap, ◌∙◌}
use Rattle.draw_encoder.proofs.NameLaws.{of_discard}
use Rattle.draw_encoder.proofs.recorder.Recorder.discard.Goals as goal

pub invariant_of-self : goal.invariant_of-self
invariant_of-self c = (c.self.invariant.0, of_discard _ _ c.self.invariant.1 c.args.flags _ c.discard.ensures)
