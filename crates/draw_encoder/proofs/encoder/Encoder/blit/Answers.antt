use Rattle.std.proofs.Common.{ap, ◌∙◌}
use Rattle.gfx_model.specs.Recorder as calls
use Rattle.draw_encoder.specs.Seen.{copy_seen}
use Rattle.draw_encoder.proofs.NameLaws.{views_stay}
use Rattle.draw_encoder.proofs.encoder.Encoder.blit.Goals as goal

pub invariant_of-self : goal.invariant_of-self
invariant_of-self g c = (c.blit.ensures.table ∙ c.self.invariant.0, views_stay _ _ (calls.blit (copy_seen c.args.view c.args.copy)) _ c.blit.ensures.answer ∙ c.self.invariant.1)
