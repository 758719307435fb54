use Rattle.draw_encoder.specs.Seen.{copy_seen}
use Rattle.gfx_model.specs.Recorder.{blit}
use Rattle.c_calls.proofs.Recorded.{recorder_on, records_told}
use Rattle.c_calls.proofs.encoder.Encoder.blit_between.Goals as goal

pub invariant_of-self : goal.invariant_of-self
invariant_of-self c = recorder_on c.self.inside.recorder c.blit.new.self (blit (copy_seen c.args.view c.args.copy)) c.blit.result c.blit.ensures.answer c.blit.ensures.table _ c.self.invariant

pub returns : goal.returns
returns c = records_told c.self.inside.recorder c.blit.new.self (blit (copy_seen c.args.view c.args.copy)) c.blit.result c.blit.ensures.answer c.blit.ensures.table c.self.inside.things.value.rows.items c.told.result c.told.ensures _ c.self.view_is
