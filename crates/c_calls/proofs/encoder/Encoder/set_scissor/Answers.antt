use Rattle.std.proofs.Common.{Ok}
use Rattle.fix_math.specs.Seen.{rect_seen}
use Rattle.gfx_model.specs.Recorder.{set_scissor}
use Rattle.c_calls.proofs.Recorded.{recorder_on, records_told}
use Rattle.c_calls.proofs.encoder.Encoder.set_scissor.Goals as goal

pub invariant_of-self : goal.invariant_of-self
invariant_of-self c = recorder_on c.self.inside.recorder c.set_scissor.new.self (set_scissor (rect_seen c.args.rect)) (Ok tt) c.set_scissor.ensures.answer c.set_scissor.ensures.table _ c.self.invariant

pub returns : goal.returns
returns c = records_told c.self.inside.recorder c.set_scissor.new.self (set_scissor (rect_seen c.args.rect)) (Ok tt) c.set_scissor.ensures.answer c.set_scissor.ensures.table c.self.inside.things.value.rows.items c.told.result c.told.ensures _ c.self.view_is
