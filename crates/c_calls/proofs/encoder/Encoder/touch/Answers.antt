use Rattle.gfx_model.specs.Recorder.{touch}
use Rattle.c_calls.proofs.Recorded.{recorder_on, records_told}
use Rattle.c_calls.proofs.encoder.Encoder.touch.Goals as goal

pub invariant_of-self : goal.invariant_of-self
invariant_of-self c = recorder_on c.self.inside.recorder c.touch.new.self (touch c.args.view) c.touch.result c.touch.ensures.answer c.touch.ensures.table _ c.self.invariant

pub returns : goal.returns
returns c = records_told c.self.inside.recorder c.touch.new.self (touch c.args.view) c.touch.result c.touch.ensures.answer c.touch.ensures.table c.self.inside.things.value.rows.items c.told.result c.told.ensures _ c.self.view_is
