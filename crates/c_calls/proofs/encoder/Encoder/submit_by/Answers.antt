use Rattle.gfx_model.specs.Recorder.{submit}
use Rattle.c_calls.proofs.Recorded.{recorder_on, records_told}
use Rattle.c_calls.proofs.encoder.Encoder.submit_by.Goals as goal

pub invariant_of-self : goal.invariant_of-self
invariant_of-self c = recorder_on c.self.inside.recorder c.submit.new.self (submit c.args.view c.args.program c.args.depth c.args.discard) c.submit.result c.submit.ensures.answer c.submit.ensures.table _ c.self.invariant

pub returns : goal.returns
returns c = records_told c.self.inside.recorder c.submit.new.self (submit c.args.view c.args.program c.args.depth c.args.discard) c.submit.result c.submit.ensures.answer c.submit.ensures.table c.self.inside.things.value.rows.items c.told.result c.told.ensures _ c.self.view_is
