use Rattle.gfx_model.specs.Recorder.{set_state}
use Rattle.c_calls.proofs.Recorded.{recorder_on, records_told}
use Rattle.c_calls.proofs.encoder.Encoder.set_state.Goals as goal

pub invariant_of-self : goal.invariant_of-self
invariant_of-self c = recorder_on c.self.inside.recorder c.set_state.new.self (set_state c.args.word) c.set_state.result c.set_state.ensures.answer c.set_state.ensures.table _ c.self.invariant

pub returns : goal.returns
returns c = records_told c.self.inside.recorder c.set_state.new.self (set_state c.args.word) c.set_state.result c.set_state.ensures.answer c.set_state.ensures.table c.self.inside.things.value.rows.items c.told.result c.told.ensures _ c.self.view_is
