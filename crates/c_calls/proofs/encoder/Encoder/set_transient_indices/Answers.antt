use Rattle.gfx_model.specs.Recorder.{set_transient_indices}
use Rattle.c_calls.proofs.Recorded.{recorder_on, records_told}
use Rattle.c_calls.proofs.encoder.Encoder.set_transient_indices.Goals as goal

pub invariant_of-self : goal.invariant_of-self
invariant_of-self c = recorder_on c.self.inside.recorder c.set_transient_indices.new.self (set_transient_indices c.args.bytes.now) c.set_transient_indices.result c.set_transient_indices.ensures.answer c.set_transient_indices.ensures.table _ c.self.invariant

pub returns : goal.returns
returns c = records_told c.self.inside.recorder c.set_transient_indices.new.self (set_transient_indices c.args.bytes.now) c.set_transient_indices.result c.set_transient_indices.ensures.answer c.set_transient_indices.ensures.table c.self.inside.things.value.rows.items c.told.result c.told.ensures _ c.self.view_is
