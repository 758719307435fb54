use Rattle.gfx_model.specs.Recorder.{set_indices}
use Rattle.c_calls.proofs.Recorded.{recorder_on, records_told}
use Rattle.c_calls.proofs.encoder.Encoder.indices_of.Goals as goal

pub invariant_of-self : goal.invariant_of-self
invariant_of-self c = recorder_on c.self.inside.recorder c.set_indices.new.self (set_indices c.args.buffer c.args.first c.args.count) c.set_indices.result c.set_indices.ensures.answer c.set_indices.ensures.table _ c.self.invariant

pub returns : goal.returns
returns c = records_told c.self.inside.recorder c.set_indices.new.self (set_indices c.args.buffer c.args.first c.args.count) c.set_indices.result c.set_indices.ensures.answer c.set_indices.ensures.table c.self.inside.things.value.rows.items c.told.result c.told.ensures _ c.self.view_is
