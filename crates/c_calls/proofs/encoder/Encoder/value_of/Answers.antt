use Rattle.gfx_words.specs.Seen.{value_seen}
use Rattle.gfx_model.specs.Recorder.{set_uniform}
use Rattle.c_calls.proofs.Recorded.{recorder_on, records_told}
use Rattle.c_calls.proofs.encoder.Encoder.value_of.Goals as goal

pub invariant_of-self : goal.invariant_of-self
invariant_of-self c = recorder_on c.self.inside.recorder c.set_uniform.new.self (set_uniform c.args.uniform (value_seen c.args.value)) c.set_uniform.result c.set_uniform.ensures.answer c.set_uniform.ensures.table _ c.self.invariant

pub returns : goal.returns
returns c = records_told c.self.inside.recorder c.set_uniform.new.self (set_uniform c.args.uniform (value_seen c.args.value)) c.set_uniform.result c.set_uniform.ensures.answer c.set_uniform.ensures.table c.self.inside.things.value.rows.items c.told.result c.told.ensures _ c.self.view_is
