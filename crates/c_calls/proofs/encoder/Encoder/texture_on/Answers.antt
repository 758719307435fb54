use Rattle.gfx_model.specs.Recorder.{set_texture}
use Rattle.c_calls.proofs.Recorded.{recorder_on, records_told}
use Rattle.c_calls.proofs.encoder.Encoder.texture_on.Goals as goal

pub invariant_of-self : goal.invariant_of-self
invariant_of-self c = recorder_on c.self.inside.recorder c.set_texture.new.self (set_texture c.args.stage c.args.texture) c.set_texture.result c.set_texture.ensures.answer c.set_texture.ensures.table _ c.self.invariant

pub returns : goal.returns
returns c = records_told c.self.inside.recorder c.set_texture.new.self (set_texture c.args.stage c.args.texture) c.set_texture.result c.set_texture.ensures.answer c.set_texture.ensures.table c.self.inside.things.value.rows.items c.told.result c.told.ensures _ c.self.view_is
