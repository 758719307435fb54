use Rattle.gfx_model.specs.Recorder.{set_stencil}
use Rattle.c_calls.proofs.Recorded.{recorder_on, records_told}
use Rattle.c_calls.proofs.encoder.Encoder.set_stencil.Goals as goal

pub invariant_of-self : goal.invariant_of-self
invariant_of-self c = recorder_on c.self.inside.recorder c.set_stencil.new.self (set_stencil c.args.front c.args.back) c.set_stencil.result c.set_stencil.ensures.answer c.set_stencil.ensures.table _ c.self.invariant

pub returns : goal.returns
returns c = records_told c.self.inside.recorder c.set_stencil.new.self (set_stencil c.args.front c.args.back) c.set_stencil.result c.set_stencil.ensures.answer c.set_stencil.ensures.table c.self.inside.things.value.rows.items c.told.result c.told.ensures _ c.self.view_is
