use Rattle.gfx_model.specs.Recorder.{set_vertices}
use Rattle.c_calls.proofs.Recorded.{recorder_on, records_told}
use Rattle.c_calls.proofs.encoder.Encoder.vertices_of.Goals as goal

pub invariant_of-self : goal.invariant_of-self
invariant_of-self c = recorder_on c.self.inside.recorder c.set_vertices.new.self (set_vertices c.args.buffer c.args.first c.args.count) c.set_vertices.result c.set_vertices.ensures.answer c.set_vertices.ensures.table _ c.self.invariant

pub returns : goal.returns
returns c = records_told c.self.inside.recorder c.set_vertices.new.self (set_vertices c.args.buffer c.args.first c.args.count) c.set_vertices.result c.set_vertices.ensures.answer c.set_vertices.ensures.table c.self.inside.things.value.rows.items c.told.result c.told.ensures _ c.self.view_is
