use Rattle.std.proofs.Common.{Ok}
use Rattle.fix_math.specs.Seen.{affine_seen}
use Rattle.gfx_model.specs.Recorder.{set_transform}
use Rattle.c_calls.proofs.Recorded.{recorder_on, records_told}
use Rattle.c_calls.proofs.encoder.Encoder.set_transform.Goals as goal

pub invariant_of-self : goal.invariant_of-self
invariant_of-self c = recorder_on c.self.inside.recorder c.set_transform.new.self (set_transform (affine_seen c.args.model)) (Ok tt) c.set_transform.ensures.answer c.set_transform.ensures.table _ c.self.invariant

pub returns : goal.returns
returns c = records_told c.self.inside.recorder c.set_transform.new.self (set_transform (affine_seen c.args.model)) (Ok tt) c.set_transform.ensures.answer c.set_transform.ensures.table c.self.inside.things.value.rows.items c.told.result c.told.ensures _ c.self.view_is
