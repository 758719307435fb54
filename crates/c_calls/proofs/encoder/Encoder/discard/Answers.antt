use Rattle.c_calls.proofs.Recorded.{discard_on, discard_told}
use Rattle.c_calls.proofs.encoder.Encoder.discard.Goals as goal

pub invariant_of-self : goal.invariant_of-self
invariant_of-self c = discard_on c.self.inside.recorder c.discard.new.self c.args.flags c.discard.ensures.answer c.discard.ensures.table _ c.self.invariant

pub returns : goal.returns
returns c = discard_told c.self.inside.recorder c.discard.new.self c.args.flags c.discard.ensures.answer c.discard.ensures.table c.self.inside.things.value.rows.items c.told.result c.told.ensures _ c.self.view_is
