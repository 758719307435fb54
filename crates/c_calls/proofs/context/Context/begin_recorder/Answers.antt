use Rattle.gfx_words.specs.Seen.{room_seen}
use Rattle.c_calls.specs.Rendered.{rendering_of}
use Rattle.c_calls.proofs.Begins.{recorder_told}
use Rattle.c_calls.proofs.On.{on_begun}
use Rattle.c_calls.proofs.context.Context.begin_recorder.Goals as goal

pub begin-requires-clause-running : goal.begin-requires-clause-running
begin-requires-clause-running c = c.self.invariant.0.runs

pub invariant_of-self : goal.invariant_of-self
invariant_of-self c = (on_begun c.self.invariant.0 c.begin.new.self (room_seen c.args.room) c.begin.result c.begin.ensures.answer, c.self.invariant.1)

pub returns : goal.returns
returns c = recorder_told c.self.inside.things.rows.items (rendering_of c.self.inside.renderer) c.self.inside.standing c.self.inside.renderer.sink.capacity c.self.inside.core c.begin.new.self c.self.invariant.0 (room_seen c.args.room) c.begin.result c.begin.ensures.answer c.begin.ensures.table _ c.self.view_is
