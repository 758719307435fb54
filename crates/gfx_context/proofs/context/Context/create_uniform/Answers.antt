use Rattle.gfx_words.specs.Kinds.{uniform_seen}
use Rattle.std.proofs.Common.{◌≡◌, None, IfErr, subst}
use Rattle.gfx_model.specs.Resources.{create_uniform, named_uniform}
use Rattle.gfx_words.specs.declared.refusals.Refusal.TheVariants as refusals
use Rattle.gfx_context.specs.States.{ContextView}
use Rattle.gfx_context.proofs.Linked.{linked_creates}
use Rattle.gfx_context.proofs.Lifted.{creates_told}
use Rattle.gfx_context.proofs.context.Context.create_uniform.Goals as goal

pub invariant_of-self : goal.invariant_of-self
invariant_of-self g c = linked_creates c.self.invariant c.create_uniform.new.self (create_uniform c.args.name.now (uniform_seen c.args.kind)) c.create_uniform.result c.create_uniform.ensures.answer c.create_uniform.ensures.stays

pub returns-clause-answer : goal.returns-clause-answer
returns-clause-answer g c = creates_told (g.L.FrameLink.given c.self.inside.link) (g.L.FrameLink.back c.self.inside.link) c.self.inside.link c.self.inside.core c.create_uniform.new.self (create_uniform c.args.name.now (uniform_seen c.args.kind)) c.create_uniform.result c.create_uniform.ensures.answer _ c.self.view_is

pub returns-clause-memory : goal.returns-clause-memory
returns-clause-memory g c = subst (λ (v : ContextView g.row.L.Denot). IfErr c.create_uniform.result (λ r. r ≡ refusals.OutOfMemory → named_uniform v.book.resources c.args.name.now ≡ None)) c.self.view_is c.create_uniform.ensures.memory
