use Rattle.std.proofs.Common.{subst}
use Rattle.gfx_context.specs.Kept.{IsContext}
use Rattle.gfx_context.specs.States.{ContextView}
use Rattle.gfx_context.proofs.Linked.{is_context}
use Rattle.gfx_context.proofs.context.Context.tell_facts.Goals as goal

pub returns-clause-keeps : goal.returns-clause-keeps
returns-clause-keeps g c = subst (λ (v : ContextView g.row.L.Denot). IsContext g.C.Naming.admits g.C.Naming.views v) c.self.view_is (is_context c.self.invariant c.tell_facts.ensures.keeps c.self.inside.link)
