use Rattle.std.proofs.Common.{sym, ◌∙◌}
use Rattle.gfx_model.specs.Words.{greatest, program_kind}
use Rattle.render_stores.proofs.Frees.{free_found, free_below}
use Rattle.render_stores.proofs.free.is_program_free.Goals as goal

pub returns-clause-same : goal.returns-clause-same
returns-clause-same c = c.both.ensures ∙ free_found _ c.get.result c.args.index c.greatest.result c.args.programs.now c.is_none-nothing.result (c.tell_facts.ensures ∙ sym c.greatest.ensures) c.is_none-nothing.ensures c.get.ensures

pub returns-clause-below : goal.returns-clause-below
returns-clause-below c free = free_below c.args.index (greatest program_kind) c.args.programs.now c.tell_facts.ensures (sym (returns-clause-same c) ∙ free)
