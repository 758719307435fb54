use Rattle.std.proofs.Common.{sym, ◌∙◌}
use Rattle.gfx_model.specs.Words.{greatest, index_buffer_kind}
use Rattle.render_stores.proofs.Frees.{free_found, free_below, free_none}
use Rattle.render_stores.proofs.free.is_index_buffer_free.Goals as goal

pub returns-clause-same : goal.returns-clause-same
returns-clause-same c = c.both.ensures ∙ free_found _ c.bytes_of.result c.args.index c.greatest.result c.args.buffers.now.indices c.is_none-nothing.result (c.tell_facts.ensures.indices ∙ sym c.greatest.ensures) c.is_none-nothing.ensures c.bytes_of.ensures

pub returns-clause-below : goal.returns-clause-below
returns-clause-below c free = free_below c.args.index (greatest index_buffer_kind) c.args.buffers.now.indices c.tell_facts.ensures.indices (sym (returns-clause-same c) ∙ free)

pub returns-clause-none : goal.returns-clause-none
returns-clause-none c free = free_none c.args.index c.args.buffers.now.indices (sym (returns-clause-same c) ∙ free)
