use Rattle.std.proofs.Common.{sym, ◌∙◌}
use Rattle.gfx_model.specs.Words.{greatest, frame_buffer_kind}
use Rattle.render_stores.proofs.Frees.{free_else, free_below, free_none}
use Rattle.render_stores.proofs.free.is_target_free.Goals as goal

pub returns-clause-same : goal.returns-clause-same
returns-clause-same c = c.both.ensures ∙ free_else c.args.index c.greatest.result c.args.textures.now.targets c.has_target-nothing.result (c.tell_facts.ensures.targets ∙ sym c.greatest.ensures) c.has_target-nothing.ensures

pub returns-clause-below : goal.returns-clause-below
returns-clause-below c free = free_below c.args.index (greatest frame_buffer_kind) c.args.textures.now.targets c.tell_facts.ensures.targets (sym (returns-clause-same c) ∙ free)

pub returns-clause-none : goal.returns-clause-none
returns-clause-none c free = free_none c.args.index c.args.textures.now.targets (sym (returns-clause-same c) ∙ free)
