use Rattle.gfx_trace.proofs.refusing.refuse_target.Goals as goal

pub returns-clause-refused : goal.returns-clause-refused
returns-clause-refused g c = c.refuse_with.ensures.refused _ c.target_refused-text.ensures
