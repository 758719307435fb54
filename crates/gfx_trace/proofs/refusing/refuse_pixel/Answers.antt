use Rattle.gfx_trace.proofs.refusing.refuse_pixel.Goals as goal

pub returns-clause-refused : goal.returns-clause-refused
returns-clause-refused g c = c.refuse_with.ensures.refused _ c.pixel_refused-text.ensures
