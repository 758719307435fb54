use Rattle.gfx_trace.proofs.refusing.refuse_scene.Goals as goal

pub returns-clause-refused : goal.returns-clause-refused
returns-clause-refused g c = c.refuse_with.ensures.refused _ c.scene_refused-text.ensures
