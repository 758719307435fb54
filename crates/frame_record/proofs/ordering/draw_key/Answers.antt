use Rattle.std.proofs.Common.{ap, ◌∙◌}
use Rattle.gfx_model.specs.Views.{KeyFields}
use Rattle.frame_record.proofs.KeyLaws.{below_most, position_is}
use Rattle.frame_record.proofs.ordering.draw_key.Goals as goal

pub draw-key-requires-clause-position : goal.draw-key-requires-clause-position
draw-key-requires-clause-position c = below_most c.args.views.now c.position-position.result c.tell_facts.ensures c.position-position.ensures.below

pub returns-clause-position : goal.returns-clause-position
returns-clause-position c = (c.in_ok-view.ensures.0, c.tell_facts-2.ensures ∙ ap (λ (k : KeyFields). k.position) c.draw-key.ensures ∙ position_is _ _ _ _ _ _ ∙ c.position-position.ensures.position)
