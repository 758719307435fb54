use Rattle.std.proofs.Common.{ap, sym, subst, ◌∙◌}
use Rattle.std.specs.Prelude.{IfSome}
use Rattle.gfx_model.specs.Views.{key_bits}
use Rattle.gfx_model.specs.World.{view_of_item}
use Rattle.draw_encoder.specs.declared.items.Item.{Item}
use Rattle.draw_encoder.specs.Seen.{item_seen}
use Rattle.frame_record.specs.Ordered.{key_or_none, IsOfView}
use Rattle.frame_record.proofs.ordering.key_of.Goals as goal

pub returns-in-Draw-clause-key : goal.returns-in-Draw-clause-key
returns-in-Draw-clause-key c bytes sets = c.draw_key.ensures.key bytes sets ∙ ap (λ i. key_or_none c.args.views.now c.args.place (item_seen bytes sets i)) (sym c.in-Draw.is)

pub returns-in-Draw-clause-position : goal.returns-in-Draw-clause-position
returns-in-Draw-clause-position c bytes sets = subst (λ (i : Item). IfSome c.draw_key.result (λ k. IsOfView c.args.views.now (view_of_item (item_seen bytes sets i)) (key_bits k))) (sym c.in-Draw.is) c.draw_key.ensures.position

pub returns-in-Touch-clause-key : goal.returns-in-Touch-clause-key
returns-in-Touch-clause-key c bytes sets = c.touch_key.ensures.key bytes sets ∙ ap (λ i. key_or_none c.args.views.now c.args.place (item_seen bytes sets i)) (sym c.in-Touch.is)

pub returns-in-Touch-clause-position : goal.returns-in-Touch-clause-position
returns-in-Touch-clause-position c bytes sets = subst (λ (i : Item). IfSome c.touch_key.result (λ k. IsOfView c.args.views.now (view_of_item (item_seen bytes sets i)) (key_bits k))) (sym c.in-Touch.is) c.touch_key.ensures.position
