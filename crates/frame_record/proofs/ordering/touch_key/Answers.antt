use Rattle.std.proofs.Common.{ap, ◌∙◌}
use Rattle.gfx_model.specs.Views.{KeyFields, key_bits, sort_key, view_at}
use Rattle.draw_encoder.specs.Seen.{touch_seen}
use Rattle.frame_record.proofs.KeyLaws.{below_most, position_is, touch_has_key}
use Rattle.frame_record.proofs.ordering.touch_key.Goals as goal

pub touch-key-requires-clause-position : goal.touch-key-requires-clause-position
touch-key-requires-clause-position c = below_most c.args.views.now c.position-position.result c.tell_facts.ensures c.position-position.ensures.below

pub returns-clause-key : goal.returns-clause-key
returns-clause-key c bytes sets =
    touch_has_key c.args.views.now c.args.place (touch_seen sets c.args.touch.now) c.touch-key.result c.in_ok-view.ensures.0
    (ap key_bits c.touch-key.ensures
    ∙ ap (λ v. sort_key v.mode c.position-position.result 0 511 0 c.args.place) c.in_ok-view.ensures.1
    ∙ ap (λ p. sort_key (view_at c.args.views.now c.args.touch.now.view).mode p 0 511 0 c.args.place) c.position-position.ensures.position)

pub returns-clause-position : goal.returns-clause-position
returns-clause-position c = (c.in_ok-view.ensures.0, c.tell_facts-2.ensures ∙ ap (λ (k : KeyFields). k.position) c.touch-key.ensures ∙ position_is _ _ _ _ _ _ ∙ c.position-position.ensures.position)
