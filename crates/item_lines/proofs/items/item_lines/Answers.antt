use Rattle.std.proofs.Common.{ap, ◌∙◌}
use Rattle.scene_text.specs.Seen.{scene_seen}
use Rattle.item_lines.specs.Items as model
use Rattle.item_lines.proofs.PlaceLaws.{encoder-more}
use Rattle.item_lines.proofs.items.item_lines.Goals as goal

pub loop-encoder-preserved : goal.loop-encoder-preserved
loop-encoder-preserved c =
    encoder-more (model.encoder_item_lines c.args.bytes.now (scene_seen c.args.scene.now) c.args.frame) c.loop-encoder.encoder _ _ c.in_ok-encoder_numbers.field-0 c.loop-encoder.invariant
    (c.in_ok-encoder_numbers.ensures ∙ ap (model.numbers_of c.args.frame c.loop-encoder.encoder) (c.deref.ensures.value ∙ c.in_ok-items.ensures)) c.in_ok-push.ensures.items
