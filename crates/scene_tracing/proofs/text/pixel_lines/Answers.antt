use Rattle.std.proofs.Common.{◌≡◌, ℕ, List, IfOk, map, ap, subst, ◌∙◌}
use Rattle.scene_model.specs.Scene.{Scene}
use Rattle.scene_text.specs.Seen.{scene_seen}
use Rattle.scene_playing.specs.Order.{order_seen}
use Rattle.pixel_ops.specs.Seen.{pixel_seen}
use Rattle.frame_tracing.specs.Seen.{made_seen}
use Rattle.trace_lines.specs.Seen.{doer_seen}
use Rattle.trace_lines.specs.Numbered.{numbered_lines}
use Rattle.item_lines.specs.Items.{item_lines}
use Rattle.scene_tracing.specs.declared.history.History.{History}
use Rattle.scene_tracing.specs.Asked.{journal_asked, numbers_told}
use Rattle.scene_tracing.proofs.Scenes.{lines-are}
use Rattle.scene_tracing.proofs.text.pixel_lines.Goals as goal

pub returns : goal.returns
returns c =
    let s : Scene = scene_seen c.args.scene.now in
    let t : History = c.in_ok-history.history in
    let numbers : numbers_told c.deref.result.now ≡ item_lines c.args.bytes.now s c.args.spot.frame = ap numbers_told c.deref.ensures.value ∙ c.in_ok-numbers.ensures in
    subst (λ (text : List ℕ). IfOk c.history_lines.result (λ v. v.items ≡ text))
    (ap (λ (ns : List (List ℕ)). numbered_lines ns (map doer_seen t.doers.items) (pixel_seen t.before) (map made_seen t.made.items)) numbers
    ∙ lines-are (item_lines c.args.bytes.now s c.args.spot.frame) s (journal_asked s (order_seen c.args.order)) c.args.spot.frame c.args.spot.x c.args.spot.y t c.in_ok-history.ensures.history)
    c.history_lines.ensures
