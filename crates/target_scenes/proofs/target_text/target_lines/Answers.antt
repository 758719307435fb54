use Rattle.std.proofs.Common.{◌≡◌, ℕ, List, length, map, ap, ◌∙◌, arith}
use Rattle.std.proofs.lemmas.List.{length-map}
use Rattle.pixel_ops.specs.Seen.{pixel_seen}
use Rattle.scene_model.specs.Scene.{Scene}
use Rattle.scene_text.specs.Seen.{frame_seen, scene_seen}
use Rattle.scene_playing.specs.Order.{order_seen}
use Rattle.item_lines.specs.Items.{item_lines}
use Rattle.scene_tracing.specs.Asked.{journal_asked, numbers_told}
use Rattle.trace_lines.specs.Seen.{doer_seen}
use Rattle.target_tracing.specs.Seen.{target_made_seen}
use Rattle.target_tracing.specs.declared.made.TargetHistory.{TargetHistory}
use Rattle.target_tracing.specs.declared.tracing.TargetSpot.{TargetSpot}
use Rattle.target_scenes.specs.Numbered.{numbered_target_lines}
use Rattle.target_scenes.proofs.Tells.{no-target, no-pixel, some-lines, none-of}
use Rattle.target_scenes.proofs.target_text.target_lines.Goals as goal

pub returns-in_default : goal.returns-in_default
returns-in_default c =
    let s : Scene = scene_seen c.args.scene.now in
    let k : ℕ = c.args.place.frame in
    no-target (item_lines c.args.bytes.now s k) s (journal_asked s (order_seen c.args.order)) k c.args.name.now c.in_ok-target.field-0 c.in_ok-target.ensures c.args.place.x c.args.place.y (none-of c.in_ok-target.field-0 c.in_default.not-Some)

pub returns-in_ok-text-in-Some-history : goal.returns-in_ok-text-in-Some-history
returns-in_ok-text-in-Some-history c =
    let s : Scene = scene_seen c.args.scene.now in
    let k : ℕ = c.args.place.frame in
    let spot : TargetSpot = record { target = c.in-Some.target; x = c.args.place.x; y = c.args.place.y } in
    let it : TargetHistory = c.in-Some-history.history in
    let numbers : numbers_told c.deref.result.now ≡ item_lines c.args.bytes.now s k = ap numbers_told c.deref.ensures.value ∙ c.in_ok-numbers-in-Some-history.ensures in
    some-lines (item_lines c.args.bytes.now s k) s (journal_asked s (order_seen c.args.order)) k c.args.name.now c.in_ok-target.field-0 c.in_ok-target.ensures spot c.in-Some.is c.in_ok-found.found.history c.in_ok-found.ensures it c.in_ok-text-in-Some-history.text.items
    c.in-Some-history.is
    (c.in_ok-text-in-Some-history.ensures
    ∙ ap (λ (t : TargetHistory). numbered_target_lines (numbers_told c.deref.result.now) (map doer_seen t.doers.items) (pixel_seen t.before) (map target_made_seen t.made.items)) c.in-Some-history.history-is
    ∙ ap (λ (ns : List (List ℕ)). numbered_target_lines ns (map doer_seen it.doers.items) (pixel_seen it.before) (map target_made_seen it.made.items)) numbers)

pub returns-in-None : goal.returns-in-None
returns-in-None c =
    let s : Scene = scene_seen c.args.scene.now in
    let k : ℕ = c.args.place.frame in
    let spot : TargetSpot = record { target = c.in-Some.target; x = c.args.place.x; y = c.args.place.y } in
    let mapped : length s.frames ≡ length c.args.scene.now.frames = length-map c.args.scene.now.frames frame_seen in
    let lt = c.requires.frame in
    no-pixel (item_lines c.args.bytes.now s k) s (journal_asked s (order_seen c.args.order)) k c.args.name.now c.in_ok-target.field-0 c.in_ok-target.ensures spot c.in-Some.is c.in_ok-found.found.history c.in_ok-found.ensures c.plan_law.ensures.count (omega (arith, mapped, lt))
    c.in-None.is
