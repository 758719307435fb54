use Rattle.std.proofs.Common.{◌≡◌, ◌≤◌, ℕ, ◌+◌, List, ◌++◌, map, length, Some, slice_get, refl, sym, ap, subst, ◌∙◌, arith}
use Rattle.std.proofs.lemmas.List.{append-nil, drop_all, length-map}
use Rattle.scene_model.specs.Scene.{SceneFrame, Scene}
use Rattle.scene_text.specs.declared.scene.SceneFrame as code
use Rattle.scene_text.specs.Seen.{scene_seen, frame_seen}
use Rattle.scene_check.specs.declared.found.DroppedLine.{DroppedLine}
use Rattle.scene_check.proofs.SceneLaws.{got, lines_none}
use Rattle.item_lines.proofs.judged.dropped_of.Goals as goal

pub next_frame-requires-clause-is : goal.next_frame-requires-clause-is
next_frame-requires-clause-is c =
    let s : Scene = scene_seen c.args.scene.now in
    let f : SceneFrame = frame_seen c.frame-item.result in
    ap (slice_get s.frames) c.loop-frame.invariant.judged.number
    ∙ subst (λ (fs : List code.SceneFrame). slice_get (map frame_seen fs) c.loop-frame.frame-index ≡ Some f) c.as_slice-frame-items.ensures
    (got frame_seen c.as_slice-frame-items.result.now c.loop-frame.frame-index c.frame-item.result c.loop-frame-test.true c.frame-item.is)

pub returns : goal.returns
returns c =
    let s : Scene = scene_seen c.args.scene.now in
    let same : length c.as_slice-frame-items.result.now ≡ length c.args.scene.now.frames = ap length c.as_slice-frame-items.ensures in
    let mapped : length s.frames ≡ length c.args.scene.now.frames = length-map c.args.scene.now.frames frame_seen in
    let last = c.loop-frame-test.false in
    sym (append-nil c.loop-frame.dropped.items)
    ∙ ap (λ (ds : List DroppedLine). c.loop-frame.dropped.items ++ ds) (sym (lines_none s c.loop-frame.frame-index c.loop-frame.checker.left (drop_all c.loop-frame.frame-index s.frames (omega (arith, same, mapped, last)))))
    ∙ c.loop-frame.invariant.left
