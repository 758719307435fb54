use Rattle.std.proofs.Common.{◌≡◌, ℕ, ◌+◌, List, ◌∷◌, ◌++◌, map, drop, length, ap, subst, ◌∙◌, arith}
use Rattle.scene_model.specs.Scene.{SceneFrame, Scene}
use Rattle.scene_text.specs.declared.scene.SceneFrame as code
use Rattle.scene_text.specs.Seen.{scene_seen, frame_seen}
use Rattle.item_lines.specs.Items as model
use Rattle.item_lines.proofs.PlaceLaws.{frame-more, frame-cut}
use Rattle.item_lines.proofs.places.item_places.Goals as goal

pub loop-frame-preserved : goal.loop-frame-preserved
loop-frame-preserved c =
    let s : Scene = scene_seen c.args.scene.now in
    let i : ℕ = c.loop-frame.frame-index in
    let f : SceneFrame = frame_seen c.frame-item.result in
    record {
      number = omega (arith, c.loop-frame.invariant.number);
      left = frame-more c.loop-frame.places.items (model.item_places s) c.put_frame.new.places.items i f s.frames c.loop-frame.invariant.left
          (subst (λ (fs : List code.SceneFrame). drop i (map frame_seen fs) ≡ f ∷ drop (i + 1) (map frame_seen fs)) c.as_slice-frame-items.ensures
          (frame-cut c.as_slice-frame-items.result.now i c.frame-item.result c.loop-frame-test.true c.frame-item.is))
          (c.in_ok-put_frame.ensures ∙ ap (λ (n : ℕ). c.loop-frame.places.items ++ model.frame_places n f) c.loop-frame.invariant.number);
    }
