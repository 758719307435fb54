use Rattle.std.proofs.Common.{◌≡◌, ℕ, List, Option, Some, map, length, slice_get, ap, sym, subst, ◌∙◌, arith}
use Rattle.std.specs.Prelude.{option_and_then}
use Rattle.gfx_model.specs.Words.{Handle}
use Rattle.gfx_model.specs.Views.{Views}
use Rattle.scene_lines.specs.Names.{handle_of}
use Rattle.scene_model.specs.Scene.{SceneFrame, Scene}
use Rattle.scene_text.specs.declared.scene.SceneFrame as code
use Rattle.scene_text.specs.declared.scene.SceneName.{SceneName}
use Rattle.scene_text.specs.Seen.{scene_seen, frame_seen, name_seen}
use Rattle.scene_check.proofs.SceneLaws.{got}
use Rattle.target_laws.specs.Names.{name_from}
use Rattle.target_names.proofs.Reached.{named-is, if-drawn}
use Rattle.target_names.proofs.target.named_in.Goals as goal

pub returns : goal.returns
returns c = λ p planned.
    let s : Scene = scene_seen c.args.scene.now in
    let k : ℕ = c.args.frame in
    let f : SceneFrame = frame_seen c.index-as_slice-frame.result in
    let many = ap length c.as_slice.ensures in
    let lt = c.requires.frame in
    let is : slice_get s.frames k ≡ Some f =
    subst (λ (fs : List code.SceneFrame). slice_get (map frame_seen fs) k ≡ Some f) c.as_slice.ensures (got frame_seen c.as_slice.result.now k c.index-as_slice-frame.result (omega (arith, many, lt)) c.index-as_slice-frame.is) in
    let handles : List (Option Handle) = c.play_frame.new.handles in
    let views : Views = c.in_ok-views.views in
    let thing : c.thing_named-thing.result ≡ option_and_then (handle_of handles) (name_from 0 s.names c.args.name.now) =
    c.thing_named-thing.ensures ∙ ap (λ (ns : List SceneName). option_and_then (handle_of handles) (name_from 0 (map name_seen ns) c.args.name.now)) c.as_slice-2.ensures in
    (c.if_drawn_on.ensures ∙ ap (if-drawn s k f is c.args.name.now views) thing)
    ∙ named-is s k f is c.args.name.now c.plan_law.ensures.plan c.play_frame.new.book handles views c.in_ok-views.ensures.reached c.in_ok-views.ensures.views p planned
