use Rattle.std.proofs.Common.{◌≡◌, ℕ, length, map, List, ap, sym, subst, ◌∙◌}
use Rattle.std.specs.List.{AllByRecursion}
use Rattle.scene_model.specs.Scene.{SceneFrame, Scene}
use Rattle.resource_laws.proofs.RunLaws.{bare_started}
use Rattle.scene_text.specs.declared.scene.ResLine.{ResLine}
use Rattle.scene_text.specs.Seen.{scene_seen, frame_seen, resource_line_seen}
use Rattle.scene_lines.specs.Names.{LineHasPlace, FrameHasPlaces}
use Rattle.scene_check.proofs.SceneLaws.{earlier, frame_at}
use Rattle.target_names.proofs.Reached.{frame-reached, views-are, played-as, few-in, few-lines}
use Rattle.target_names.proofs.frames.play_frame.Goals as goal

pub start_frame-requires-clause-later : goal.start_frame-requires-clause-later
start_frame-requires-clause-later c = earlier (scene_seen c.args.scene.now) c.args.number c.args.book.now c.args.handles.now c.requires.reached

pub play_lines-requires-clause-places : goal.play_lines-requires-clause-places
play_lines-requires-clause-places c =
    let s : Scene = scene_seen c.args.scene.now in
    let places : FrameHasPlaces (length s.names) (frame_seen c.args.frame.now) = frame_at (FrameHasPlaces (length s.names)) s.frames c.args.number (frame_seen c.args.frame.now) (c.places_law.ensures s c.requires.readable) c.requires.is in
    subst (λ n. AllByRecursion (LineHasPlace n) (map resource_line_seen c.as_slice.result.now)) (sym c.requires.reached.many)
    (subst (λ (ls : List ResLine). AllByRecursion (LineHasPlace (length s.names)) (map resource_line_seen ls)) (sym c.as_slice.ensures) places.before)

pub play_lines-requires-clause-few : goal.play_lines-requires-clause-few
play_lines-requires-clause-few c =
    few-lines c.as_slice.result.now c.args.frame.now.before c.as_slice.ensures (few-in (scene_seen c.args.scene.now) c.args.number (frame_seen c.args.frame.now) c.requires.bounded c.requires.is).before

pub play_lines-requires-2-clause-places : goal.play_lines-requires-2-clause-places
play_lines-requires-2-clause-places c =
    let s : Scene = scene_seen c.args.scene.now in
    let places : FrameHasPlaces (length s.names) (frame_seen c.args.frame.now) = frame_at (FrameHasPlaces (length s.names)) s.frames c.args.number (frame_seen c.args.frame.now) (c.places_law.ensures s c.requires.readable) c.requires.is in
    subst (λ n. AllByRecursion (LineHasPlace n) (map resource_line_seen c.as_slice-2.result.now)) (sym (c.in_ok-play_lines.ensures.played.many ∙ c.requires.reached.many))
    (subst (λ (ls : List ResLine). AllByRecursion (LineHasPlace (length s.names)) (map resource_line_seen ls)) (sym c.as_slice-2.ensures) places.beside)

pub play_lines-requires-2-clause-few : goal.play_lines-requires-2-clause-few
play_lines-requires-2-clause-few c =
    few-lines c.as_slice-2.result.now c.args.frame.now.beside c.as_slice-2.ensures (few-in (scene_seen c.args.scene.now) c.args.number (frame_seen c.args.frame.now) c.requires.bounded c.requires.is).beside

pub returns-clause-reached : goal.returns-clause-reached
returns-clause-reached c =
    let s : Scene = scene_seen c.args.scene.now in
    frame-reached s c.args.number (frame_seen c.args.frame.now) c.args.book.now c.start_frame.new.self c.play_lines.new.calls c.play_lines-2.new.calls c.args.handles.now c.play_lines.new.handles c.play_lines-2.new.handles _ _
    bare_started c.requires.reached c.requires.is c.start_frame.ensures
    (played-as c.as_slice-names.result.now c.args.scene.now.names c.as_slice.result.now c.args.frame.now.before _ _ _ _ _ c.as_slice-names.ensures c.as_slice.ensures c.in_ok-play_lines.ensures.played)
    (played-as c.as_slice-names.result.now c.args.scene.now.names c.as_slice-2.result.now c.args.frame.now.beside _ _ _ _ _ c.as_slice-names.ensures c.as_slice-2.ensures c.in_ok-play_lines-2.ensures.played)
    c.take_work.new.self c.in_ok-work.ensures.1

pub returns-clause-views : goal.returns-clause-views
returns-clause-views c =
    let s : Scene = scene_seen c.args.scene.now in
    c.in_ok-work.ensures.0.views
    ∙ views-are s c.args.number (frame_seen c.args.frame.now) c.args.book.now c.start_frame.new.self c.play_lines.new.calls c.play_lines-2.new.calls c.args.handles.now c.play_lines.new.handles c.play_lines-2.new.handles _ _
    bare_started c.requires.reached c.requires.is c.start_frame.ensures
    (played-as c.as_slice-names.result.now c.args.scene.now.names c.as_slice.result.now c.args.frame.now.before _ _ _ _ _ c.as_slice-names.ensures c.as_slice.ensures c.in_ok-play_lines.ensures.played)
    (played-as c.as_slice-names.result.now c.args.scene.now.names c.as_slice-2.result.now c.args.frame.now.beside _ _ _ _ _ c.as_slice-names.ensures c.as_slice-2.ensures c.in_ok-play_lines-2.ensures.played)
