use Rattle.std.proofs.Common.{◌≡◌, ◌≤◌, ℕ, ◌+◌, List, ◌++◌, map, length, Some, slice_get, refl, sym, ap, subst, ◌∙◌, arith, rules}
use Rattle.std.specs.List.{flat_map}
use Rattle.std.proofs.lemmas.List.{length-map}
use Rattle.io_edge.specs.Edge.{with_back}
use Rattle.io_whole.specs.Whole.{HasFront}
use Rattle.io_whole.proofs.Pieces.{rose_after}
use Rattle.scene_model.specs.Scene.{SceneFrame, Scene}
use Rattle.scene_text.specs.declared.scene.SceneFrame as code
use Rattle.scene_text.specs.Seen.{scene_seen, frame_seen}
use Rattle.dropped_lines.specs.Dropped.{dropped_text}
use Rattle.scene_check.specs.declared.found.DroppedLine.{DroppedLine}
use Rattle.scene_check.specs.Checkers.{HasJudged, lines_from}
use Rattle.scene_check.proofs.SceneLaws.{got}
use Rattle.check_running.specs.Lines.{told_line}
use Rattle.check_running.specs.Putting.{IsPutSoFar}
use Rattle.check_running.proofs.Fronts.{put_more, cut_front, so_far_front}
use Rattle.check_running.proofs.FramesPut.{start_put, frame_next, ended_put}
use Rattle.check_running.proofs.putting.put_frames.Goals as goal

pub loop-frame-init : goal.loop-frame-init
loop-frame-init g c = record {
  judged = c.in_ok-checker.ensures.stands;
  put = start_put (g.N.Sink.held c.args.lines.now) c.args.bytes.now (scene_seen c.args.scene.now) c.in_ok-checker.checker.left (c.in_ok-checker.ensures.left ∙ c.as_slice.ensures.value ∙ c.in_ok-numbers.ensures);
  sure = refl;
  faults = omega arith;
}

pub next_frame-requires-clause-is : goal.next_frame-requires-clause-is
next_frame-requires-clause-is g c =
    let s : Scene = scene_seen c.args.scene.now in
    let f : SceneFrame = frame_seen c.frame-item.result in
    ap (slice_get s.frames) c.loop-frame.invariant.judged.number
    ∙ subst (λ (fs : List code.SceneFrame). slice_get (map frame_seen fs) c.loop-frame.frame-index ≡ Some f) c.as_slice-frame-items.ensures
    (got frame_seen c.as_slice-frame-items.result.now c.loop-frame.frame-index c.frame-item.result c.loop-frame-test.true c.frame-item.is)

pub returns-in_err-dropped-clause-front : goal.returns-in_err-dropped-clause-front
returns-in_err-dropped-clause-front g c = so_far_front (g.N.Sink.held c.args.lines.now) (g.N.Sink.held c.loop-frame.lines) _ (dropped_text c.args.bytes.now (scene_seen c.args.scene.now)) c.loop-frame.invariant.put

pub returns-in_err-put_lines-clause-front : goal.returns-in_err-put_lines-clause-front
returns-in_err-put_lines-clause-front g c =
    let s : Scene = scene_seen c.args.scene.now in
    let items : List DroppedLine = c.in_ok-dropped.dropped.items in
    let next : List ℕ = c.next_frame.new.self.left in
    cut_front (g.N.Sink.held c.args.lines.now) (g.N.Sink.held c.loop-frame.lines) (g.N.Sink.held c.put_lines.new.lines) (flat_map told_line items) (flat_map told_line (lines_from s (c.loop-frame.frame-index + 1) next)) (dropped_text c.args.bytes.now s)
    (frame_next (g.N.Sink.held c.args.lines.now) (g.N.Sink.held c.loop-frame.lines) (dropped_text c.args.bytes.now s) s c.loop-frame.checker.number c.loop-frame.frame-index c.loop-frame.checker.left next items c.loop-frame.invariant.judged.number c.in_ok-dropped.ensures.told
    c.loop-frame.invariant.put)
    (subst (λ (ds : List DroppedLine). HasFront (g.N.Sink.held c.loop-frame.lines) (flat_map told_line ds) (g.N.Sink.held c.put_lines.new.lines)) c.as_slice-in-loop-frame.ensures.value c.put_lines.ensures.front)

pub returns-in_err-put_lines-clause-fault : goal.returns-in_err-put_lines-clause-fault
returns-in_err-put_lines-clause-fault g c =
    λ e. rose_after (g.N.Sink.faults c.args.lines.now) (g.N.Sink.faults c.loop-frame.lines) (g.N.Sink.faults c.put_lines.new.lines) c.loop-frame.invariant.faults (c.put_lines.ensures.fault (search (rules, e)))

pub loop-frame-preserved : goal.loop-frame-preserved
loop-frame-preserved g c =
    let s : Scene = scene_seen c.args.scene.now in
    let items : List DroppedLine = c.in_ok-dropped.dropped.items in
    let next : List ℕ = c.next_frame.new.self.left in
    record {
      judged = subst (λ n. HasJudged s (n + 1) c.next_frame.new.self) c.loop-frame.invariant.judged.number c.in_ok-dropped.ensures.stands;
      put = put_more (g.N.Sink.held c.args.lines.now) (g.N.Sink.held c.loop-frame.lines) (g.N.Sink.held c.put_lines.new.lines) (flat_map told_line items) (flat_map told_line (lines_from s (c.loop-frame.frame-index + 1) next)) (dropped_text c.args.bytes.now s)
          (frame_next (g.N.Sink.held c.args.lines.now) (g.N.Sink.held c.loop-frame.lines) (dropped_text c.args.bytes.now s) s c.loop-frame.checker.number c.loop-frame.frame-index c.loop-frame.checker.left next items c.loop-frame.invariant.judged.number c.in_ok-dropped.ensures.told
          c.loop-frame.invariant.put)
          (c.in_ok-put_lines.ensures.whole ∙ ap (λ ds. with_back (g.N.Sink.held c.loop-frame.lines) (flat_map told_line ds)) c.as_slice-in-loop-frame.ensures.value);
      sure = c.in_ok-put_lines.ensures.sure ∙ c.loop-frame.invariant.sure;
      faults = omega (arith, c.in_ok-put_lines.ensures.no_fewer, c.loop-frame.invariant.faults);
    }

pub returns-clause-whole : goal.returns-clause-whole
returns-clause-whole g c =
    let s : Scene = scene_seen c.args.scene.now in
    let same : length c.as_slice-frame-items.result.now ≡ length c.args.scene.now.frames = ap length c.as_slice-frame-items.ensures in
    let mapped : length s.frames ≡ length c.args.scene.now.frames = length-map c.args.scene.now.frames frame_seen in
    let last = c.loop-frame-test.false in
    ended_put (g.N.Sink.held c.args.lines.now) (g.N.Sink.held c.loop-frame.lines) (dropped_text c.args.bytes.now s) s c.loop-frame.frame-index c.loop-frame.checker.left (omega (arith, same, mapped, last)) c.loop-frame.invariant.put

pub returns-clause-front : goal.returns-clause-front
returns-clause-front g c = so_far_front (g.N.Sink.held c.args.lines.now) (g.N.Sink.held c.loop-frame.lines) _ (dropped_text c.args.bytes.now (scene_seen c.args.scene.now)) c.loop-frame.invariant.put
