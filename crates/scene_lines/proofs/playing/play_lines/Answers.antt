use Rattle.std.proofs.Common.{map, take, length, ℕ, List, [], ◌∷◌, ◌++◌, ◌+◌, sym, ◌∙◌, subst, arith}
use Rattle.scene_model.specs.Scene.{ResourceLine}
use Rattle.scene_text.specs.Seen.{name_seen, resource_line_seen}
use Rattle.scene_lines.specs.Names.{LineHasPlace}
use Rattle.scene_lines.specs.Played.{LinesPlayed}
use Rattle.scene_lines.proofs.Lines.{taken, placed, more_played}
use Rattle.scene_lines.proofs.playing.play_lines.Goals as goal

pub play_line-requires : goal.play_line-requires
play_line-requires g c =
    subst (λ n. LineHasPlace n (resource_line_seen c.line-item.result)) (sym c.loop-line.auto.handles)
    (placed (LineHasPlace (length c.args.handles.now)) resource_line_seen c.args.lines.now c.loop-line.line-index c.line-item.result c.loop-line-test.true c.line-item.is c.requires.places)

pub loop-line-preserved : goal.loop-line-preserved
loop-line-preserved g c =
    let names : List (List ℕ) = map name_seen c.args.names.now in
    let before : List ResourceLine = take c.loop-line.line-index (map resource_line_seen c.args.lines.now) in
    let place : LineHasPlace (length c.args.handles.now) (resource_line_seen c.line-item.result) = placed (LineHasPlace (length c.args.handles.now)) resource_line_seen c.args.lines.now c.loop-line.line-index c.line-item.result c.loop-line-test.true c.line-item.is c.requires.places in
    let more = more_played names before (resource_line_seen c.line-item.result) c.loop-line.dropped c.in_ok-is_dropped.is_dropped (g.B.ResourceCalls.book c.args.calls.now) (g.B.ResourceCalls.book c.loop-line.calls) (g.B.ResourceCalls.book c.play_line.new.calls) c.args.handles.now c.loop-line.handles c.play_line.new.handles
    place c.play_line.ensures.many c.loop-line.invariant.0 c.in_ok-is_dropped.ensures.answer in
    let most = c.counted-dropped.ensures.most in
    let few = c.loop-line.invariant.2 in (
      subst (λ (xs : List ResourceLine). LinesPlayed names xs (c.loop-line.dropped + c.counted-dropped.result) (g.B.ResourceCalls.book c.args.calls.now) (g.B.ResourceCalls.book c.play_line.new.calls) c.args.handles.now c.play_line.new.handles)
          (sym (taken resource_line_seen c.args.lines.now c.loop-line.line-index c.line-item.result c.loop-line-test.true c.line-item.is))
          (subst (λ n. LinesPlayed names (before ++ resource_line_seen c.line-item.result ∷ []) (c.loop-line.dropped + n) (g.B.ResourceCalls.book c.args.calls.now) (g.B.ResourceCalls.book c.play_line.new.calls) c.args.handles.now c.play_line.new.handles) (sym c.counted-dropped.ensures.number) more),
      c.play_line.ensures.rest ∙ c.loop-line.invariant.1,
      omega (arith, most, few),
    )
