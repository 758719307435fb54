use Rattle.std.proofs.Common.{◌≡◌, ℕ, ◌+◌, List, [], ◌++◌, ap, sym, ◌∙◌}
use Rattle.scene_model.specs.Scene.{SceneFrame, Scene}
use Rattle.scene_text.specs.Seen.{scene_seen, frame_seen}
use Rattle.scene_progress.specs.Progress.{start_of, before_of}
use Rattle.dropped_lines.specs.Verdicts.{frame_verdicts}
use Rattle.scene_check.specs.Found.{FoundView, noted_all}
use Rattle.scene_check.specs.Checkers.{CheckerView, lines_from}
use Rattle.scene_check.proofs.SceneLaws.{frame_told}
use Rattle.scene_check.proofs.check.Checker.next_frame.Goals as goal

pub returns-clause-told : goal.returns-clause-told
returns-clause-told c =
    let s : Scene = scene_seen c.args.scene.now in
    let f : SceneFrame = frame_seen c.args.frame.now in
    let k : ℕ = c.args.self.now.number in
    let found : FoundView = c.check_frame.new.found in
    let same : c.self.inside.number ≡ k = ap (λ (v : CheckerView). v.number) c.self.view_is in
    let same_left : c.self.inside.left.now ≡ c.args.self.now.left = ap (λ (v : CheckerView). v.left) c.self.view_is in
    let judged : found ≡ noted_all (record { left = c.args.self.now.left; lines = [] }) (frame_verdicts s k (start_of s k) (before_of s k f) f) =
    c.in_ok-check_frame.ensures.judged ∙ ap (λ n. noted_all c.new-found.result (frame_verdicts s n (start_of s n) (before_of s n f) f)) same
    ∙ ap (λ v. noted_all v (frame_verdicts s k (start_of s k) (before_of s k f) f)) (c.new-found.ensures ∙ ap (λ ns. let q : FoundView = record { left = ns; lines = [] } in q) same_left) in
    frame_told s k f c.args.self.now.left found c.requires.is judged ∙ ap (λ ls. ls ++ lines_from s (k + 1) found.left) (sym c.into_lines.ensures)
    ∙ ap (λ ns. c.into_lines.result.items ++ lines_from s (k + 1) ns) (sym c.left-self-inside.ensures)
