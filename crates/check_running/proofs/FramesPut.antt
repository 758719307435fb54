-- The lines of frames, put one frame after another.
use Rattle.std.proofs.Common.{◌≡◌, ◌≤◌, ℕ, ◌+◌, List, [], ◌++◌, map, length, drop, Option, refl, sym, ap, subst, ◌∙◌}
use Rattle.std.specs.List.{flat_map}
use Rattle.std.proofs.lemmas.Grind.{flat_map-append}
use Rattle.std.proofs.lemmas.List.{drop_all}
use Rattle.io_edge.specs.Edge.{with_back}
use Rattle.scene_model.specs.Scene.{Scene}
use Rattle.dropped_lines.specs.Verdicts.{verdicts}
use Rattle.dropped_lines.specs.Numbers.{line_numbers}
use Rattle.dropped_lines.specs.Dropped.{dropped_line, dropped_with, dropped_text}
use Rattle.scene_check.specs.declared.found.DroppedLine.{DroppedLine}
use Rattle.scene_check.specs.Checkers.{lines_from}
use Rattle.scene_check.proofs.SceneLaws.{lines_first, lines_none}
use Rattle.check_running.specs.Lines.{told_line}
use Rattle.check_running.specs.Putting.{IsPutSoFar}
use Rattle.check_running.proofs.LineTexts.{lines_are}
use Rattle.check_running.proofs.Fronts.{none_put, all_put}

-- before the first frame
pub start_put : (old : Option (List ℕ)) (bytes : List ℕ) (s : Scene) (left : List ℕ) → left ≡ line_numbers bytes → IsPutSoFar old (flat_map told_line (lines_from s 0 left)) (dropped_text bytes s) old
start_put old bytes s left e = subst (λ t. IsPutSoFar old t (dropped_text bytes s) old) (sym same) (none_put old (dropped_text bytes s))
  where
    same : flat_map told_line (lines_from s 0 left) ≡ dropped_text bytes s
    same =
        ap (flat_map told_line) (lines_first s left) ∙ lines_are (dropped_with left (verdicts s))
        ∙ ap (λ ns. flat_map dropped_line (dropped_with ns (verdicts s))) e

-- a frame's lines stand in front of what is left
pub frame_next : (old mid : Option (List ℕ)) (whole : List ℕ) (s : Scene) (k i : ℕ) (left next : List ℕ) (items : List DroppedLine) → k ≡ i → lines_from s k left ≡ items ++ lines_from s (k + 1) next
    → IsPutSoFar old (flat_map told_line (lines_from s i left)) whole mid → IsPutSoFar old (flat_map told_line items ++ flat_map told_line (lines_from s (i + 1) next)) whole mid
frame_next old mid whole s k i left next items e told p =
    subst (λ t. IsPutSoFar old t whole mid) (ap (flat_map told_line) here ∙ flat_map-append told_line items (lines_from s (i + 1) next)) p
  where
    here : lines_from s i left ≡ items ++ lines_from s (i + 1) next
    here = ap (λ n. lines_from s n left) (sym e) ∙ told ∙ ap (λ n. items ++ lines_from s (n + 1) next) e

-- behind the last frame
pub ended_put : (old new : Option (List ℕ)) (whole : List ℕ) (s : Scene) (i : ℕ) (left : List ℕ) → length s.frames ≤ i → IsPutSoFar old (flat_map told_line (lines_from s i left)) whole new → new ≡ with_back old whole
ended_put old new whole s i left le p =
    all_put old new whole (subst (λ t. IsPutSoFar old t whole new) (ap (flat_map told_line) (lines_none s i left (drop_all i s.frames le))) p)
