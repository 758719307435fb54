use Rattle.std.proofs.Common.{rules, ◌≡◌, ◌≤◌, ◌+◌, ◌-◌, ◌/◌, ◌++◌, map, ap, sym, refl, ◌∙◌, arith}
use Rattle.std.specs.List.{range_with_len}
use Rattle.std.proofs.lemmas.List.{map-append}
use Rattle.scene_model.specs.Generated.{generated_frame}
use Rattle.scene_text.specs.Seen.{frame_seen}
use Rattle.generated_scene.proofs.TwoRanges.{mapped_in_two}
use Rattle.generated_scene.proofs.frames.+fn-frames_in_parts-join+arg3+frames_in_parts.Goals as goal

pub returns : goal.returns
returns g t c =
    let from = c.args.from in
    let count = c.args.count in
    let share = c.args.count / c.args.parts in
    let first : map frame_seen c.in_ok-all.all.items ≡ map generated_frame (range_with_len from share) = search rules in
    let second : map frame_seen c.in_ok-others.others.items ≡ map generated_frame (range_with_len (from + share) (count - share)) = search rules in
    let less : c.args.count / c.args.parts ≤ c.args.count = search rules in
    let all : share + (count - share) ≡ count = omega (arith, less) in
    ap (map frame_seen) c.in_ok-append.ensures.items
    ∙ map-append frame_seen c.in_ok-all.all.items c.in_ok-others.others.items
    ∙ (λ i. first i ++ second i)
    ∙ sym (mapped_in_two generated_frame from share (count - share) (from + share) refl)
    ∙ ap (λ k. map generated_frame (range_with_len from k)) all
