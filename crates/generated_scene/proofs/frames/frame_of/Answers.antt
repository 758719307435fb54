use Rattle.std.proofs.Common.{◌≡◌, ℕ, ◌+◌, List, [], ◌∷◌, ◌++◌, map, ap, sym, ◌∙◌, arith}
use Rattle.std.specs.List.{range_with_len}
use Rattle.std.proofs.lemmas.List.{map-append}
use Rattle.std.proofs.lemmas.List.FromFn.{map-range_with_len_more}
use Rattle.scene_model.specs.Scene.{ResourceLine, Block, SceneFrame}
use Rattle.scene_model.specs.Generated.{block_of}
use Rattle.scene_text.specs.Seen.{resource_line_seen, block_seen}
use Rattle.generated_scene.proofs.frames.frame_of.Goals as goal

abbrev frame_with : List ResourceLine → List Block → List ResourceLine → SceneFrame
frame_with before blocks beside = record { before = before; blocks = blocks; beside = beside }

pub loop-encoder-preserved : goal.loop-encoder-preserved
loop-encoder-preserved c =
    let e = c.loop-encoder.encoder in
    let last : 0 + e ≡ e = omega arith in
    ap (map block_seen) c.in_ok-push.ensures.items
    ∙ map-append block_seen c.loop-encoder.blocks.items (c.in_ok-block.block ∷ [])
    ∙ (λ i. c.loop-encoder.invariant i ++ c.in_ok-block.ensures i ∷ [])
    ∙ sym (map-range_with_len_more (block_of c.args.frame) 0 e e last)

pub returns : goal.returns
returns c =
    let end : c.loop-encoder.encoder ≡ 4 = omega (arith, c.loop-encoder.auto.encoder-end, c.loop-encoder-test.false) in
    let blocks : map block_seen c.from_vec.result ≡ map (block_of c.args.frame) (range_with_len 0 4) = ap (map block_seen) c.from_vec.ensures ∙ c.loop-encoder.invariant ∙ ap (λ (n : ℕ). map (block_of c.args.frame) (range_with_len 0 n)) end in
    let beside : map resource_line_seen c.new.result ≡ [] = ap (map resource_line_seen) c.new.ensures in
    λ i. frame_with (c.in_ok-before.ensures i) (blocks i) (beside i)
