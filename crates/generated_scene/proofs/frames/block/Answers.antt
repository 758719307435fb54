use Rattle.std.proofs.Common.{◌≡◌, ℕ, List, ◌++◌, map, ap, sym, ◌∙◌, arith}
use Rattle.scene_model.specs.Scene.{EncoderLine, Block}
use Rattle.scene_text.specs.Seen.{encoder_line_seen}
use Rattle.generated_scene.specs.Draws.{lines_of_draw}
use Rattle.generated_scene.proofs.Grows.{lines_below, lines_more}
use Rattle.generated_scene.proofs.frames.block.Goals as goal

abbrev block_with : ℕ → List EncoderLine → Block
block_with e lines = record { encoder = e; lines = lines }

pub loop-draw-preserved : goal.loop-draw-preserved
loop-draw-preserved c =
    c.in_ok-push_own.ensures
    ∙ ap (λ (l : List EncoderLine). l ++ lines_of_draw c.args.frame c.args.encoder c.loop-draw.draw) c.loop-draw.invariant
    ∙ sym (lines_more c.args.frame c.args.encoder c.loop-draw.draw)

pub returns : goal.returns
returns c =
    let end : c.loop-draw.draw ≡ 1200 = omega (arith, c.loop-draw.auto.draw-end, c.loop-draw-test.false) in
    ap (block_with c.args.encoder) (ap (map encoder_line_seen) c.from_vec.ensures ∙ c.loop-draw.invariant ∙ ap (lines_below c.args.frame c.args.encoder) end)
