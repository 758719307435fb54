use Rattle.std.proofs.Common.{◌%◌, List, [], ◌∷◌, ◌++◌, map, ap, ◌∙◌}
use Rattle.std.proofs.lemmas.List.{map-append}
use Rattle.scene_model.specs.Scene.{EncoderLine, state_line, transient_vertices_line, submit_line}
use Rattle.scene_text.specs.Seen.{encoder_line_seen}
use Rattle.generated_scene.proofs.Grows.{three_more}
use Rattle.generated_scene.proofs.frames.push_draw.Goals as goal

pub returns : goal.returns
returns c =
    let before : List EncoderLine = map encoder_line_seen c.args.lines.now.items in
    let d = c.args.draw in
    ap (map encoder_line_seen) (three_more _ _ _ _ _ _ _ c.in_ok-push.ensures.items c.in_ok-push-2.ensures.items c.in_ok-push-3.ensures.items)
    ∙ map-append encoder_line_seen c.args.lines.now.items _
    ∙ ap (λ bytes. before ++ state_line 274877906975 ∷ transient_vertices_line 0 bytes ∷ submit_line (d % 6) 1 d 255 ∷ []) c.in_ok-bytes.ensures
