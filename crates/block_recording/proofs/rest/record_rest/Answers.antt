use Rattle.std.proofs.Common.{◌≡◌, ◌+◌, ◌∷◌, List, map, drop, sym, ◌∙◌, subst, arith}
use Rattle.std.proofs.lemmas.List.{length-map}
use Rattle.scene_model.specs.Scene.{EncoderLine}
use Rattle.scene_text.specs.Seen.{encoder_line_seen}
use Rattle.block_recording.specs.Jobs.{IsOnTheWay}
use Rattle.block_recording.proofs.Folds.{items_few, items_more}
use Rattle.block_recording.proofs.OnTheWay.{on_way, lines_left, line_more}
use Rattle.block_recording.proofs.rest.record_rest.Goals as goal

pub overflow_add-item : goal.overflow_add-item
overflow_add-item g c =
    let lines = c.args.lines.now in
    let at = c.loop-line.line-index in
    let more = items_more lines at c.line-item.result c.loop-line-test.true c.line-item.is in
    let few = items_few lines (at + 1) in
    let all = length-map lines encoder_line_seen in
    omega (arith, more, few, all, c.pass-item.ensures, c.loop-line.invariant.item, c.requires.few, c.loop-line-test.true)

pub loop-line-preserved : goal.loop-line-preserved
loop-line-preserved g c =
    let lines = c.args.lines.now in
    let at = c.loop-line.line-index in
    let line = c.line-item.result in
    let was = c.loop-line.invariant in
    let rest : List EncoderLine = map encoder_line_seen (drop (at + 1) lines) in
    let left : map encoder_line_seen (drop at lines) ≡ encoder_line_seen line ∷ rest = lines_left lines at line c.loop-line-test.true c.line-item.is in
    let way : IsOnTheWay g.C.Naming.admits (on_way c.loop-line.encoder c.loop-line.dropped (encoder_line_seen line ∷ rest) c.args.names.now) =
    subst (λ (ls : List EncoderLine). IsOnTheWay g.C.Naming.admits (on_way c.loop-line.encoder c.loop-line.dropped ls c.args.names.now)) left was.way in
    record {
      item = (λ i. was.item i + c.pass-item.ensures i) ∙ sym (items_more lines at line c.loop-line-test.true c.line-item.is);
      way = line_more g.C.Naming.admits c.args.names.now (encoder_line_seen line) rest c.loop-line.encoder c.record_line-dropped.new.encoder c.loop-line.dropped c.record_line-dropped.result c.record_line-dropped.ensures way;
    }
