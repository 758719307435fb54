use Rattle.std.proofs.Common.{◌≡◌, ◌+◌, ◌∷◌, Some, List, Option, map, ap, sym, ◌∙◌, subst}
use Rattle.gfx_model.specs.Words.{Handle}
use Rattle.scene_model.specs.Scene.{EncoderLine}
use Rattle.scene_text.specs.Seen.{encoder_line_seen}
use Rattle.block_recording.specs.Lines.{IsLineDone}
use Rattle.block_recording.specs.Jobs.{StepsView, IsOnTheWay, IsStep}
use Rattle.block_recording.proofs.OnTheWay.{on_way, line_more}
use Rattle.block_recording.proofs.Items.{stepped}
use Rattle.block_recording.proofs.steps.Steps.step.Goals as goal

pub invariant_of-self : goal.invariant_of-self
invariant_of-self g c =
    let inside = c.self.inside in
    let names : List (Option Handle) = inside.names.value.items in
    let line : EncoderLine = encoder_line_seen c.in-Some.line.now in
    let rest : List EncoderLine = map encoder_line_seen c.in-Some.rest.now in
    let named : c.as_slice.result.now ≡ names = c.as_slice.ensures.value ∙ ap (λ v. v.items) c.deref.ensures in
    let done : IsLineDone names line inside.encoder c.record_line-dropped.new.encoder c.record_line-dropped.result = subst (λ (ns : List (Option Handle)). IsLineDone ns line inside.encoder c.record_line-dropped.new.encoder c.record_line-dropped.result) named c.record_line-dropped.ensures in
    let left : map encoder_line_seen inside.lines.now ≡ line ∷ rest = ap (map encoder_line_seen) c.in-Some.ensures.cases.0 in
    let was : IsOnTheWay g.C.Naming.admits (on_way inside.encoder inside.dropped (line ∷ rest) names) = subst (λ (ls : List EncoderLine). IsOnTheWay g.C.Naming.admits (on_way inside.encoder inside.dropped ls names)) left c.self.invariant in
    line_more g.C.Naming.admits names line rest inside.encoder c.record_line-dropped.new.encoder inside.dropped c.record_line-dropped.result done was

pub returns : goal.returns
returns g c =
    let inside = c.self.inside in
    let names : List (Option Handle) = inside.names.value.items in
    let line : EncoderLine = encoder_line_seen c.in-Some.line.now in
    let rest : List EncoderLine = map encoder_line_seen c.in-Some.rest.now in
    let named : c.as_slice.result.now ≡ names = c.as_slice.ensures.value ∙ ap (λ v. v.items) c.deref.ensures in
    let done : IsLineDone names line inside.encoder c.record_line-dropped.new.encoder c.record_line-dropped.result = subst (λ (ns : List (Option Handle)). IsLineDone ns line inside.encoder c.record_line-dropped.new.encoder c.record_line-dropped.result) named c.record_line-dropped.ensures in
    let left : map encoder_line_seen inside.lines.now ≡ line ∷ rest = ap (map encoder_line_seen) c.in-Some.ensures.cases.0 in
    let new : StepsView = on_way c.record_line-dropped.new.encoder (inside.dropped + c.record_line-dropped.result) rest names in
    let was : on_way inside.encoder inside.dropped (line ∷ rest) names ≡ c.args.self.now = ap (λ (ls : List EncoderLine). on_way inside.encoder inside.dropped ls names) (sym left) ∙ c.self.view_is in
    subst (λ (old : StepsView). IsStep (Some c.puts_down.result) old new) was
    (stepped names line rest inside.encoder c.record_line-dropped.new.encoder inside.dropped c.record_line-dropped.result done c.self.invariant.state c.self.invariant.stand c.puts_down.result c.puts_down.ensures)
