use Rattle.std.proofs.Common.{◌≡◌, ◌<◌, ℕ, List, length, Option, Some, None, IsSome, refl, ap, sym, subst, ◌∙◌, arith}
use Rattle.std.proofs.lemmas.List.{length-map}
use Rattle.gfx_model.specs.Words.{Handle}
use Rattle.scene_model.specs.Scene.{Scene}
use Rattle.scene_model.specs.Journal.{Journal}
use Rattle.scene_text.specs.Seen.{frame_seen, scene_seen}
use Rattle.scene_playing.specs.Order.{order_seen}
use Rattle.scene_tracing.specs.Asked.{journal_asked}
use Rattle.item_lines.specs.Items.{item_lines}
use Rattle.io_whole.specs.Runs.{putting}
use Rattle.target_scenes.specs.Numbered.{scene_numbered_target_lines, scene_target_named}
use Rattle.target_scenes.specs.Told.{IsTextOf}
use Rattle.target_scenes.specs.declared.told.TargetText.{TargetText}
use Rattle.gfx_trace.specs.Asked.{scene_by, asked_of}
use Rattle.gfx_trace.specs.Ended.{IsPut}
use Rattle.gfx_trace.specs.Jobs as jobs
use Rattle.gfx_trace.specs.declared.status.TraceStatus.TheVariants as status
use Rattle.gfx_trace.proofs.Ends.{refused_answered, target_answered}
use Rattle.gfx_trace.proofs.Targets.{lines_done, lines_text, none_missing, name_line, spot_line}
use Rattle.gfx_trace.proofs.frame_buffer.put_target.Goals as goal

pub returns-in-Ok-Lines-clause-answered : goal.returns-in-Ok-Lines-clause-answered
returns-in-Ok-Lines-clause-answered g c =
    let bytes : List ℕ = c.args.bytes.now in
    let s : Scene = scene_seen c.args.asked.now.scene in
    let j : Journal = journal_asked s (order_seen c.order_of.result) in
    let p = c.args.named.place in
    let name : List ℕ = c.args.named.name.now in
    let found : asked_of bytes ≡ scene_by s j = c.requires.found ∙ ap (λ (o : Option Journal). scene_by s (journal_asked s o)) (sym c.order_of.ensures) in
    let mapped : length s.frames ≡ length c.args.asked.now.scene.frames = length-map c.args.asked.now.scene.frames frame_seen in
    let lt = c.requires.frame in
    let frame : p.frame < length s.frames = omega (arith, mapped, lt) in
    let named : Option Handle = scene_target_named s p.frame name in
    let lines : Option (List ℕ) = scene_numbered_target_lines (item_lines bytes s p.frame) s j p.frame name p.x p.y in
    let text : List ℕ = c.in-Ok-Lines.text.items in
    let told : lines ≡ Some text = subst (λ (t : TargetText). IsTextOf t named lines) c.in-Ok-Lines.field-0-is c.in-Ok-Lines.ensures in
    let sink = putting (g.P.Sink.held c.args.sink.now) (g.P.Sink.held c.put_text.new.sink) (g.P.Sink.faults c.args.sink.now) (g.P.Sink.faults c.put_text.new.sink) in
    target_answered c.put_text.result p name bytes text sink _ (lines_done bytes s j p name found frame text told) (lines_text bytes s j p name found frame text told)
    (subst (λ (t : List ℕ). IsPut c.put_text.result t sink) c.deref.ensures.value c.put_text.ensures.put) refl

pub returns-in-Ok-NoTarget-clause-answered : goal.returns-in-Ok-NoTarget-clause-answered
returns-in-Ok-NoTarget-clause-answered g c =
    let bytes : List ℕ = c.args.bytes.now in
    let s : Scene = scene_seen c.args.asked.now.scene in
    let j : Journal = journal_asked s (order_seen c.order_of.result) in
    let p = c.args.named.place in
    let name : List ℕ = c.args.named.name.now in
    let found : asked_of bytes ≡ scene_by s j = c.requires.found ∙ ap (λ (o : Option Journal). scene_by s (journal_asked s o)) (sym c.order_of.ensures) in
    let mapped : length s.frames ≡ length c.args.asked.now.scene.frames = length-map c.args.asked.now.scene.frames frame_seen in
    let lt = c.requires.frame in
    let frame : p.frame < length s.frames = omega (arith, mapped, lt) in
    let named : Option Handle = scene_target_named s p.frame name in
    let lines : Option (List ℕ) = scene_numbered_target_lines (item_lines bytes s p.frame) s j p.frame name p.x p.y in
    let none : (named ≡ None) × (lines ≡ None) = subst (λ (t : TargetText). IsTextOf t named lines) c.in-Ok-NoTarget.field-0-is c.in-Ok-NoTarget.ensures in
    refused_answered status.NoPixel c.refuse_target.result (jobs.target_job p name) bytes _ _ _ tt (none_missing bytes s j p name found frame none.1) (name_line bytes s j p name found frame none.0) refl c.refuse_target.ensures.refused

pub returns-in-Ok-NoPixel-clause-answered : goal.returns-in-Ok-NoPixel-clause-answered
returns-in-Ok-NoPixel-clause-answered g c =
    let bytes : List ℕ = c.args.bytes.now in
    let s : Scene = scene_seen c.args.asked.now.scene in
    let j : Journal = journal_asked s (order_seen c.order_of.result) in
    let p = c.args.named.place in
    let name : List ℕ = c.args.named.name.now in
    let found : asked_of bytes ≡ scene_by s j = c.requires.found ∙ ap (λ (o : Option Journal). scene_by s (journal_asked s o)) (sym c.order_of.ensures) in
    let mapped : length s.frames ≡ length c.args.asked.now.scene.frames = length-map c.args.asked.now.scene.frames frame_seen in
    let lt = c.requires.frame in
    let frame : p.frame < length s.frames = omega (arith, mapped, lt) in
    let named : Option Handle = scene_target_named s p.frame name in
    let lines : Option (List ℕ) = scene_numbered_target_lines (item_lines bytes s p.frame) s j p.frame name p.x p.y in
    let none : IsSome named × (lines ≡ None) = subst (λ (t : TargetText). IsTextOf t named lines) c.in-Ok-NoPixel.field-0-is c.in-Ok-NoPixel.ensures in
    refused_answered status.NoPixel c.refuse_pixel.result (jobs.target_job p name) bytes _ _ _ tt (none_missing bytes s j p name found frame none.1) (spot_line bytes s j p name found frame none.0) refl c.refuse_pixel.ensures.refused
