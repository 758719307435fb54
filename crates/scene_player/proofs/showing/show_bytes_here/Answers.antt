use Rattle.std.proofs.Common.{false, subst, length, map, sym, refl, arith}
use Rattle.std.proofs.lemmas.List.{take_all}
use Rattle.scene_model.specs.Grammar.{scene_of, whole_language}
use Rattle.scene_model.specs.Run.{misread}
use Rattle.scene_text.specs.Reads.{FailsAt}
use Rattle.scene_text.specs.declared.fault.SceneFault.{SceneFault}
use Rattle.scene_text.specs.Seen.{journal_seen, scene_seen}
use Rattle.scene_playing.specs.Frames.{note_seen}
use Rattle.scene_player.specs.declared.status.Status.TheVariants as status
use Rattle.scene_player.specs.Parts.{showing_command}
use Rattle.scene_player.proofs.Answered.{shows-scene}
use Rattle.scene_player.proofs.Refused.{may-refuse, misreads, plays}
use Rattle.scene_player.proofs.Counts.{counts-nothing, counts-refused, counts-scene}
use Rattle.scene_player.proofs.Fronts.{none_front, refused_front, same_front}
use Rattle.scene_player.proofs.showing.show_bytes_here.Goals as goal

pub returns-in-Ok-clause-answered : goal.returns-in-Ok-clause-answered
returns-in-Ok-clause-answered g c = λ count.
    let shown = c.show_here-showing in
    let scene = scene_seen c.in-Ok.scene in
    let journal = journal_seen shown.result.journal in
    rw (c.finish.ensures.journal, c.finish.ensures.pictures)
    (shows-scene (showing_command false c.args.with_journal count) c.args.bytes.now scene (λ j. j) journal (map note_seen shown.result.notes.items) _ _
    tt (c.requires, c.in-Ok.ensures.exact) (plays c.args.with_journal count c.args.bytes.now journal scene c.requires c.in-Ok.ensures.exact)
    c.finish.result.status shown.result.end _ _ shown.ensures.shown shown.ensures.counted (λ e. refl) (sym (take_all (length journal) journal (omega arith))) c.finish.ensures.noted)

pub returns-in-Err-At-clause-answered : goal.returns-in-Err-At-clause-answered
returns-in-Err-At-clause-answered g c = λ count.
    let fault = subst (λ (f : SceneFault). FailsAt f (scene_of whole_language c.args.bytes.now)) c.in-Err-At.field-0-is c.in-Err-At.ensures.exact in
    may-refuse (showing_command false c.args.with_journal count) c.args.bytes.now _ _ _ (status.Scene c.in-Err-At.line c.in-Err-At.cause) _ (misread _) tt
    (misreads c.args.with_journal count c.args.bytes.now _ _ c.requires fault) refl c.refuse_scene.ensures.refused

pub returns-in-Ok-clause-counted : goal.returns-in-Ok-clause-counted
returns-in-Ok-clause-counted g c = λ count s is.
    let shown = c.show_here-showing in
    let journal = journal_seen shown.result.journal in
    rw (c.finish.ensures.journal, c.finish.ensures.pictures)
    (counts-scene c.finish.result.status shown.result.end (scene_seen c.in-Ok.scene) s (scene_of whole_language c.args.bytes.now) journal (map note_seen shown.result.notes.items) _ _ _ _
    c.in-Ok.ensures.exact is.1 shown.ensures.counted c.finish.ensures.noted)

pub returns-in-Err-At-clause-counted : goal.returns-in-Err-At-clause-counted
returns-in-Err-At-clause-counted g c = λ count s is.
    counts-refused _ (status.Scene c.in-Err-At.line c.in-Err-At.cause) _ _ _ _ c.refuse_scene.ensures.refused (λ s i old new. tt) s _ _ _

pub returns-in-Err-OutOfMemory-clause-counted : goal.returns-in-Err-OutOfMemory-clause-counted
returns-in-Err-OutOfMemory-clause-counted g c = λ count s is.
    counts-nothing _ status.OutOfMemory c.blank.ensures.status (λ s i old new. tt) s _ _ _

pub returns-in-Ok-clause-front : goal.returns-in-Ok-clause-front
returns-in-Ok-clause-front g c = λ s is.
    rw c.finish.ensures.journal
    (same_front (scene_seen c.in-Ok.scene) s (scene_of whole_language c.args.bytes.now) (journal_seen c.show_here-showing.result.journal) c.in-Ok.ensures.exact is c.show_here-showing.ensures.front)

pub returns-in-Err-At-clause-front : goal.returns-in-Err-At-clause-front
returns-in-Err-At-clause-front g c = λ s is. refused_front s _ _ _ _ _ _ c.refuse_scene.ensures.refused

pub returns-in-Err-OutOfMemory-clause-front : goal.returns-in-Err-OutOfMemory-clause-front
returns-in-Err-OutOfMemory-clause-front g c = λ s is. none_front s _ c.blank.ensures.journal
