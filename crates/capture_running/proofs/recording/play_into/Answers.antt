use Rattle.std.proofs.Common.{◌∙◌, ap, map, refl, Some, drop}
use Rattle.std.specs.Prelude.{string_bytes}
use Rattle.scene_text.specs.Seen.{journal_seen}
use Rattle.io_whole.specs.Runs.{putting, reading}
use Rattle.capture_running.proofs.Played.{played-into}
use Rattle.capture_running.proofs.Sinks.{never-rose, sound-sink}
use Rattle.capture_running.proofs.Recorded.{sized}
use Rattle.capture_running.proofs.recording.play_into.Goals as goal

pub returns-clause-played : goal.returns-clause-played
returns-clause-played g c = λ s is.
    let of_size = sized s c.args.size _ c.requires.measured is in
    let sink = c.in_ok-pictures.ensures in
    let empty = c.in_ok-pictures.pictures in
    let played = c.play-played.result in
    let left = played.pictures in
    let source = c.play-played.new.source in
    played-into s c.args.text.items (map string_bytes c.deref.result.now) played.status
    (reading (Some (drop c.new-source.result.at c.new-source.result.bytes.items)) (Some (drop source.at source.bytes.items)) 0 0)
    (journal_seen played.journal)
    (putting (Some empty.bytes.items) (Some left.bytes.items) empty.calls.faults left.calls.faults)
    (putting (g.N.Sink.held c.args.notes.now) (g.N.Sink.held c.play-played.new.notes) (g.N.Sink.faults c.args.notes.now) (g.N.Sink.faults c.play-played.new.notes))
    left.bytes.items
    c.requires.short is of_size.readable (ap (map string_bytes) c.deref.ensures.value ∙ c.in_ok-words.ensures) c.play-played.ensures.ends
    (ap Some c.new-source.ensures.told) (never-rose 0 0 refl refl)
    (ap Some sink.empty) refl
    (λ fits. sound-sink empty.calls.fails.items left.calls.fails.items left.bytes.items empty.capacity left.capacity c.args.size.texts_len empty.calls.faults left.calls.faults
    (sink.calls.0 ∙ c.new.ensures.items) sink.limits.0 sink.calls.2 c.play-played.ensures.sure.0 left.never_short (rw of_size.length_is fits))
