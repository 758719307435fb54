use Rattle.std.proofs.Common.{◌≡◌, ◌<◌, ◌+◌, length, map, drop, ap, sym, ◌∙◌, arith}
use Rattle.std.proofs.lemmas.List.{length-map, map_push}
use Rattle.scene_model.specs.JournalText.{entry_field, entries_in}
use Rattle.text_fields.specs.Fields.{texts}
use Rattle.scene_text.specs.Seen.{entry_seen}
use Rattle.scene_text.proofs.JournalLines.{entries_after, entry_next, entry_stops, text_at}
use Rattle.scene_text.proofs.journal_reading.entries_in.Goals as goal

pub returns-in-None : goal.returns-in-None
returns-in-None c =
    let lt : c.loop-field.field-index < length (texts c.args.fields.now) = omega (arith, c.loop-field-test.true, length-map c.args.fields.now (λ f. f.now)) in
    sym (entry_stops (map entry_seen c.loop-field.entries.items) (texts c.args.fields.now) c.loop-field.field-index lt (ap entry_field (text_at c.args.fields.now c.loop-field.field-index _) ∙ sym c.in-None.ensures))
    ∙ c.loop-field.invariant

pub loop-field-preserved : goal.loop-field-preserved
loop-field-preserved c =
    let lt : c.loop-field.field-index < length (texts c.args.fields.now) = omega (arith, c.loop-field-test.true, length-map c.args.fields.now (λ f. f.now)) in
    ap (λ es. entries_after es (entries_in (drop (c.loop-field.field-index + 1) (texts c.args.fields.now)))) (ap (map entry_seen) c.in_ok-push-in-Some.ensures.items ∙ map_push entry_seen c.loop-field.entries.items c.in-Some.found)
    ∙ sym (entry_next (map entry_seen c.loop-field.entries.items) (texts c.args.fields.now) c.loop-field.field-index (entry_seen c.in-Some.found) lt (ap entry_field (text_at c.args.fields.now c.loop-field.field-index _) ∙ sym c.in-Some.ensures))
    ∙ c.loop-field.invariant
