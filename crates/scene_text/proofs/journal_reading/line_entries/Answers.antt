use Rattle.std.proofs.Common.{ap, ◌∙◌}
use Rattle.scene_model.specs.JournalText.{entries_behind}
use Rattle.text_fields.specs.Fields.{texts}
use Rattle.scene_text.proofs.JournalLines.{line_few}
use Rattle.scene_text.proofs.journal_reading.line_entries.Goals as goal

pub returns-clause-few : goal.returns-clause-few
returns-clause-few c =
    line_few c.args.line.now c.in_ok-found.found.entries.items c.in_ok-found.found.is_whole
    (c.in_ok-found.ensures ∙ ap (λ fs. entries_behind (texts fs)) c.deref.ensures.value ∙ ap entries_behind c.in_ok-split_fields.ensures)
