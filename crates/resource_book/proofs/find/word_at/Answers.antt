use Rattle.std.proofs.Common.{ap, ◌∙◌, sym, Some}
use Rattle.gfx_model.specs.Resources.{word_of_thing}
use Rattle.resource_book.specs.Seen.{row_seen}
use Rattle.resource_book.proofs.find.word_at.Goals as goal

pub returns-in-Some : goal.returns-in-Some
returns-in-Some c = c.word_of.ensures ∙ ap word_of_thing (ap Some (c.row.ensures (row_seen c.row.result.now)) ∙ sym (c.in-Some.ensures.1 (row_seen c.row.result.now)))
