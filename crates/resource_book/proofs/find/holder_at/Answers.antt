use Rattle.std.proofs.Common.{Some, ap, sym, ◌∙◌}
use Rattle.resource_book.specs.Seen.{row_seen}
use Rattle.resource_book.specs.Finding.{held_by}
use Rattle.resource_book.proofs.Holders.{is_holder}
use Rattle.resource_book.proofs.find.holder_at.Goals as goal

pub returns-in-Some : goal.returns-in-Some
returns-in-Some c = c.holder.ensures ∙ ap (held_by (is_holder c.args.serial)) (ap Some (c.row.ensures (row_seen c.row.result.now)) ∙ sym (c.in-Some.ensures.1 (row_seen c.row.result.now)))
