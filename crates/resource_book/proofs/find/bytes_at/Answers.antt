use Rattle.std.proofs.Common.{ap, ◌∙◌, sym}
use Rattle.gfx_model.specs.Resources.{bytes_of_thing}
use Rattle.gfx_words.specs.Kinds.{kind_seen}
use Rattle.resource_book.specs.Seen.{row_seen}
use Rattle.resource_book.proofs.FindLaws.{found_at}
use Rattle.resource_book.proofs.find.bytes_at.Goals as goal

pub returns-in-Some : goal.returns-in-Some
returns-in-Some c = c.bytes_in.ensures ∙ ap bytes_of_thing (sym (found_at c.args.h (kind_seen c.kind-kind.result) c.index-index.result c.args.table.now.things c.in-Some.n (row_seen c.row.result.now) c.kind-kind.ensures c.index-index.ensures.same c.in-Some.ensures.1 c.row.ensures))
