use Rattle.std.proofs.Common.{ap, ◌∙◌, sym}
use Rattle.gfx_model.specs.Words.{is_live_in}
use Rattle.gfx_words.specs.Kinds.{kind_seen}
use Rattle.gfx_words.specs.declared.refusals.Refusal.{Refusal}
use Rattle.resource_book.specs.Seen.{row_seen}
use Rattle.resource_book.proofs.FindLaws.{live_found, word_found}
use Rattle.resource_book.proofs.find.live_at.Goals as goal

pub returns-then-has_serial : goal.returns-then-has_serial
returns-then-has_serial c = live_found c.args.h (kind_seen c.kind.result) c.index.result c.args.table.now.things c.in-Some.n (row_seen c.row-row.result.now) c.kind.ensures c.index.ensures.same c.in-Some.ensures c.row-row.ensures
    (sym c.has_serial.ensures.same ∙ c.if-has_serial.true) (c.has_serial.ensures.serial c.if-has_serial.true) (c.has_serial.ensures.live c.if-has_serial.true)

pub returns-else-has_serial : goal.returns-else-has_serial
returns-else-has_serial c =
    let w = word_found c.args.h (kind_seen c.kind.result) c.index.result c.args.table.now.things c.in-Some.n (row_seen c.row-row.result.now) c.kind.ensures c.index.ensures.same c.in-Some.ensures.1 c.row-row.ensures in
    (ap (λ n. is_live_in n c.args.h.serial) (sym w) ∙ sym c.has_serial.ensures.same ∙ c.if-has_serial.false, ap Refusal.Stale (c.word_of.ensures ∙ w))
