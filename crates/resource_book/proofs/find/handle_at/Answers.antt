use Rattle.std.proofs.Common.{◌∙◌, Some, ap, sym, arith, option_map}
use Rattle.gfx_model.specs.Resources.{Thing}
use Rattle.gfx_words.specs.Kinds.{kind_seen}
use Rattle.resource_book.specs.Seen.{row_seen}
use Rattle.resource_book.proofs.FindLaws.{none_past}
use Rattle.resource_book.proofs.find.handle_at.Goals as goal

pub returns-then-index-greatest : goal.returns-then-index-greatest
returns-then-index-greatest c = sym (ap (option_map (λ (u : Thing). u.handle)) (none_past (kind_seen c.args.kind) c.args.index c.args.table.now.things c.facts.ensures.apart (omega (arith, c.if-index-greatest.true, c.greatest.ensures))))

pub returns-in-Some : goal.returns-in-Some
returns-in-Some c =
    let t = row_seen c.row.result.now in
    ap (λ (u : Thing). Some u.handle) (c.row.ensures t) ∙ sym (ap (option_map (λ (u : Thing). u.handle)) (c.in-Some.ensures.1 t))
