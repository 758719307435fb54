use Rattle.std.proofs.Common.{sym, ◌∙◌, arith}
use Rattle.resource_book.proofs.Holders.{holder_some, holder_none}
use Rattle.resource_book.proofs.find.holder_of.Goals as goal

pub returns-then-is_some : goal.returns-then-is_some
returns-then-is_some c = holder_some c.args.serial c.loop-index.index c.args.table.now.things c.holder_at-found.result c.loop-index.invariant c.facts.ensures.apart c.facts.ensures.kinds c.holder_at-found.ensures (sym c.is_some.ensures ∙ c.if-is_some.true)

pub returns : goal.returns
returns c = sym (holder_none c.args.serial c.loop-index.index c.args.table.now.things c.loop-index.invariant c.facts.ensures.apart c.facts.ensures.kinds (omega (arith, c.loop-index-test.false, c.greatest-index-end.ensures)))
