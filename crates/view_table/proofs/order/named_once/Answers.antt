use Rattle.view_table.proofs.Named.{named_none, named_more, named_twice}
use Rattle.view_table.proofs.order.named_once.Goals as goal

pub loop-id-init : goal.loop-id-init
loop-id-init c = named_none 512

pub loop-id-preserved : goal.loop-id-preserved
loop-id-preserved c = named_more 512 c.loop-id.named c.args.ids.now c.loop-id.id-index c.loop-id.invariant c.loop-id-test.true (c.requires c.loop-id.id-index c.loop-id-test.true) c.if-named-id.false

pub returns-then-named-id : goal.returns-then-named-id
returns-then-named-id c = named_twice 512 c.loop-id.named c.args.ids.now c.loop-id.id-index c.loop-id.invariant c.loop-id-test.true (c.requires c.loop-id.id-index c.loop-id-test.true) c.if-named-id.true
