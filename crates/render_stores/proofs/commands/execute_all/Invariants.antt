use Rattle.std.proofs.Common.{length}
use Rattle.render_stores.specs.Payloads.{payloads_seen}
use Rattle.render_stores.specs.Seen.{stores_seen}
use Rattle.render_stores.proofs.Begun.{HasBegun}
use Rattle.render_stores.proofs.commands.execute_all.Given as goal

-- the commands before those that are left are executed
abbrev pub invariant-loop-command : goal.invariant-loop-command
invariant-loop-command l = HasBegun (payloads_seen l.payloads) (stores_seen l.fn.stores) l.row l.reader (stores_seen l.stores)

abbrev pub decreases-loop-command : goal.decreases-loop-command
decreases-loop-command l = length l.reader
