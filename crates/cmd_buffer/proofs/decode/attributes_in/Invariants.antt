use Rattle.std.proofs.Common.{◌≡◌, ◌-◌, ◌*◌, ◌≤◌, [], length}
use Rattle.cmd_buffer.specs.Bytes.{attributes_from}
use Rattle.cmd_buffer.proofs.decode.attributes_in.Given as goal

abbrev pub invariant-loop : goal.invariant-loop
invariant-loop l = (attributes_from l.attributes (l.n - l.counter) l.rest ≡ attributes_from [] l.n l.b) × (4 * (l.n - l.counter) ≤ length l.rest)
