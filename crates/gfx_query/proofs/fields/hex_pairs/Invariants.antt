use Rattle.std.proofs.Common.{◌≡◌, ◌≤◌, ◌+◌, length}
use Rattle.scene_model.specs.Field.{hex_pairs}
use Rattle.gfx_query.specs.Text.{some_read}
use Rattle.gfx_query.proofs.Hex.{behind}
use Rattle.gfx_query.proofs.fields.hex_pairs.Given as goal

-- the bytes so far, and those of the rest
abbrev pub invariant-loop-rest : goal.invariant-loop-rest
invariant-loop-rest l = record {
  left : some_read (hex_pairs l.digits) ≡ behind l.bytes.items (some_read (hex_pairs l.rest));
  few : length l.bytes.items + length l.rest ≤ length l.digits;
}

abbrev pub decreases-loop-rest : goal.decreases-loop-rest
decreases-loop-rest l = length l.rest
