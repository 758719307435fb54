use Rattle.std.proofs.Common.{◌≡◌, ◌+◌, ◌*◌, ◌≤◌, ◌++◌, map, take, vec_len, vec_capacity}
use Rattle.std.specs.List.{flat_map}
use Rattle.gfx_model.specs.Commands.{attribute_bytes}
use Rattle.vertex_layout.specs.Placed.{placed_seen}
use Rattle.cmd_buffer.proofs.write.put_attributes.Given as goal

abbrev pub invariant-loop-placed : goal.invariant-loop-placed
invariant-loop-placed l =
    (l.bytes.items ≡ l.initial.bytes.items ++ flat_map attribute_bytes (map placed_seen (take l.placed-index l.attributes)))
    × (vec_len l.bytes ≡ vec_len l.initial.bytes + 4 * l.placed-index)
    × (vec_capacity l.initial.bytes ≤ vec_capacity l.bytes)
