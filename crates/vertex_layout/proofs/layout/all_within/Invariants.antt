use Rattle.std.proofs.Common.{◌≡◌, map, drop}
use Rattle.std.specs.List.{list_all}
use Rattle.vertex_layout.specs.Placed.{placed_seen, ends_within}
use Rattle.vertex_layout.proofs.layout.all_within.Given as goal

abbrev pub invariant-loop-placed : goal.invariant-loop-placed
invariant-loop-placed l = list_all (ends_within l.stride) (map placed_seen (drop l.placed-index l.attributes)) ≡ list_all (ends_within l.stride) (map placed_seen l.attributes)
