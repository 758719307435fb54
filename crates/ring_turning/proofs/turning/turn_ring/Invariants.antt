use Rattle.std.proofs.Common.{inl, refl}
use Rattle.gfx.specs.Definitions.{fewest_views}
use Rattle.gfx.specs.Calls.{table_of}
use Rattle.ring_turning.specs.Ring.{IsPart}
use Rattle.ring_turning.proofs.turning.turn_ring.Given as goal

-- the table that was just made, and halves of the ring
abbrev pub ghosts-turn_table : goal.ghosts-turn_table
ghosts-turn_table g a = record { table = table_of a.table; admits = IsPart; views = fewest_views; counted = inl refl }
