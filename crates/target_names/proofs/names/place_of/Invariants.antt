use Rattle.std.proofs.Common.{◌≡◌, map, drop}
use Rattle.scene_text.specs.Seen.{name_seen}
use Rattle.target_laws.specs.Names.{name_from}
use Rattle.target_names.proofs.names.place_of.Given as goal

abbrev pub invariant-loop-place : goal.invariant-loop-place
invariant-loop-place l = name_from l.place (drop l.place (map name_seen l.names)) l.text ≡ name_from 0 (map name_seen l.names) l.text
