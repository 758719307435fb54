use Rattle.std.proofs.Common.{◌≡◌, ◌++◌, map, take}
use Rattle.pixel_strokes.specs.Seen.{stroke_seen}
use Rattle.target_laws.specs.Targets.{own_stroke}
use Rattle.target_tracing.specs.Seen.{target_made_of, target_made_seen}
use Rattle.target_tracing.proofs.made.push_own.Given as goal

abbrev pub invariant-loop-stroke : goal.invariant-loop-stroke
invariant-loop-stroke l = map target_made_seen l.made.items ≡ map target_made_seen l.fn.made.items ++ map (target_made_of l.deed) (map own_stroke (map stroke_seen (take l.stroke-index l.strokes)))
