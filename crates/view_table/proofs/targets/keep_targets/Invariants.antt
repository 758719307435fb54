use Rattle.std.proofs.Common.{◌≡◌, map}
use Rattle.view_table.specs.Seen.{view_seen}
use Rattle.view_table.proofs.TargetLaws.{kept_upto}
use Rattle.view_table.proofs.targets.keep_targets.Given as goal

-- the views before the index have kept what the test lets them keep
abbrev pub invariant-loop-at : goal.invariant-loop-at
invariant-loop-at g l = map view_seen l.settings ≡ kept_upto (g.T.LiveTargets.is_kept l.fn.test) l.at (map view_seen l.fn.settings)
