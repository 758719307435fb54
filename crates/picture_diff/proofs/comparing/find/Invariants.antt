use Rattle.std.proofs.Common.{◌≡◌, ◌≤◌, ◌*◌}
use Rattle.std.specs.Prelude.{filter}
use Rattle.picture_diff.specs.Difference.{differs_at, places}
use Rattle.picture_diff.specs.Told.{found_of}
use Rattle.picture_diff.proofs.comparing.find.Given as goal

abbrev pub invariant-loop-y : goal.invariant-loop-y
invariant-loop-y l = record {
  start : l.start ≡ l.y * l.pair.width;
  many : l.found.differ ≤ l.start;
  found : l.found ≡ found_of (filter (differs_at l.pair.near l.pair.width l.pair.one.now l.pair.other.now) (places l.pair.width l.y));
}
