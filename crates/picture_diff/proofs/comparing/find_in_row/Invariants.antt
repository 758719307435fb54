use Rattle.std.proofs.Common.{◌≡◌, ◌≤◌, ◌+◌, ◌++◌, List}
use Rattle.std.specs.Prelude.{filter}
use Rattle.picture_diff.specs.Difference.{differs_at}
use Rattle.picture_diff.specs.Told.{found_of}
use Rattle.picture_diff.specs.declared.difference.Place.{Place}
use Rattle.picture_diff.proofs.Rows.{row_front}
use Rattle.picture_diff.proofs.comparing.find_in_row.Given as goal

abbrev pub invariant-loop-x : goal.invariant-loop-x
invariant-loop-x l = record {
  many : l.found.differ ≤ l.initial.found.differ + l.x;
  found : (ps : List Place) → l.initial.found ≡ found_of ps
      → l.found ≡ found_of (ps ++ filter (differs_at l.pair.near l.pair.width l.pair.one.now l.pair.other.now) (row_front l.y l.x));
}
