use Rattle.std.proofs.Common.{◌≡◌, drop, max}
use Rattle.picture_diff.specs.Difference.{most_apart}
use Rattle.picture_diff.proofs.comparing.most_apart.Given as goal

abbrev pub invariant-loop-at : goal.invariant-loop-at
invariant-loop-at l = max l.most (most_apart (drop l.at l.one) (drop l.at l.other)) ≡ most_apart l.one l.other
