use Rattle.std.proofs.Common.{◌≡◌, ◌<◌, ◌^◌, map, take}
use Rattle.std.specs.List.{AllByRecursion}
use Rattle.frame_blame.specs.declared.marks.Mark.{Mark}
use Rattle.frame_blame.proofs.blaming.deeds_of.Given as goal

abbrev pub invariant-loop-mark : goal.invariant-loop-mark
invariant-loop-mark l = record {
  deeds : l.deeds.items ≡ map (λ (m : Mark). m.deed) (take l.mark-index l.marks);
  small : AllByRecursion (λ n. n < 2 ^ 24) l.deeds.items;
}
