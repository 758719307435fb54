use Rattle.std.proofs.Common.{◌≡◌, ◌++◌, take}
use Rattle.std.specs.List.{flat_map}
use Rattle.frame_steps.proofs.picture.put_colors.Given as goal

abbrev pub invariant-loop-color : goal.invariant-loop-color
invariant-loop-color l = l.text.items ≡ l.fn.text.items ++ flat_map (take 3) (take l.color-index l.colors)
