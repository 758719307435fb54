use Rattle.std.proofs.Common.{◌≡◌, ◌+◌, drop, sum}
use Rattle.scene_text.proofs.lawful.is_sum.Given as goal

-- what is left of the number is what it is above the parts so far
abbrev pub invariant-loop-part : goal.invariant-loop-part
invariant-loop-part l = l.left + sum l.parts ≡ l.number + sum (drop l.part-index l.parts)
