use Rattle.std.proofs.Common.{◌≡◌, ◌++◌, take, map}
use Rattle.std.specs.Fmt.{decimal}
use Rattle.scene_text.specs.Spelled.{behind}
use Rattle.scene_text.proofs.spelled.put_numbers.Given as goal

-- the fields so far
abbrev pub invariant-loop-number : goal.invariant-loop-number
invariant-loop-number l = l.text.items ≡ l.initial.text.items ++ behind (map decimal (take l.number-index l.numbers))
