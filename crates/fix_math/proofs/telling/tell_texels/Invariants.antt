use Rattle.std.proofs.Common.{ℕ, ◌<◌, [], slice_index_or}
use Rattle.fix_math.specs.Bytes.{IsTexel}
use Rattle.fix_math.proofs.telling.tell_texels.Given as goal

-- those before the index are told
abbrev pub invariant-loop-i : goal.invariant-loop-i
invariant-loop-i l = (k : ℕ) → k < l.i → IsTexel (slice_index_or l.texels k [])
