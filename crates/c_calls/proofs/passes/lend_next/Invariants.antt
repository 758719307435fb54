use Rattle.std.proofs.Common.{◌≡◌, ℕ}
use Rattle.render_core.specs.Begun.{IsBefore}
use Rattle.c_calls.specs.Bands.{AreNull, values_of}
use Rattle.c_calls.proofs.passes.lend_next.Given as goal

-- the frame is the one that was given, and what is behind its stage is behind that one's; no handle is set
abbrev pub invariant-loop : goal.invariant-loop
invariant-loop l =
    (l.begun.opening ≡ l.fn.begun.opening) × (l.begun.frame ≡ l.fn.begun.frame) × ((n : ℕ) → IsBefore l.begun.stage n → IsBefore l.fn.begun.stage n) × AreNull (values_of l.bands)
