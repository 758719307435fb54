use Rattle.std.proofs.Common.{◌≡◌}
use Rattle.gfx_model.proofs.PartlyMapped.{partly}
use Rattle.c_calls.specs.Bands.{values_of, without_band}
use Rattle.c_calls.proofs.bands.let_go_all.Given as goal

-- the handles before the index have no band
abbrev pub invariant-loop-at : goal.invariant-loop-at
invariant-loop-at l = values_of l.bands ≡ partly (λ k v. without_band v) 0 l.at (values_of l.fn.bands)
