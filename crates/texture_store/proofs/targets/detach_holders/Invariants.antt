use Rattle.std.proofs.Common.{◌≡◌}
use Rattle.gfx_model.proofs.PartlyMapped.{partly}
use Rattle.store_model.specs.Textures.{unless_holding}
use Rattle.texture_store.proofs.targets.detach_holders.Given as goal

abbrev pub invariant-loop-index : goal.invariant-loop-index
invariant-loop-index l = l.targets ≡ partly (λ place slot. unless_holding l.texture slot) 0 l.index l.initial.targets
