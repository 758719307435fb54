use Rattle.std.proofs.Common.{None, ap, ◌∙◌, arith}
use Rattle.std.proofs.lemmas.Option.{unwrap_or-slice_get}
use Rattle.gfx_model.proofs.PartlyMapped.{partly-set, partly-done}
use Rattle.store_model.specs.Slots.{at}
use Rattle.store_model.specs.Textures.{unless_holding}
use Rattle.texture_store.proofs.TextureLaws.{map_from_map}
use Rattle.texture_store.proofs.targets.detach_holders.Goals as goal

pub loop-index-preserved : goal.loop-index-preserved
loop-index-preserved c =
    c.detach_one.ensures
    ∙ partly-set (λ place slot. unless_holding c.args.texture slot) c.loop-index.index c.args.targets.now c.loop-index.targets (unless_holding c.args.texture (at c.loop-index.targets c.loop-index.index)) None
    c.loop-index.invariant (ap (unless_holding c.args.texture) (unwrap_or-slice_get c.loop-index.targets c.loop-index.index None)) (omega (arith, c.loop-index-test.true, c.requires))

pub returns : goal.returns
returns c =
    partly-done (λ place slot. unless_holding c.args.texture slot) c.loop-index.index c.args.targets.now c.loop-index.targets c.loop-index.invariant (omega (arith, c.loop-index-test.false, c.loop-index.auto.index-end, c.requires))
    ∙ map_from_map (unless_holding c.args.texture) 0 c.args.targets.now
