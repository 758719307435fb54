-- Words of states and of stencils by computation: those of docs/rules/formats.md.
use Rattle.std.proofs.Common.{◌≡◌, true, Some, refl}
use Rattle.state_words.specs.declared.comparisons.Comparison.TheVariants as comparisons
use Rattle.state_words.specs.declared.blends.Blend.{Blend}
use Rattle.state_words.specs.declared.states.RenderState.{RenderState}
use Rattle.state_words.specs.declared.states.Winding.TheVariants as windings
use Rattle.state_words.specs.declared.stencils.StencilOperation.{StencilOperation}
use Rattle.state_words.specs.declared.stencils.StencilOperation.TheVariants as operations
use Rattle.state_words.specs.declared.stencils.StencilState.{StencilState}
use Rattle.state_words.specs.States.{plain_state, by_source_alpha, added, state_word}
use Rattle.state_words.specs.Stencils.{stencil_word}

abbrev blended : Blend → RenderState
blended b = record plain_state { blend = Some b }

abbrev less : RenderState
less = record plain_state { depth_test = Some comparisons.Less }

-- as an encoder begins; with the depth test less, and never; added; the usual blend; clockwise triangles culled; less, and depth is written
states : (state_word plain_state ≡ 15) × (state_word less ≡ 31) × (state_word (record plain_state { depth_test = Some comparisons.Never }) ≡ 127)
    × (state_word (blended added) ≡ 35790863) × (state_word (blended by_source_alpha) ≡ 106319887)
    × (state_word (record plain_state { culled = Some windings.Clockwise }) ≡ 68719476751) × (state_word (record less { writes_depth = true }) ≡ 274877906975)
states = (refl, refl, refl, refl, refl, refl, refl)

-- always, and where the depth test fails a step up that stays at 255, or wraps; the reference 255, equal, and all is kept
abbrev counting : StencilOperation → StencilState
counting step = record { reference = 0; mask = 255; test = comparisons.Always; on_stencil_fail = operations.Keep; on_depth_fail = step; on_pass = operations.Keep }

abbrev equal : StencilState
equal = record { reference = 255; mask = 255; test = comparisons.Equal; on_stencil_fail = operations.Keep; on_depth_fail = operations.Keep; on_pass = operations.Keep }

stencils : (stencil_word (counting operations.IncrementSaturating) ≡ 337182464) × (stencil_word (counting operations.IncrementWrapping) ≡ 320405248)
    × (stencil_word equal ≡ 286523391)
stencils = (refl, refl, refl)
