-- A state word whose blending lays the source over the stored colour.
use Rattle.std.proofs.Common.{◌≡◌, ℕ, true, false, [], ◌∷◌, ◌++◌, map, sym}
use Rattle.std.specs.Prelude.{slice_index, if◌then◌else◌}
use Rattle.gfx_model.specs.Words.{write_mask, is_blended, color_source, color_destination, color_equation, alpha_source, alpha_destination, alpha_equation}
use Rattle.gfx_model.specs.Pixel.{blend_channel, stored_channels}
use Rattle.pixel_ops.specs.Blended.{LaysOver}

pub lays : (state : ℕ) → write_mask state ≡ 15 → is_blended state ≡ true → color_source state ≡ 5 → color_destination state ≡ 6 → color_equation state ≡ 0
    → alpha_source state ≡ 5 → alpha_destination state ≡ 6 → alpha_equation state ≡ 0 → LaysOver state
lays state m b cs cd ce als ald ale source stored =
    let sa = slice_index source 3 in
    let da = slice_index stored 3 in
    sym (λ i. stored_channels (m i)
    (if b i
    then map (λ k. blend_channel (cs i) (cd i) (ce i) false (slice_index source k) (slice_index stored k) sa da) (0 ∷ 1 ∷ 2 ∷ []) ++ blend_channel (als i) (ald i) (ale i) true sa da sa da ∷ []
    else source) stored)
