-- A state word's blending and mask, decoded.
use Rattle.std.specs.Prelude.{◌≡◌, ℕ, ◌+◌, ◌-◌, if◌then◌else◌, true, false, [], ◌∷◌, ◌++◌, map, slice_index}
use Rattle.gfx_model.specs.Number.{byte_product}
use Rattle.gfx_model.specs.Vertex.{Color}
use Rattle.gfx_model.specs.Words.{write_mask, is_blended, color_source, color_destination, color_equation, alpha_source, alpha_destination, alpha_equation}
use Rattle.gfx_model.specs.Pixel.{blend_channel, stored_channels, stored_color}
use Rattle.pixel_ops.specs.declared.parts.Blending.{Blending}

-- the parts are those of a state word
pub record IsBlending (b : Blending) (state : ℕ) : Type 0 where
  pub mask : b.mask ≡ write_mask state
  pub blended : b.blended ≡ is_blended state
  pub source : b.source ≡ color_source state
  pub destination : b.destination ≡ color_destination state
  pub equation : b.equation ≡ color_equation state
  pub alpha_source : b.alpha_source ≡ alpha_source state
  pub alpha_destination : b.alpha_destination ≡ alpha_destination state
  pub alpha_equation : b.alpha_equation ≡ alpha_equation state

-- a source colour blended with a stored one, by the parts
abbrev pub mixed_by : Blending → Color → Color → Color
mixed_by b source stored =
    let sa = slice_index source 3 in
    let da = slice_index stored 3 in
    if b.blended
    then
    map (λ k. blend_channel b.source b.destination b.equation false (slice_index source k) (slice_index stored k) sa da) (0 ∷ 1 ∷ 2 ∷ [])
    ++ blend_channel b.alpha_source b.alpha_destination b.alpha_equation true sa da sa da ∷ []
    else source

-- the channels of it whose write bit is set, and of the stored colour elsewhere
abbrev pub stored_by : Blending → Color → Color → Color
stored_by b source stored = stored_channels b.mask (mixed_by b source stored) stored

-- a channel of the source by an alpha, and of the stored colour by what is left
abbrev pub over_byte : ℕ → ℕ → ℕ → ℕ
over_byte s d alpha = byte_product s alpha + byte_product d (255 - alpha)

-- the source by its alpha over the stored colour by what is left, in all channels
abbrev pub over_by : Color → Color → Color
over_by source stored =
    let sa = slice_index source 3 in
    let da = slice_index stored 3 in
    map (λ k. blend_channel 5 6 0 false (slice_index source k) (slice_index stored k) sa da) (0 ∷ 1 ∷ 2 ∷ []) ++ blend_channel 5 6 0 true sa da sa da ∷ []

-- a draw of a state word stores each colour so
abbrev pub LaysOver : ℕ → Type 0
LaysOver state = (source stored : Color) → over_by source stored ≡ stored_color state source stored
