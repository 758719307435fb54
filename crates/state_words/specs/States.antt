-- States by names, and their words: each field's number times the power of two of its lowest bit.
use Rattle.std.specs.Prelude.{ℕ, ◌+◌, ◌*◌, ◌^◌, ◌≡◌, Bool, true, false, Option, Some, None}
use Rattle.gfx_model.specs.Words as words
use Rattle.state_words.specs.declared.blends.BlendFactor.TheVariants as factors
use Rattle.state_words.specs.declared.blends.BlendEquation.TheVariants as equations
use Rattle.state_words.specs.declared.blends.BlendPart.{BlendPart}
use Rattle.state_words.specs.declared.blends.Blend.{Blend}
use Rattle.state_words.specs.declared.states.Channels.{Channels}
use Rattle.state_words.specs.declared.states.Primitive.TheVariants as primitives
use Rattle.state_words.specs.declared.states.RenderState.{RenderState}
use Rattle.state_words.specs.Numbers.{depth_test_number, factor_number, equation_number, culling_number, primitive_number}

-- 1 of what holds, 0 of what does not
abbrev pub bit : Bool → ℕ
bit true = 1
bit false = 0

-- the mask of the channels that are stored
abbrev pub mask_number : Channels → ℕ
mask_number c = bit c.red + 2 * bit c.green + 4 * bit c.blue + 8 * bit c.alpha

-- red, green, blue and alpha
abbrev pub all_channels : Channels
all_channels = record { red = true; green = true; blue = true; alpha = true }

-- all but alpha
abbrev pub color_channels : Channels
color_channels = record all_channels { alpha = false }

-- none of them
abbrev pub no_channels : Channels
no_channels = record { red = false; green = false; blue = false; alpha = false }

-- the same for the colour and for alpha
abbrev pub both : BlendPart → Blend
both part = record { color = part; alpha = part }

-- source alpha and its inverse: the usual blend
abbrev pub by_source_alpha : Blend
by_source_alpha = both (record { source = factors.SourceAlpha; destination = factors.InverseSourceAlpha; equation = equations.Add })

-- all four factors one: source and destination are added
abbrev pub added : Blend
added = both (record { source = factors.One; destination = factors.One; equation = equations.Add })

-- a field of blending, 0 without blending
abbrev pub of_blend : (Blend → ℕ) → Option Blend → ℕ
of_blend field None = 0
of_blend field (Some b) = field b

-- the fields of blending, from the bit 12 of a state word on
abbrev pub blend_word : Blend → ℕ
blend_word b =
    factor_number b.color.source + 2 ^ 4 * factor_number b.color.destination + 2 ^ 8 * factor_number b.alpha.source
    + 2 ^ 12 * factor_number b.alpha.destination + 2 ^ 16 * equation_number b.color.equation + 2 ^ 19 * equation_number b.alpha.equation

-- these fields, 0 without blending
abbrev pub blend_number : Option Blend → ℕ
blend_number o = of_blend blend_word o

-- the fields of blending of a word are those of a blend
pub record IsBlendOf (b : Blend) (word : ℕ) : Type 0 where
  pub color_source : factor_number b.color.source ≡ words.color_source word
  pub color_destination : factor_number b.color.destination ≡ words.color_destination word
  pub color_equation : equation_number b.color.equation ≡ words.color_equation word
  pub alpha_source : factor_number b.alpha.source ≡ words.alpha_source word
  pub alpha_destination : factor_number b.alpha.destination ≡ words.alpha_destination word
  pub alpha_equation : equation_number b.alpha.equation ≡ words.alpha_equation word

-- the state that an encoder begins with: all channels are stored
abbrev pub plain_state : RenderState
plain_state = record { channels = all_channels; depth_test = None; writes_depth = false; blend = None; culled = None; primitive = primitives.TriangleList }

-- the word of a state
abbrev pub state_word : RenderState → ℕ
state_word s =
    mask_number s.channels + 2 ^ 4 * depth_test_number s.depth_test + 2 ^ 12 * blend_number s.blend
    + 2 ^ 36 * culling_number s.culled + 2 ^ 38 * bit s.writes_depth + 2 ^ 48 * primitive_number s.primitive
