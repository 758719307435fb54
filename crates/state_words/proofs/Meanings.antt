-- What the numbers of the names mean, by the definitions of the pixel step and of triangles.
use Rattle.std.proofs.Common.{ℕ, ◌≡◌, ◌+◌, ◌-◌, ◌%◌, min, max, Bool, true, false, not, ◌&&◌, ◌||◌, List, Some, None, refl}
use Rattle.std.specs.Prelude.{◌==◌, nat_le, nat_lt}
use Rattle.gfx_model.specs.Pixel.{compares, stencil_after, factor_value, combine}
use Rattle.gfx_model.specs.Raster.{ScreenVertex, is_front, is_back, is_kept}
use Rattle.gfx_model.specs.Vertex.{Triangle, triangles_of, listed_triangles, strip_triangles}
use Rattle.state_words.specs.declared.comparisons.Comparison.{Comparison}
use Rattle.state_words.specs.declared.comparisons.Comparison.TheVariants as comparisons
use Rattle.state_words.specs.declared.blends.BlendFactor.{BlendFactor}
use Rattle.state_words.specs.declared.blends.BlendFactor.TheVariants as factors
use Rattle.state_words.specs.declared.blends.BlendEquation.{BlendEquation}
use Rattle.state_words.specs.declared.blends.BlendEquation.TheVariants as equations
use Rattle.state_words.specs.declared.states.Winding.TheVariants as windings
use Rattle.state_words.specs.declared.states.Primitive.TheVariants as primitives
use Rattle.state_words.specs.declared.stencils.StencilOperation.{StencilOperation}
use Rattle.state_words.specs.declared.stencils.StencilOperation.TheVariants as operations
use Rattle.state_words.specs.Numbers.{comparison_number, factor_number, equation_number, culling_number, primitive_number, operation_number}
use Rattle.state_words.specs.States.{mask_number, no_channels}

-- a new value n and the stored one s
abbrev compared : ℕ → ℕ → Comparison → Bool
compared n s comparisons.Less = nat_lt n s
compared n s comparisons.LessOrEqual = nat_le n s
compared n s comparisons.Equal = n == s
compared n s comparisons.GreaterOrEqual = nat_le s n
compared n s comparisons.Greater = nat_lt s n
compared n s comparisons.NotEqual = not (n == s)
compared n s comparisons.Never = false
compared n s comparisons.Always = true

comparisons_mean : (n s : ℕ) (c : Comparison) → compares (comparison_number c) n s ≡ compared n s c
comparisons_mean n s comparisons.Less = refl
comparisons_mean n s comparisons.LessOrEqual = refl
comparisons_mean n s comparisons.Equal = refl
comparisons_mean n s comparisons.GreaterOrEqual = refl
comparisons_mean n s comparisons.Greater = refl
comparisons_mean n s comparisons.NotEqual = refl
comparisons_mean n s comparisons.Never = refl
comparisons_mean n s comparisons.Always = refl

-- the stencil after an operation, from the stored one s and the reference r
abbrev operated : ℕ → ℕ → StencilOperation → ℕ
operated s r operations.Zero = 0
operated s r operations.Keep = s
operated s r operations.Replace = r
operated s r operations.IncrementWrapping = (s + 1) % 256
operated s r operations.IncrementSaturating = min 255 (s + 1)
operated s r operations.DecrementWrapping = (s + 255) % 256
operated s r operations.DecrementSaturating = s - 1
operated s r operations.Invert = 255 - s

operations_mean : (s r : ℕ) (c : StencilOperation) → stencil_after (operation_number c) s r ≡ operated s r c
operations_mean s r operations.Zero = refl
operations_mean s r operations.Keep = refl
operations_mean s r operations.Replace = refl
operations_mean s r operations.IncrementWrapping = refl
operations_mean s r operations.IncrementSaturating = refl
operations_mean s r operations.DecrementWrapping = refl
operations_mean s r operations.DecrementSaturating = refl
operations_mean s r operations.Invert = refl

-- a colour's factor of 255, from the painted channel s, the stored one d, and their alphas sa and da
abbrev multiplied : ℕ → ℕ → ℕ → ℕ → BlendFactor → ℕ
multiplied s d sa da factors.Zero = 0
multiplied s d sa da factors.One = 255
multiplied s d sa da factors.SourceColor = s
multiplied s d sa da factors.InverseSourceColor = 255 - s
multiplied s d sa da factors.SourceAlpha = sa
multiplied s d sa da factors.InverseSourceAlpha = 255 - sa
multiplied s d sa da factors.DestinationAlpha = da
multiplied s d sa da factors.InverseDestinationAlpha = 255 - da
multiplied s d sa da factors.DestinationColor = d
multiplied s d sa da factors.InverseDestinationColor = 255 - d
multiplied s d sa da factors.SourceAlphaSaturated = min sa (255 - da)

factors_mean : (s d sa da : ℕ) (c : BlendFactor) → factor_value (factor_number c) false s d sa da ≡ multiplied s d sa da c
factors_mean s d sa da factors.Zero = refl
factors_mean s d sa da factors.One = refl
factors_mean s d sa da factors.SourceColor = refl
factors_mean s d sa da factors.InverseSourceColor = refl
factors_mean s d sa da factors.SourceAlpha = refl
factors_mean s d sa da factors.InverseSourceAlpha = refl
factors_mean s d sa da factors.DestinationAlpha = refl
factors_mean s d sa da factors.InverseDestinationAlpha = refl
factors_mean s d sa da factors.DestinationColor = refl
factors_mean s d sa da factors.InverseDestinationColor = refl
factors_mean s d sa da factors.SourceAlphaSaturated = refl

saturated_alpha : (s d sa da : ℕ) → factor_value (factor_number factors.SourceAlphaSaturated) true s d sa da ≡ 255
saturated_alpha s d sa da = refl

-- a channel from the painted one s, the stored one d, and their products p and q
abbrev joined : ℕ → ℕ → ℕ → ℕ → BlendEquation → ℕ
joined s d p q equations.Add = min 255 (p + q)
joined s d p q equations.Subtract = p - q
joined s d p q equations.ReverseSubtract = q - p
joined s d p q equations.Minimum = min s d
joined s d p q equations.Maximum = max s d

equations_mean : (s d p q : ℕ) (c : BlendEquation) → combine (equation_number c) s d p q ≡ joined s d p q c
equations_mean s d p q equations.Add = refl
equations_mean s d p q equations.Subtract = refl
equations_mean s d p q equations.ReverseSubtract = refl
equations_mean s d p q equations.Minimum = refl
equations_mean s d p q equations.Maximum = refl

-- nothing is culled; what faces the front; what faces the back
culled_mean : (t : Triangle ScreenVertex) → (is_kept (culling_number None) t ≡ ((is_front t && true) || (is_back t && true)))
    × (is_kept (culling_number (Some windings.Clockwise)) t ≡ ((is_front t && false) || (is_back t && true)))
    × (is_kept (culling_number (Some windings.CounterClockwise)) t ≡ ((is_front t && true) || (is_back t && false)))
culled_mean t = (refl, refl, refl)

primitives_mean : {V : Type 0} → (vs : List V) → (triangles_of (primitive_number primitives.TriangleList) vs ≡ listed_triangles vs)
    × (triangles_of (primitive_number primitives.TriangleStrip) vs ≡ strip_triangles false vs)
primitives_mean vs = (refl, refl)

channels_mean : (mask_number (record no_channels { red = true }) ≡ 1) × (mask_number (record no_channels { green = true }) ≡ 2)
    × (mask_number (record no_channels { blue = true }) ≡ 4) × (mask_number (record no_channels { alpha = true }) ≡ 8)
channels_mean = (refl, refl, refl, refl)
