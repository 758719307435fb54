-- The numbers by which state words and stencil words say comparisons, factors, equations, windings, primitives and operations.
use Rattle.std.specs.Prelude.{ℕ, Option, Some, None}
use Rattle.state_words.specs.declared.comparisons.Comparison.{Comparison}
use Rattle.state_words.specs.declared.comparisons.Comparison.TheVariants as comparisons
use Rattle.state_words.specs.declared.blends.BlendFactor.{BlendFactor}
use Rattle.state_words.specs.declared.blends.BlendFactor.TheVariants as factors
use Rattle.state_words.specs.declared.blends.BlendEquation.{BlendEquation}
use Rattle.state_words.specs.declared.blends.BlendEquation.TheVariants as equations
use Rattle.state_words.specs.declared.states.Winding.{Winding}
use Rattle.state_words.specs.declared.states.Winding.TheVariants as windings
use Rattle.state_words.specs.declared.states.Primitive.{Primitive}
use Rattle.state_words.specs.declared.states.Primitive.TheVariants as primitives
use Rattle.state_words.specs.declared.stencils.StencilOperation.{StencilOperation}
use Rattle.state_words.specs.declared.stencils.StencilOperation.TheVariants as operations

-- the number of a comparison
abbrev pub comparison_number : Comparison → ℕ
comparison_number comparisons.Less = 1
comparison_number comparisons.LessOrEqual = 2
comparison_number comparisons.Equal = 3
comparison_number comparisons.GreaterOrEqual = 4
comparison_number comparisons.Greater = 5
comparison_number comparisons.NotEqual = 6
comparison_number comparisons.Never = 7
comparison_number comparisons.Always = 8

-- the number of a depth test, 0 of none
abbrev pub depth_test_number : Option Comparison → ℕ
depth_test_number None = 0
depth_test_number (Some c) = comparison_number c

-- the number of a factor
abbrev pub factor_number : BlendFactor → ℕ
factor_number factors.Zero = 1
factor_number factors.One = 2
factor_number factors.SourceColor = 3
factor_number factors.InverseSourceColor = 4
factor_number factors.SourceAlpha = 5
factor_number factors.InverseSourceAlpha = 6
factor_number factors.DestinationAlpha = 7
factor_number factors.InverseDestinationAlpha = 8
factor_number factors.DestinationColor = 9
factor_number factors.InverseDestinationColor = 10
factor_number factors.SourceAlphaSaturated = 11

-- the number of an equation
abbrev pub equation_number : BlendEquation → ℕ
equation_number equations.Add = 0
equation_number equations.Subtract = 1
equation_number equations.ReverseSubtract = 2
equation_number equations.Minimum = 3
equation_number equations.Maximum = 4

-- the number that culls triangles of a winding
abbrev pub winding_number : Winding → ℕ
winding_number windings.Clockwise = 1
winding_number windings.CounterClockwise = 2

-- the number of what is culled, 0 where nothing is
abbrev pub culling_number : Option Winding → ℕ
culling_number None = 0
culling_number (Some w) = winding_number w

-- the number of a primitive
abbrev pub primitive_number : Primitive → ℕ
primitive_number primitives.TriangleList = 0
primitive_number primitives.TriangleStrip = 1

-- the number of an operation on the stencil
abbrev pub operation_number : StencilOperation → ℕ
operation_number operations.Zero = 0
operation_number operations.Keep = 1
operation_number operations.Replace = 2
operation_number operations.IncrementWrapping = 3
operation_number operations.IncrementSaturating = 4
operation_number operations.DecrementWrapping = 5
operation_number operations.DecrementSaturating = 6
operation_number operations.Invert = 7
