-- A state is known by its word.
use Rattle.std.proofs.Common.{ℕ, ◌≡◌, Bool, Option, Some, None, refl, sym, ap, ◌∙◌, arith}
use Rattle.std.specs.Prelude.{is_some, not, ◌==◌, if◌then◌else◌, IfSome}
use Rattle.std.proofs.lemmas.Bool.{true≢false}
use Rattle.gfx_model.specs.Words.{write_mask, depth_test_of, is_blended, writes_depth, cull_of, primitive_of}
use Rattle.state_words.specs.declared.comparisons.Comparison.{Comparison}
use Rattle.state_words.specs.declared.comparisons.Comparison.TheVariants as comparisons
use Rattle.state_words.specs.declared.blends.BlendFactor.{BlendFactor}
use Rattle.state_words.specs.declared.blends.BlendFactor.TheVariants as factors
use Rattle.state_words.specs.declared.blends.BlendEquation.{BlendEquation}
use Rattle.state_words.specs.declared.blends.BlendEquation.TheVariants as equations
use Rattle.state_words.specs.declared.blends.BlendPart.{BlendPart}
use Rattle.state_words.specs.declared.blends.Blend.{Blend}
use Rattle.state_words.specs.declared.states.Channels.{Channels}
use Rattle.state_words.specs.declared.states.Winding.{Winding}
use Rattle.state_words.specs.declared.states.Winding.TheVariants as windings
use Rattle.state_words.specs.declared.states.Primitive.{Primitive}
use Rattle.state_words.specs.declared.states.Primitive.TheVariants as primitives
use Rattle.state_words.specs.declared.states.RenderState.{RenderState}
use Rattle.state_words.specs.Numbers.{depth_test_number, factor_number, equation_number, culling_number, primitive_number}
use Rattle.state_words.specs.States.{bit, mask_number, of_blend, state_word, IsBlendOf}
use Rattle.state_words.proofs.Fields.{Has}
use Rattle.state_words.proofs.Named.{numbers_of, word_has, bit_fits, bit_told, blend_told}

-- ---- what has a number is known by it

abbrev depth_test_at : ℕ → Option Comparison
depth_test_at n =
    if n == 0 then None else (
    if n == 1 then Some comparisons.Less else (
    if n == 2 then Some comparisons.LessOrEqual else (
    if n == 3 then Some comparisons.Equal else (
    if n == 4 then Some comparisons.GreaterOrEqual else (
    if n == 5 then Some comparisons.Greater else (
    if n == 6 then Some comparisons.NotEqual else (
    if n == 7 then Some comparisons.Never else Some comparisons.Always)))))))

depth_test_again : (o : Option Comparison) → depth_test_at (depth_test_number o) ≡ o
depth_test_again None = refl
depth_test_again (Some comparisons.Less) = refl
depth_test_again (Some comparisons.LessOrEqual) = refl
depth_test_again (Some comparisons.Equal) = refl
depth_test_again (Some comparisons.GreaterOrEqual) = refl
depth_test_again (Some comparisons.Greater) = refl
depth_test_again (Some comparisons.NotEqual) = refl
depth_test_again (Some comparisons.Never) = refl
depth_test_again (Some comparisons.Always) = refl

abbrev factor_at : ℕ → BlendFactor
factor_at n =
    if n == 1 then factors.Zero else (
    if n == 2 then factors.One else (
    if n == 3 then factors.SourceColor else (
    if n == 4 then factors.InverseSourceColor else (
    if n == 5 then factors.SourceAlpha else (
    if n == 6 then factors.InverseSourceAlpha else (
    if n == 7 then factors.DestinationAlpha else (
    if n == 8 then factors.InverseDestinationAlpha else (
    if n == 9 then factors.DestinationColor else (
    if n == 10 then factors.InverseDestinationColor else factors.SourceAlphaSaturated)))))))))

factor_again : (c : BlendFactor) → factor_at (factor_number c) ≡ c
factor_again factors.Zero = refl
factor_again factors.One = refl
factor_again factors.SourceColor = refl
factor_again factors.InverseSourceColor = refl
factor_again factors.SourceAlpha = refl
factor_again factors.InverseSourceAlpha = refl
factor_again factors.DestinationAlpha = refl
factor_again factors.InverseDestinationAlpha = refl
factor_again factors.DestinationColor = refl
factor_again factors.InverseDestinationColor = refl
factor_again factors.SourceAlphaSaturated = refl

abbrev equation_at : ℕ → BlendEquation
equation_at n =
    if n == 0 then equations.Add else (
    if n == 1 then equations.Subtract else (
    if n == 2 then equations.ReverseSubtract else (
    if n == 3 then equations.Minimum else equations.Maximum)))

equation_again : (c : BlendEquation) → equation_at (equation_number c) ≡ c
equation_again equations.Add = refl
equation_again equations.Subtract = refl
equation_again equations.ReverseSubtract = refl
equation_again equations.Minimum = refl
equation_again equations.Maximum = refl

abbrev culled_at : ℕ → Option Winding
culled_at n =
    if n == 0 then None else (
    if n == 1 then Some windings.Clockwise else Some windings.CounterClockwise)

culled_again : (o : Option Winding) → culled_at (culling_number o) ≡ o
culled_again None = refl
culled_again (Some windings.Clockwise) = refl
culled_again (Some windings.CounterClockwise) = refl

abbrev primitive_at : ℕ → Primitive
primitive_at n =
    if n == 0 then primitives.TriangleList else primitives.TriangleStrip

primitive_again : (c : Primitive) → primitive_at (primitive_number c) ≡ c
primitive_again primitives.TriangleList = refl
primitive_again primitives.TriangleStrip = refl

same_depth_test : (a b : Option Comparison) → depth_test_number a ≡ depth_test_number b → a ≡ b
same_depth_test a b e = sym (depth_test_again a) ∙ ap depth_test_at e ∙ depth_test_again b

same_factor : (a b : BlendFactor) → factor_number a ≡ factor_number b → a ≡ b
same_factor a b e = sym (factor_again a) ∙ ap factor_at e ∙ factor_again b

same_equation : (a b : BlendEquation) → equation_number a ≡ equation_number b → a ≡ b
same_equation a b e = sym (equation_again a) ∙ ap equation_at e ∙ equation_again b

same_culled : (a b : Option Winding) → culling_number a ≡ culling_number b → a ≡ b
same_culled a b e = sym (culled_again a) ∙ ap culled_at e ∙ culled_again b

same_primitive : (a b : Primitive) → primitive_number a ≡ primitive_number b → a ≡ b
same_primitive a b e = sym (primitive_again a) ∙ ap primitive_at e ∙ primitive_again b

same_bit : (a b : Bool) → bit a ≡ bit b → a ≡ b
same_bit a b e = sym (bit_told a) ∙ ap (λ m. m == 1) e ∙ bit_told b

-- ---- what has fields is known by them

abbrev channels_with : Bool → Bool → Bool → Bool → Channels
channels_with red green blue alpha = record { red = red; green = green; blue = blue; alpha = alpha }

same_channels : (a b : Channels) → mask_number a ≡ mask_number b → a ≡ b
same_channels a b e =
    ap (λ x. channels_with x a.green a.blue a.alpha) (same_bit a.red b.red (omega (arith, e, bit_fits a.red, bit_fits a.green, bit_fits a.blue, bit_fits a.alpha, bit_fits b.red, bit_fits b.green, bit_fits b.blue, bit_fits b.alpha)))
    ∙ ap (λ x. channels_with b.red x a.blue a.alpha) (same_bit a.green b.green (omega (arith, e, bit_fits a.red, bit_fits a.green, bit_fits a.blue, bit_fits a.alpha, bit_fits b.red, bit_fits b.green, bit_fits b.blue, bit_fits b.alpha)))
    ∙ ap (λ x. channels_with b.red b.green x a.alpha) (same_bit a.blue b.blue (omega (arith, e, bit_fits a.red, bit_fits a.green, bit_fits a.blue, bit_fits a.alpha, bit_fits b.red, bit_fits b.green, bit_fits b.blue, bit_fits b.alpha)))
    ∙ ap (λ x. channels_with b.red b.green b.blue x) (same_bit a.alpha b.alpha (omega (arith, e, bit_fits a.red, bit_fits a.green, bit_fits a.blue, bit_fits a.alpha, bit_fits b.red, bit_fits b.green, bit_fits b.blue, bit_fits b.alpha)))

abbrev part_with : BlendFactor → BlendFactor → BlendEquation → BlendPart
part_with source destination equation = record { source = source; destination = destination; equation = equation }

same_part : (a b : BlendPart) → factor_number a.source ≡ factor_number b.source → factor_number a.destination ≡ factor_number b.destination
    → equation_number a.equation ≡ equation_number b.equation → a ≡ b
same_part a b s d e =
    ap (λ x. part_with x a.destination a.equation) (same_factor a.source b.source s)
    ∙ ap (λ x. part_with b.source x a.equation) (same_factor a.destination b.destination d)
    ∙ ap (λ x. part_with b.source b.destination x) (same_equation a.equation b.equation e)

abbrev blend_with : BlendPart → BlendPart → Blend
blend_with color alpha = record { color = color; alpha = alpha }

same_parts : (a b : Blend) → a.color ≡ b.color → a.alpha ≡ b.alpha → a ≡ b
same_parts a b c e = ap (λ x. blend_with x a.alpha) c ∙ ap (λ x. blend_with b.color x) e

same_blend : (w : ℕ) (s : RenderState) (a b : Option Blend) → is_some a ≡ is_some b → IfSome a (λ x. IsBlendOf x w) → s.blend ≡ b → Has w (numbers_of s) → a ≡ b
same_blend w s None None e i t h = refl
same_blend w s None (Some b) e i t h = absurd (true≢false (sym e))
same_blend w s (Some a) None e i t h = absurd (true≢false e)
same_blend w s (Some a) (Some b) e i t h =
    ap Some (same_parts a b
    (same_part a.color b.color
    (i.color_source ∙ h.color_from ∙ ap (of_blend (λ x. factor_number x.color.source)) t)
    (i.color_destination ∙ h.color_onto ∙ ap (of_blend (λ x. factor_number x.color.destination)) t)
    (i.color_equation ∙ h.color_joined ∙ ap (of_blend (λ x. equation_number x.color.equation)) t))
    (same_part a.alpha b.alpha
    (i.alpha_source ∙ h.alpha_from ∙ ap (of_blend (λ x. factor_number x.alpha.source)) t)
    (i.alpha_destination ∙ h.alpha_onto ∙ ap (of_blend (λ x. factor_number x.alpha.destination)) t)
    (i.alpha_equation ∙ h.alpha_joined ∙ ap (of_blend (λ x. equation_number x.alpha.equation)) t)))

abbrev state_with : Channels → Option Comparison → Bool → Option Blend → Option Winding → Primitive → RenderState
state_with channels depth_test writes_depth blend culled primitive =
    record { channels = channels; depth_test = depth_test; writes_depth = writes_depth; blend = blend; culled = culled; primitive = primitive }

-- whatever reads the word of a state field by field is that state
pub again : (w : ℕ) (r s : RenderState) → mask_number r.channels ≡ write_mask w → depth_test_number r.depth_test ≡ depth_test_of w
    → r.writes_depth ≡ writes_depth w → is_some r.blend ≡ is_blended w → IfSome r.blend (λ b. IsBlendOf b w)
    → culling_number r.culled ≡ cull_of w → primitive_number r.primitive ≡ primitive_of w → w ≡ state_word s → r ≡ s
again w r s channels depth_test depth blended blend culled primitive e =
    let h : Has w (numbers_of s) = word_has w s e in
    ap (λ x. state_with x r.depth_test r.writes_depth r.blend r.culled r.primitive) (same_channels r.channels s.channels (channels ∙ h.mask))
    ∙ ap (λ x. state_with s.channels x r.writes_depth r.blend r.culled r.primitive) (same_depth_test r.depth_test s.depth_test (depth_test ∙ h.test))
    ∙ ap (λ x. state_with s.channels s.depth_test x r.blend r.culled r.primitive) (depth ∙ ap (λ m. m == 1) h.depth ∙ bit_told s.writes_depth)
    ∙ ap (λ x. state_with s.channels s.depth_test s.writes_depth x r.culled r.primitive)
    (same_blend w s r.blend s.blend (blended ∙ ap (λ m. not (m == 0)) h.color_from ∙ blend_told s.blend) blend refl h)
    ∙ ap (λ x. state_with s.channels s.depth_test s.writes_depth s.blend x r.primitive) (same_culled r.culled s.culled (culled ∙ h.culled))
    ∙ ap (λ x. state_with s.channels s.depth_test s.writes_depth s.blend s.culled x) (same_primitive r.primitive s.primitive (primitive ∙ h.primitive))
