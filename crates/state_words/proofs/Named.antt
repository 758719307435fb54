-- The numbers of a state by names, and the fields of its word.
use Rattle.std.proofs.Common.{ℕ, ◌≡◌, ◌+◌, ◌*◌, ◌≤◌, inl, inr, Bool, true, false, Option, Some, None, refl, ◌∙◌, ap, arith}
use Rattle.std.specs.Prelude.{is_some, not, ◌==◌}
use Rattle.gfx_model.specs.Words.{is_state_word, is_blended, writes_depth}
use Rattle.state_words.specs.declared.comparisons.Comparison.{Comparison}
use Rattle.state_words.specs.declared.comparisons.Comparison.TheVariants as comparisons
use Rattle.state_words.specs.declared.blends.BlendFactor.{BlendFactor}
use Rattle.state_words.specs.declared.blends.BlendFactor.TheVariants as factors
use Rattle.state_words.specs.declared.blends.BlendEquation.{BlendEquation}
use Rattle.state_words.specs.declared.blends.BlendEquation.TheVariants as equations
use Rattle.state_words.specs.declared.blends.Blend.{Blend}
use Rattle.state_words.specs.declared.states.Channels.{Channels}
use Rattle.state_words.specs.declared.states.Winding.{Winding}
use Rattle.state_words.specs.declared.states.Winding.TheVariants as windings
use Rattle.state_words.specs.declared.states.Primitive.{Primitive}
use Rattle.state_words.specs.declared.states.Primitive.TheVariants as primitives
use Rattle.state_words.specs.declared.states.RenderState.{RenderState}
use Rattle.state_words.specs.Numbers.{comparison_number, depth_test_number, factor_number, equation_number, winding_number, culling_number, primitive_number}
use Rattle.state_words.specs.States.{bit, mask_number, of_blend, blend_number, state_word}
use Rattle.state_words.proofs.Fields.{Numbers, Fit, Has, Together, total, has, admitted}

pub bit_fits : (b : Bool) → bit b ≤ 1
bit_fits true = omega arith
bit_fits false = omega arith

pub comparison_fits : (c : Comparison) → (1 ≤ comparison_number c) × (comparison_number c ≤ 8)
comparison_fits comparisons.Less = (omega arith, omega arith)
comparison_fits comparisons.LessOrEqual = (omega arith, omega arith)
comparison_fits comparisons.Equal = (omega arith, omega arith)
comparison_fits comparisons.GreaterOrEqual = (omega arith, omega arith)
comparison_fits comparisons.Greater = (omega arith, omega arith)
comparison_fits comparisons.NotEqual = (omega arith, omega arith)
comparison_fits comparisons.Never = (omega arith, omega arith)
comparison_fits comparisons.Always = (omega arith, omega arith)

test_fits : (o : Option Comparison) → depth_test_number o ≤ 8
test_fits None = omega arith
test_fits (Some c) = (comparison_fits c).1

factor_fits : (c : BlendFactor) → (1 ≤ factor_number c) × (factor_number c ≤ 11)
factor_fits factors.Zero = (omega arith, omega arith)
factor_fits factors.One = (omega arith, omega arith)
factor_fits factors.SourceColor = (omega arith, omega arith)
factor_fits factors.InverseSourceColor = (omega arith, omega arith)
factor_fits factors.SourceAlpha = (omega arith, omega arith)
factor_fits factors.InverseSourceAlpha = (omega arith, omega arith)
factor_fits factors.DestinationAlpha = (omega arith, omega arith)
factor_fits factors.InverseDestinationAlpha = (omega arith, omega arith)
factor_fits factors.DestinationColor = (omega arith, omega arith)
factor_fits factors.InverseDestinationColor = (omega arith, omega arith)
factor_fits factors.SourceAlphaSaturated = (omega arith, omega arith)

equation_fits : (c : BlendEquation) → equation_number c ≤ 4
equation_fits equations.Add = omega arith
equation_fits equations.Subtract = omega arith
equation_fits equations.ReverseSubtract = omega arith
equation_fits equations.Minimum = omega arith
equation_fits equations.Maximum = omega arith

winding_fits : (c : Winding) → winding_number c ≤ 2
winding_fits windings.Clockwise = omega arith
winding_fits windings.CounterClockwise = omega arith

culled_fits : (o : Option Winding) → culling_number o ≤ 2
culled_fits None = omega arith
culled_fits (Some c) = winding_fits c

primitive_fits : (c : Primitive) → primitive_number c ≤ 1
primitive_fits primitives.TriangleList = omega arith
primitive_fits primitives.TriangleStrip = omega arith

factor_in : (o : Option Blend) (f : Blend → BlendFactor) → of_blend (λ b. factor_number (f b)) o ≤ 11
factor_in None f = omega arith
factor_in (Some b) f = (factor_fits (f b)).1

equation_in : (o : Option Blend) (f : Blend → BlendEquation) → of_blend (λ b. equation_number (f b)) o ≤ 4
equation_in None f = omega arith
equation_in (Some b) f = equation_fits (f b)

-- the numbers of a state, with those of blending taken apart
abbrev pub numbers_with : ℕ → ℕ → Option Blend → ℕ → ℕ → ℕ → Numbers
numbers_with mask test blend culled depth primitive = record {
  mask = mask;
  test = test;
  color_from = of_blend (λ b. factor_number b.color.source) blend;
  color_onto = of_blend (λ b. factor_number b.color.destination) blend;
  alpha_from = of_blend (λ b. factor_number b.alpha.source) blend;
  alpha_onto = of_blend (λ b. factor_number b.alpha.destination) blend;
  color_joined = of_blend (λ b. equation_number b.color.equation) blend;
  alpha_joined = of_blend (λ b. equation_number b.alpha.equation) blend;
  culled = culled;
  depth = depth;
  primitive = primitive;
}

fit : (m t : ℕ) (o : Option Blend) (c d p : ℕ) → m ≤ 15 → t ≤ 8 → c ≤ 2 → d ≤ 1 → p ≤ 1 → Fit (numbers_with m t o c d p)
fit m t o c d p hm ht hc hd hp = record {
  mask = hm;
  test = ht;
  color_from = factor_in o (λ b. b.color.source);
  color_onto = factor_in o (λ b. b.color.destination);
  alpha_from = factor_in o (λ b. b.alpha.source);
  alpha_onto = factor_in o (λ b. b.alpha.destination);
  color_joined = equation_in o (λ b. b.color.equation);
  alpha_joined = equation_in o (λ b. b.alpha.equation);
  culled = hc;
  depth = hd;
  primitive = hp;
}

together : (m t : ℕ) (o : Option Blend) (c d p : ℕ) → Together (numbers_with m t o c d p)
together m t None c d p = inl refl
together m t (Some b) c d p = inr ((factor_fits b.color.source).0, (factor_fits b.color.destination).0, (factor_fits b.alpha.source).0, (factor_fits b.alpha.destination).0)

summed : (m t : ℕ) (o : Option Blend) (c d p : ℕ) → m + 16 * t + 4096 * blend_number o + 68719476736 * c + 274877906944 * d + 281474976710656 * p ≡ total (numbers_with m t o c d p)
summed m t None c d p = omega arith
summed m t (Some b) c d p = omega arith

mask_fits : (c : Channels) → mask_number c ≤ 15
mask_fits c = omega (arith, bit_fits c.red, bit_fits c.green, bit_fits c.blue, bit_fits c.alpha)

abbrev pub numbers_of : RenderState → Numbers
numbers_of s = numbers_with (mask_number s.channels) (depth_test_number s.depth_test) s.blend (culling_number s.culled) (bit s.writes_depth) (primitive_number s.primitive)

state_fit : (s : RenderState) → Fit (numbers_of s)
state_fit s = fit _ _ s.blend _ _ _ (mask_fits s.channels) (test_fits s.depth_test) (culled_fits s.culled) (bit_fits s.writes_depth) (primitive_fits s.primitive)

-- a word of a state has its numbers
pub word_has : (w : ℕ) (s : RenderState) → w ≡ state_word s → Has w (numbers_of s)
word_has w s e =
    has w (numbers_of s)
    (e ∙ summed (mask_number s.channels) (depth_test_number s.depth_test) s.blend (culling_number s.culled) (bit s.writes_depth) (primitive_number s.primitive))
    (state_fit s)

pub state_has : (s : RenderState) → Has (state_word s) (numbers_of s)
state_has s = word_has (state_word s) s refl

-- and is admitted
pub state_admitted : (s : RenderState) → is_state_word (state_word s) ≡ true
state_admitted s = admitted (state_word s) (numbers_of s) (state_has s) (state_fit s) (together (mask_number s.channels) (depth_test_number s.depth_test) s.blend (culling_number s.culled) (bit s.writes_depth) (primitive_number s.primitive))

pub bit_told : (b : Bool) → (bit b == 1) ≡ b
bit_told true = refl
bit_told false = refl

pub depth_written : (s : RenderState) → writes_depth (state_word s) ≡ s.writes_depth
depth_written s = ap (λ m. m == 1) (state_has s).depth ∙ bit_told s.writes_depth

factor_told : (c : BlendFactor) → not (factor_number c == 0) ≡ true
factor_told factors.Zero = refl
factor_told factors.One = refl
factor_told factors.SourceColor = refl
factor_told factors.InverseSourceColor = refl
factor_told factors.SourceAlpha = refl
factor_told factors.InverseSourceAlpha = refl
factor_told factors.DestinationAlpha = refl
factor_told factors.InverseDestinationAlpha = refl
factor_told factors.DestinationColor = refl
factor_told factors.InverseDestinationColor = refl
factor_told factors.SourceAlphaSaturated = refl

pub blend_told : (o : Option Blend) → not (of_blend (λ b. factor_number b.color.source) o == 0) ≡ is_some o
blend_told None = refl
blend_told (Some b) = factor_told b.color.source

pub blended : (s : RenderState) → is_blended (state_word s) ≡ is_some s.blend
blended s = ap (λ m. not (m == 0)) (state_has s).color_from ∙ blend_told s.blend
