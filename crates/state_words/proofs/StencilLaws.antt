-- The fields of the word of a stencil by names.
use Rattle.std.proofs.Common.{ℕ, ◌≡◌, ◌+◌, ◌*◌, ◌≤◌, true, arith}
use Rattle.std.specs.Cmp.Derive.{both_true}
use Rattle.gfx_model.specs.Number.{bits_at}
use Rattle.gfx_model.specs.Words.{is_stencil_word}
use Rattle.state_words.specs.declared.stencils.StencilOperation.{StencilOperation}
use Rattle.state_words.specs.declared.stencils.StencilOperation.TheVariants as operations
use Rattle.state_words.specs.declared.stencils.StencilState.{StencilState}
use Rattle.state_words.specs.Numbers.{comparison_number, operation_number}
use Rattle.state_words.specs.Stencils.{stencil_word}
use Rattle.state_words.proofs.Fields.{field, at_most, at_least, either_true}
use Rattle.state_words.proofs.Named.{comparison_fits}

operation_fits : (c : StencilOperation) → operation_number c ≤ 7
operation_fits operations.Zero = omega arith
operation_fits operations.Keep = omega arith
operation_fits operations.Replace = omega arith
operation_fits operations.IncrementWrapping = omega arith
operation_fits operations.IncrementSaturating = omega arith
operation_fits operations.DecrementWrapping = omega arith
operation_fits operations.DecrementSaturating = omega arith
operation_fits operations.Invert = omega arith

-- the fields of a word are those of a stencil
pub record IsOf (w r m t a b c : ℕ) : Type 0 where
  pub reference : bits_at w 0 8 ≡ r
  pub mask : bits_at w 8 8 ≡ m
  pub test : bits_at w 16 4 ≡ t
  pub on_stencil_fail : bits_at w 20 4 ≡ a
  pub on_depth_fail : bits_at w 24 4 ≡ b
  pub on_pass : bits_at w 28 4 ≡ c

is_of : (w r m t a b c : ℕ) → w ≡ r + 256 * m + 65536 * t + 1048576 * a + 16777216 * b + 268435456 * c
    → r ≤ 255 → m ≤ 255 → t ≤ 8 → a ≤ 7 → b ≤ 7 → c ≤ 7 → IsOf w r m t a b c
is_of w r m t a b c e hr hm ht ha hb hc = record {
  reference = field w (m + 256 * t + 4096 * a + 65536 * b + 1048576 * c) r 0 0 8 (omega (arith, e)) (omega arith) (omega (arith, hr));
  mask = field w (t + 16 * a + 256 * b + 4096 * c) m r 8 8 (omega (arith, e)) (omega (arith, hr)) (omega (arith, hm));
  test = field w (a + 16 * b + 256 * c) t (r + 256 * m) 16 4 (omega (arith, e)) (omega (arith, hr, hm)) (omega (arith, ht));
  on_stencil_fail = field w (b + 16 * c) a (r + 256 * m + 65536 * t) 20 4 (omega (arith, e)) (omega (arith, hr, hm, ht)) (omega (arith, ha));
  on_depth_fail = field w c b (r + 256 * m + 65536 * t + 1048576 * a) 24 4 (omega (arith, e)) (omega (arith, hr, hm, ht, ha)) (omega (arith, hb));
  on_pass = field w 0 c (r + 256 * m + 65536 * t + 1048576 * a + 16777216 * b) 28 4 (omega (arith, e)) (omega (arith, hr, hm, ht, ha, hb)) (omega (arith, hc));
}

-- the word of a stencil has its fields
pub stencil_has : (s : StencilState) → s.reference ≤ 255 → s.mask ≤ 255
    → IsOf (stencil_word s) s.reference s.mask (comparison_number s.test) (operation_number s.on_stencil_fail) (operation_number s.on_depth_fail) (operation_number s.on_pass)
stencil_has s r m = is_of (stencil_word s) s.reference s.mask (comparison_number s.test) (operation_number s.on_stencil_fail) (operation_number s.on_depth_fail) (operation_number s.on_pass) (omega arith) r m (comparison_fits s.test).1
    (operation_fits s.on_stencil_fail) (operation_fits s.on_depth_fail) (operation_fits s.on_pass)

-- and is admitted
pub stencil_admitted : (s : StencilState) → s.reference ≤ 255 → s.mask ≤ 255 → is_stencil_word (stencil_word s) ≡ true
stencil_admitted s r m =
    let h : IsOf (stencil_word s) s.reference s.mask (comparison_number s.test) (operation_number s.on_stencil_fail) (operation_number s.on_depth_fail) (operation_number s.on_pass) = stencil_has s r m in
    either_true _ _ (both_true (both_true (both_true (both_true
    (at_least _ _ 1 h.test (comparison_fits s.test).0) (at_most _ _ 8 h.test (comparison_fits s.test).1))
    (at_most _ _ 7 h.on_stencil_fail (operation_fits s.on_stencil_fail))) (at_most _ _ 7 h.on_depth_fail (operation_fits s.on_depth_fail)))
    (at_most _ _ 7 h.on_pass (operation_fits s.on_pass)))
