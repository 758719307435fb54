-- Stencils by names, and their words: each field's number times the power of two of its lowest bit.
use Rattle.std.specs.Prelude.{ℕ, ◌+◌, ◌*◌, ◌^◌}
use Rattle.state_words.specs.declared.stencils.StencilState.{StencilState}
use Rattle.state_words.specs.Numbers.{comparison_number, operation_number}

-- the word of a stencil
abbrev pub stencil_word : StencilState → ℕ
stencil_word s =
    s.reference + 2 ^ 8 * s.mask + 2 ^ 16 * comparison_number s.test + 2 ^ 20 * operation_number s.on_stencil_fail
    + 2 ^ 24 * operation_number s.on_depth_fail + 2 ^ 28 * operation_number s.on_pass
