-- A word spells one name.
use Rattle.std.proofs.Common.{◌≡◌, ◌<◌, ◌≤◌, ◌/◌, ◌^◌, ℕ, Some, refl, sym, ap, ◌∙◌, arith}
use Rattle.std.specs.Int.RustNames.{bit_and}
use Rattle.std.proofs.lemmas.Nat.{and_mask}
use Rattle.std.proofs.lemmas.Option.{same_Some}
use Rattle.gfx_model.specs.Words.{Kind, layout_kind, vertex_buffer_kind, index_buffer_kind, texture_kind, frame_buffer_kind, program_kind, uniform_kind, kind_number, kind_of_number, greatest}
use Rattle.gfx_words.specs.Names.{word_of_name, OneWordOneName}

-- the parts of a word spell it
pub spelled_again : (k : Kind) (w : ℕ) → kind_number k ≡ w / 2 ^ 42 → word_of_name k (bit_and (w / 2 ^ 32) 1023) (bit_and w 4294967295) ≡ w
spelled_again k w e = rw (and_mask (w / 2 ^ 32) 10, and_mask w 32) (omega (arith, e))

pub serial_fits : (w : ℕ) → bit_and w 4294967295 < 2 ^ 32
serial_fits w = rw (and_mask w 32) (omega arith)

-- a kind's number says the kind
pub kind_again : (k : Kind) → kind_of_number (kind_number k) ≡ Some k
kind_again layout_kind = refl
kind_again vertex_buffer_kind = refl
kind_again index_buffer_kind = refl
kind_again texture_kind = refl
kind_again frame_buffer_kind = refl
kind_again program_kind = refl
kind_again uniform_kind = refl

pub same_kind : (k m : Kind) → kind_number k ≡ kind_number m → k ≡ m
same_kind k m e = same_Some k m (sym (kind_again k) ∙ ap kind_of_number e ∙ kind_again m)

most_things : (k : Kind) → greatest k ≤ 1024
most_things layout_kind = omega arith
most_things vertex_buffer_kind = omega arith
most_things index_buffer_kind = omega arith
most_things texture_kind = omega arith
most_things frame_buffer_kind = omega arith
most_things program_kind = omega arith
most_things uniform_kind = omega arith

pub one_name : OneWordOneName
one_name g h i j s t e = (
  same_kind g.kind h.kind (omega (arith, e, i, j, s, t, most_things g.kind, most_things h.kind)),
  omega (arith, e, i, j, s, t, most_things g.kind, most_things h.kind),
  omega (arith, e, s, t),
)
