-- Kinds and their numbers.
use Rattle.std.proofs.Common.{◌≡◌, ◌<◌, refl, sym, ap, ◌∙◌, lit<, map, slice_index_or, length}
use Rattle.gfx_model.specs.Words.{Kind, layout_kind, vertex_buffer_kind, index_buffer_kind, texture_kind, frame_buffer_kind, program_kind, uniform_kind, all_kinds, kind_number, greatest}

pub kind_below : (k : Kind) → kind_number k < length all_kinds
kind_below layout_kind = lit< tt
kind_below vertex_buffer_kind = lit< tt
kind_below index_buffer_kind = lit< tt
kind_below texture_kind = lit< tt
kind_below frame_buffer_kind = lit< tt
kind_below program_kind = lit< tt
kind_below uniform_kind = lit< tt

pub kind_greatest : (k : Kind) → slice_index_or (map greatest all_kinds) (kind_number k) 0 ≡ greatest k
kind_greatest layout_kind = refl
kind_greatest vertex_buffer_kind = refl
kind_greatest index_buffer_kind = refl
kind_greatest texture_kind = refl
kind_greatest frame_buffer_kind = refl
kind_greatest program_kind = refl
kind_greatest uniform_kind = refl

-- kinds of one number have one greatest number of things
pub greatest_same : (k m : Kind) → kind_number k ≡ kind_number m → greatest k ≡ greatest m
greatest_same k m e = sym (kind_greatest k) ∙ ap (λ n. slice_index_or (map greatest all_kinds) n 0) e ∙ kind_greatest m
