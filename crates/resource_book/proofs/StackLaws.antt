use Rattle.std.proofs.Common.{◌≡◌, ℕ, ◌<◌, List, length, map, sym, refl, ap, ◌∙◌, arith, slice_index_or, slice_set, lit<}
use Rattle.std.proofs.lemmas.List.{get_or-map, map-set, set-get_or, length-map}
use Rattle.gfx_model.specs.Words.{Kind, layout_kind, vertex_buffer_kind, index_buffer_kind, texture_kind, frame_buffer_kind, program_kind, uniform_kind, all_kinds, kind_number, greatest}
use Rattle.gfx_model.specs.Resources.{Book}
use Rattle.resource_book.specs.Stacks.{StackView, book_seen}

pub kind_below : (k : Kind) → kind_number k < 7
kind_below layout_kind = lit< tt
kind_below vertex_buffer_kind = lit< tt
kind_below index_buffer_kind = lit< tt
kind_below texture_kind = lit< tt
kind_below frame_buffer_kind = lit< tt
kind_below program_kind = lit< tt
kind_below uniform_kind = lit< tt

pub kind_greatest : (k : Kind) → slice_index_or (map greatest all_kinds) (kind_number k) 0 ≡ greatest k
kind_greatest layout_kind = refl
kind_greatest vertex_buffer_kind = refl
kind_greatest index_buffer_kind = refl
kind_greatest texture_kind = refl
kind_greatest frame_buffer_kind = refl
kind_greatest program_kind = refl
kind_greatest uniform_kind = refl

abbrev pub limit : StackView → ℕ
limit s = s.limit

pub seven : (stacks : List StackView) → map limit stacks ≡ map greatest all_kinds → length stacks ≡ 7
seven stacks e = sym (length-map stacks limit) ∙ ap length e

pub limit_at : (stacks : List StackView) (k : Kind) (d : StackView) → map limit stacks ≡ map greatest all_kinds → limit (slice_index_or stacks (kind_number k) d) ≡ greatest k
limit_at stacks k d e = sym (get_or-map limit stacks (kind_number k) d 0 (omega (arith, kind_below k, seven stacks e))) ∙ ap (λ xs. slice_index_or xs (kind_number k) 0) e ∙ kind_greatest k

pub limits_set : (stacks : List StackView) (k : Kind) (b : StackView) → map limit stacks ≡ map greatest all_kinds → limit b ≡ greatest k → map limit (slice_set stacks (kind_number k) b) ≡ map greatest all_kinds
limits_set stacks k b e same =
    map-set limit stacks (kind_number k) b
    ∙ (λ j. slice_set (e j) (kind_number k) ((same ∙ sym (kind_greatest k)) j))
    ∙ set-get_or (map greatest all_kinds) (kind_number k) 0

pub limits_same : (stacks : List StackView) (k : Kind) (n : ℕ) (d b : StackView) → n ≡ kind_number k → map limit stacks ≡ map greatest all_kinds
    → limit b ≡ limit (slice_index_or stacks n d) → map limit (slice_set stacks n b) ≡ map greatest all_kinds
limits_same stacks k n d b e limits same =
    ap (λ m. map limit (slice_set stacks m b)) e ∙ limits_set stacks k b limits (same ∙ ap (λ m. limit (slice_index_or stacks m d)) e ∙ limit_at stacks k d limits)

pub limit_here : (stacks : List StackView) (k : Kind) (n : ℕ) (d : StackView) → n ≡ kind_number k → map limit stacks ≡ map greatest all_kinds → limit (slice_index_or stacks n d) ≡ greatest k
limit_here stacks k n d e limits = ap (λ m. limit (slice_index_or stacks m d)) e ∙ limit_at stacks k d limits

pub book_here : (stacks : List StackView) (k : Kind) (n : ℕ) (d : StackView) (e : Book) → n ≡ kind_number k → map limit stacks ≡ map greatest all_kinds
    → slice_index_or (map book_seen stacks) (kind_number k) e ≡ book_seen (slice_index_or stacks n d)
book_here stacks k n d e same limits = get_or-map book_seen stacks (kind_number k) d e (omega (arith, kind_below k, seven stacks limits)) ∙ ap (λ m. book_seen (slice_index_or stacks m d)) (sym same)

pub books_changed : (stacks : List StackView) (k : Kind) (n : ℕ) (d b : StackView) (f : Book → Book) (e : Book) → n ≡ kind_number k → map limit stacks ≡ map greatest all_kinds
    → book_seen b ≡ f (book_seen (slice_index_or stacks n d))
    → map book_seen (slice_set stacks n b) ≡ slice_set (map book_seen stacks) (kind_number k) (f (slice_index_or (map book_seen stacks) (kind_number k) e))
books_changed stacks k n d b f e same limits is =
    map-set book_seen stacks n b ∙ ap (slice_set (map book_seen stacks) n) (is ∙ ap f (sym (book_here stacks k n d e same limits)))
    ∙ ap (λ m. slice_set (map book_seen stacks) m (f (slice_index_or (map book_seen stacks) (kind_number k) e))) same
