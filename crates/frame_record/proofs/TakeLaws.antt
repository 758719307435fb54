-- Which of a list and a recording is taken from next.
use Rattle.std.proofs.Common.{◌≡◌, ℕ, ◌+◌, ◌<◌, ◌≤◌, true, false, List, [], ◌∷◌, length, map, drop, slice_index_or, refl, ap, sym, ◌∙◌, arith}
use Rattle.std.specs.Prelude.{nat_lt}
use Rattle.std.proofs.lemmas.List.{drop_all, drop_more, drop-map, length-map, length-drop}
use Rattle.gfx_model.specs.Frames as model
use Rattle.gfx_model.specs.Frames.{numbered_entries}
use Rattle.draw_encoder.specs.declared.items.Item.{Item}
use Rattle.draw_encoder.specs.declared.items.Recording.{Recording}
use Rattle.draw_encoder.specs.Seen.{number_of}
use Rattle.frame_record.specs.declared.merging.NumberedEntry.{NumberedEntry}
use Rattle.frame_record.specs.Merged.{pair_of, right_first}
use Rattle.frame_record.specs.Seen.{recorded_seen}
use Rattle.frame_record.proofs.EntryLaws.{next_entry, length_entries}

-- the next entry of the list
pub next_left : (left : List NumberedEntry) (i : ℕ) (d : NumberedEntry) → i < length left
    → drop i (map pair_of left) ≡ pair_of (slice_index_or left i d) ∷ drop (i + 1) (map pair_of left)
next_left left i d h = drop-map pair_of i left ∙ ap (map pair_of) (drop_more left i d h) ∙ ap (λ xs. pair_of (slice_index_or left i d) ∷ xs) (sym (drop-map pair_of (i + 1) left))

pub no_right : (left : List NumberedEntry) (r : Recording) (i j : ℕ) → length r.items ≤ j → false ≡ right_first (drop i (map pair_of left)) (drop j (numbered_entries (recorded_seen r)))
no_right left r i j h = rw (drop_all j (numbered_entries (recorded_seen r)) (omega (arith, h, length_entries r))) refl

some_first : (ys : List (ℕ × model.Entry)) → 0 < length ys → true ≡ right_first [] ys
some_first [] h = absurd (omega (arith, h))
some_first (y ∷ ys) h = refl

pub no_left : (left : List NumberedEntry) (r : Recording) (i j : ℕ) → length left ≤ i → j < length r.items → true ≡ right_first (drop i (map pair_of left)) (drop j (numbered_entries (recorded_seen r)))
no_left left r i j h k =
    rw (drop_all i (map pair_of left) (omega (arith, h, length-map left pair_of)))
    (some_first (drop j (numbered_entries (recorded_seen r))) (omega (arith, k, length-drop j (numbered_entries (recorded_seen r)), length_entries r)))

pub both : (left : List NumberedEntry) (r : Recording) (i j : ℕ) (e : NumberedEntry) (d : Item) → i < length left → j < length r.items
    → nat_lt (number_of (slice_index_or r.items j d)) (slice_index_or left i e).number ≡ right_first (drop i (map pair_of left)) (drop j (numbered_entries (recorded_seen r)))
both left r i j e d h k = rw (next_left left i e h, next_entry r j d k) refl
