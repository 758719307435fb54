-- The entries of a recording with their numbers.
use Rattle.std.proofs.Common.{◌≡◌, ℕ, zero, suc, ◌+◌, ◌<◌, ◌≤◌, List, [], ◌∷◌, length, map, drop, slice_index_or, refl, ap, ◌∙◌, arith}
use Rattle.gfx_model.specs.Frames as model
use Rattle.gfx_model.specs.Frames.{numbered_from, numbered_entries}
use Rattle.gfx_model.proofs.OrderedLaws as ordered
use Rattle.schedule_model.specs.Held.{Ascends}
use Rattle.draw_encoder.specs.declared.items.Item.{Item}
use Rattle.draw_encoder.specs.declared.items.Recording.{Recording}
use Rattle.draw_encoder.specs.Seen.{number_of, numbers_of}
use Rattle.frame_record.specs.Seen.{numbered_seen, recorded_seen}

-- the entries of some items from a place on
abbrev entries_from : Recording → ℕ → List Item → List (ℕ × model.Entry)
entries_from r n items = numbered_from r.encoder n (map (numbered_seen r) items)

next_from : (r : Recording) (n j : ℕ) (items : List Item) (d : Item) → j < length items
    → drop j (entries_from r n items) ≡ (number_of (slice_index_or items j d), record { encoder = r.encoder; ordinal = n + j }) ∷ drop (suc j) (entries_from r n items)
next_from r n j [] d h = absurd (omega (arith, h))
next_from r n zero (x ∷ xs) d h = let e : n ≡ n + 0 = omega arith in ap (λ k. (number_of x, record { encoder = r.encoder; ordinal = k }) ∷ entries_from r (n + 1) xs) e
next_from r n (suc j) (x ∷ xs) d h =
    let e : n + 1 + j ≡ n + suc j = omega arith in
    next_from r (n + 1) j xs d (omega (arith, h))
    ∙ ap (λ k. (number_of (slice_index_or xs j d), record { encoder = r.encoder; ordinal = k }) ∷ drop (suc j) (entries_from r (n + 1) xs)) e

pub next_entry : (r : Recording) (j : ℕ) (d : Item) → j < length r.items
    → drop j (numbered_entries (recorded_seen r)) ≡ (number_of (slice_index_or r.items j d), record { encoder = r.encoder; ordinal = j }) ∷ drop (j + 1) (numbered_entries (recorded_seen r))
next_entry r j d h =
    let e : suc j ≡ j + 1 = omega arith in
    let z : 0 + j ≡ j = omega arith in
    next_from r 0 j r.items d h
    ∙ ap (λ k. (number_of (slice_index_or r.items j d), record { encoder = r.encoder; ordinal = k }) ∷ drop (suc j) (numbered_entries (recorded_seen r))) z
    ∙ ap (λ k. (number_of (slice_index_or r.items j d), record { encoder = r.encoder; ordinal = j }) ∷ drop k (numbered_entries (recorded_seen r))) e

length_from : (r : Recording) (n : ℕ) (items : List Item) → length (entries_from r n items) ≡ length items
length_from r n [] = refl
length_from r n (x ∷ xs) = ap suc (length_from r (n + 1) xs)

pub length_entries : (r : Recording) → length (numbered_entries (recorded_seen r)) ≡ length r.items
length_entries r = length_from r 0 r.items

ascends_from : (r : Recording) (n low : ℕ) (x : Item) (items : List Item) → low ≤ number_of x → Ascends (numbers_of (x ∷ items)) → ordered.Ascends low (entries_from r n (x ∷ items))
ascends_from r n low x [] h a = (h, tt)
ascends_from r n low x (y ∷ items) h a = (h, ascends_from r (n + 1) (number_of x) y items (omega (arith, a.0)) a.1)

ascends_items : (r : Recording) (items : List Item) → Ascends (numbers_of items) → ordered.Ascends 0 (entries_from r 0 items)
ascends_items r [] a = tt
ascends_items r (x ∷ items) a = ascends_from r 0 0 x items (omega arith) a

pub ascends_entries : (r : Recording) → Ascends (numbers_of r.items) → ordered.Ascends 0 (numbered_entries (recorded_seen r))
ascends_entries r a = ascends_items r r.items a
