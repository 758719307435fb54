-- One entry more of a list or of a recording.
use Rattle.std.proofs.Common.{◌≡◌, ℕ, ◌+◌, ◌<◌, true, false, List, [], ◌∷◌, ◌++◌, length, map, drop, slice_index_or, ap, sym, subst, ◌∙◌, arith}
use Rattle.std.proofs.lemmas.List.{length-map, map-append}
use Rattle.gfx_model.specs.Frames as model
use Rattle.gfx_model.specs.Frames.{numbered_entries}
use Rattle.gfx_model.specs.World.{sorted_by_key}
use Rattle.schedule_model.specs.Held.{Ascends}
use Rattle.draw_encoder.specs.declared.items.Item.{Item}
use Rattle.draw_encoder.specs.declared.items.Recording.{Recording}
use Rattle.draw_encoder.specs.Seen.{number_of, numbers_of}
use Rattle.frame_record.specs.declared.merging.NumberedEntry.{NumberedEntry}
use Rattle.frame_record.specs.Merged.{pair_of, right_first}
use Rattle.frame_record.specs.Seen.{recorded_seen}
use Rattle.frame_record.proofs.EntryLaws.{next_entry, length_entries, ascends_entries}
use Rattle.frame_record.proofs.TakeLaws.{next_left}
use Rattle.frame_record.proofs.MergeLaws.{IsMerged, right_there, left_there, right_merged, left_merged, ascends_sorted}

pub right_step : (left : List NumberedEntry) (r : Recording) (old new : List NumberedEntry) (i j turn : ℕ) (d : Item) (n : ℕ)
    → IsMerged (map pair_of left) (numbered_entries (recorded_seen r)) (map pair_of old) i j turn
    → sorted_by_key (map pair_of left) ≡ map pair_of left → Ascends (numbers_of r.items)
    → right_first (drop i (map pair_of left)) (drop j (numbered_entries (recorded_seen r))) ≡ true
    → n ≡ number_of (slice_index_or r.items j d) → new ≡ old ++ record { number = n; entry = record { encoder = r.encoder; ordinal = j } } ∷ []
    → IsMerged (map pair_of left) (numbered_entries (recorded_seen r)) (map pair_of new) i (j + 1) (turn + 1)
right_step left r old new i j turn d n k a b t is push =
    let xs : List (ℕ × model.Entry) = map pair_of left in
    let ys : List (ℕ × model.Entry) = numbered_entries (recorded_seen r) in
    let y : ℕ × model.Entry = (n, record { encoder = r.encoder; ordinal = j }) in
    let added : NumberedEntry = record { number = n; entry = record { encoder = r.encoder; ordinal = j } } in
    let there : j < length ys = right_there xs ys (map pair_of old) i j turn k t in
    let next : drop j ys ≡ y ∷ drop (j + 1) ys
    = next_entry r j d (omega (arith, there, length_entries r)) ∙ ap (λ (m : ℕ). (m, record { encoder = r.encoder; ordinal = j }) ∷ drop (j + 1) ys) (sym is) in
    let out : map pair_of new ≡ map pair_of old ++ y ∷ [] = ap (map pair_of) push ∙ map-append pair_of old (added ∷ []) in
    subst (λ o. IsMerged xs ys o i (j + 1) (turn + 1)) (sym out)
    (right_merged xs ys (map pair_of old) i j turn y k (ascends_sorted xs a) (ascends_entries r b) t there next)

pub left_step : (left : List NumberedEntry) (r : Recording) (old new : List NumberedEntry) (i j turn : ℕ) (d : NumberedEntry)
    → IsMerged (map pair_of left) (numbered_entries (recorded_seen r)) (map pair_of old) i j turn
    → sorted_by_key (map pair_of left) ≡ map pair_of left → Ascends (numbers_of r.items)
    → turn < length (map pair_of left) + length (numbered_entries (recorded_seen r))
    → right_first (drop i (map pair_of left)) (drop j (numbered_entries (recorded_seen r))) ≡ false
    → new ≡ old ++ slice_index_or left i d ∷ []
    → IsMerged (map pair_of left) (numbered_entries (recorded_seen r)) (map pair_of new) (i + 1) j (turn + 1)
left_step left r old new i j turn d k a b more t push =
    let xs : List (ℕ × model.Entry) = map pair_of left in
    let ys : List (ℕ × model.Entry) = numbered_entries (recorded_seen r) in
    let x : ℕ × model.Entry = pair_of (slice_index_or left i d) in
    let there : i < length xs = left_there xs ys (map pair_of old) i j turn k more t in
    let next : drop i xs ≡ x ∷ drop (i + 1) xs = next_left left i d (omega (arith, there, length-map left pair_of)) in
    let out : map pair_of new ≡ map pair_of old ++ x ∷ [] = ap (map pair_of) push ∙ map-append pair_of old (slice_index_or left i d ∷ []) in
    subst (λ o. IsMerged xs ys o (i + 1) j (turn + 1)) (sym out)
    (left_merged xs ys (map pair_of old) i j turn x k (ascends_sorted xs a) (ascends_entries r b) t there next)
