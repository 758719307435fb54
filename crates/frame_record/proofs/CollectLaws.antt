-- Recordings merged one after the other.
use Rattle.std.proofs.Common.{◌≡◌, ℕ, ◌+◌, ◌<◌, ◌≤◌, List, [], ◌∷◌, ◌++◌, length, map, take, slice_index_or, zero, suc, refl, ap, sym, ◌∙◌, arith}
use Rattle.std.specs.List.{flat_map}
use Rattle.std.proofs.lemmas.List.{append-nil, length-append, length-map, map-append, take_more, take_all}
use Rattle.std.proofs.lemmas.List.Concat.{flat_map-append}
use Rattle.gfx_model.specs.Frames as model
use Rattle.gfx_model.specs.Frames.{numbered_entries, collected}
use Rattle.gfx_model.specs.World.{sorted_by_key}
use Rattle.draw_encoder.specs.declared.items.Recording.{Recording}
use Rattle.draw_encoder.specs.Seen.{number_of, numbers_of}
use Rattle.frame_record.specs.declared.merging.NumberedEntry.{NumberedEntry}
use Rattle.frame_record.specs.Kept.{numbers_in}
use Rattle.frame_record.specs.Merged.{pair_of}
use Rattle.frame_record.specs.Seen.{entry_seen, recorded_seen, recordings_seen}
use Rattle.frame_record.proofs.MergeLaws.{sorted_again, sorted_more}

-- a recording has no more items than all have
pub few_each : (rs : List Recording) (i : ℕ) (d : Recording) → i < length rs → length (slice_index_or rs i d).items ≤ length (numbers_in rs)
few_each [] i d h = absurd (omega (arith, h))
few_each (r ∷ rs) zero d h = omega (arith, length-append (numbers_of r.items) (numbers_in rs), length-map r.items number_of)
few_each (r ∷ rs) (suc i) d h = omega (arith, few_each rs i d (omega (arith, h)), length-append (numbers_of r.items) (numbers_in rs))

pub sorted_when : (xs ys : List (ℕ × model.Entry)) → xs ≡ sorted_by_key ys → sorted_by_key xs ≡ xs
sorted_when xs ys e = ap sorted_by_key e ∙ sorted_again ys ∙ sym e

one_more : (rs : List Recording) (i : ℕ) (d : Recording) → i < length rs
    → flat_map numbered_entries (recordings_seen (take (i + 1) rs)) ≡ flat_map numbered_entries (recordings_seen (take i rs)) ++ numbered_entries (recorded_seen (slice_index_or rs i d))
one_more rs i d h =
    ap (λ xs. flat_map numbered_entries (recordings_seen xs)) (take_more rs i d h)
    ∙ ap (flat_map numbered_entries) (map-append recorded_seen (take i rs) (slice_index_or rs i d ∷ []))
    ∙ flat_map-append numbered_entries (recordings_seen (take i rs)) (recorded_seen (slice_index_or rs i d) ∷ [])
    ∙ ap (λ zs. flat_map numbered_entries (recordings_seen (take i rs)) ++ zs) (append-nil (numbered_entries (recorded_seen (slice_index_or rs i d))))

pub collect_more : (rs : List Recording) (i : ℕ) (r : Recording) (old new : List (ℕ × model.Entry)) → i < length rs → r ≡ slice_index_or rs i r
    → old ≡ sorted_by_key (flat_map numbered_entries (recordings_seen (take i rs))) → new ≡ sorted_by_key (old ++ numbered_entries (recorded_seen r))
    → new ≡ sorted_by_key (flat_map numbered_entries (recordings_seen (take (i + 1) rs)))
collect_more rs i r old new h is e f =
    f ∙ ap (λ xs. sorted_by_key (xs ++ numbered_entries (recorded_seen r))) e
    ∙ sorted_more (flat_map numbered_entries (recordings_seen (take i rs))) (numbered_entries (recorded_seen r))
    ∙ ap (λ x. sorted_by_key (flat_map numbered_entries (recordings_seen (take i rs)) ++ numbered_entries (recorded_seen x))) is
    ∙ ap sorted_by_key (sym (one_more rs i r h))

seconds : (all : List NumberedEntry) → map (λ n. entry_seen n.entry) all ≡ map (λ x. x.1) (map pair_of all)
seconds [] = refl
seconds (n ∷ ns) = ap (λ es. entry_seen n.entry ∷ es) (seconds ns)

pub collected_all : (rs : List Recording) (i : ℕ) (all : List NumberedEntry) → length rs ≤ i
    → map pair_of all ≡ sorted_by_key (flat_map numbered_entries (recordings_seen (take i rs))) → map (λ n. entry_seen n.entry) all ≡ collected (recordings_seen rs)
collected_all rs i all h e =
    seconds all ∙ ap (map (λ x. x.1)) (e ∙ ap (λ xs. sorted_by_key (flat_map numbered_entries (recordings_seen xs))) (take_all i rs h))
