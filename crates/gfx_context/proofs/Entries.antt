-- How many entries a journal has.
use Rattle.std.proofs.Common.{◌≡◌, ℕ, true, ◌+◌, List, [], ◌∷◌, map, length, refl, sym, ap, ◌∙◌}
use Rattle.std.specs.Prelude.{filter, flat_map}
use Rattle.std.proofs.lemmas.List.{length-append, length-map}
use Rattle.gfx_model.specs.World.{sorted_by_key}
use Rattle.gfx_model.specs.Frames.{Entry, numbered_entries, collected}
use Rattle.gfx_model.proofs.FrameLaws.{sorted_length}
use Rattle.gfx_words.specs.declared.journal.JournalEntry.{JournalEntry}
use Rattle.draw_encoder.specs.declared.items.Recording.{Recording}
use Rattle.draw_encoder.specs.Seen.{number_of, numbers_of}
use Rattle.frame_record.specs.Kept.{numbers_in}
use Rattle.frame_record.specs.Seen.{entry_seen, recorded_seen, recordings_seen}
use Rattle.frame_record.proofs.EntryLaws.{length_entries}

all_kept : {A : Type 0} (xs : List A) → filter (λ x. true) xs ≡ xs
all_kept [] = refl
all_kept (x ∷ xs) = ap (λ ys. x ∷ ys) (all_kept xs)

length_sorted : (xs : List (ℕ × Entry)) → length (sorted_by_key xs) ≡ length xs
length_sorted xs = ap length (sym (all_kept (sorted_by_key xs))) ∙ sorted_length (λ x. true) xs ∙ ap length (all_kept xs)

length_flat : (rs : List Recording) → length (flat_map numbered_entries (recordings_seen rs)) ≡ length (numbers_in rs)
length_flat [] = refl
length_flat (r ∷ rs) =
    length-append (numbered_entries (recorded_seen r)) (flat_map numbered_entries (recordings_seen rs))
    ∙ (λ j. (length_entries r ∙ sym (length-map r.items number_of)) j + length_flat rs j)
    ∙ sym (length-append (numbers_of r.items) (numbers_in rs))

-- the journal has an entry for each number
pub length_journal : (entries : List JournalEntry) (rs : List Recording) → map entry_seen entries ≡ collected (recordings_seen rs) → length entries ≡ length (numbers_in rs)
length_journal entries rs e =
    let all : List (ℕ × Entry) = flat_map numbered_entries (recordings_seen rs) in
    sym (length-map entries entry_seen) ∙ ap length e ∙ length-map (sorted_by_key all) (λ (x : ℕ × Entry). x.1) ∙ length_sorted all ∙ length_flat rs
