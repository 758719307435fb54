use Rattle.std.proofs.Common.{◌≡◌, ℕ, ◌==◌, ◌&&◌, true, List, map, length, Some, option_map, refl, sym, ap, ◌∙◌, subst}
use Rattle.std.specs.List.{slice_get}
use Rattle.std.proofs.lemmas.Option.{slice_get-map, slice_get_read}
use Rattle.std.proofs.lemmas.Slice.Eq.{slice_eq-Decides}
use Rattle.gfx_words.specs.declared.journal.JournalEntry.{JournalEntry}
use Rattle.gfx_words.specs.Seen.{entry_seen}
use Rattle.scene_playing.proofs.Entries.{same_entry}
use Rattle.scene_playing.proofs.ordered.has_entries.Goals as goal

pub returns-in-Some : goal.returns-in-Some
returns-in-Some c = λ t.
    let same = (slice_eq-Decides same_entry c.as_slice-in-Some.result.now c.as_slice-in-Some-2.result.now c.eq.result c.eq.ensures).0 t in
    let found = c.in-Some.ensures.lookup in
    let at = slice_get_read c.as_slice.result.now (length c.as_slice.result.now) c.args.number c.in-Some.expected.now refl found.3.0 found.1 in
    slice_get-map (map entry_seen) c.args.journal.now.frames c.args.number
    ∙ ap (option_map (map entry_seen)) (subst (λ (js : List (List JournalEntry)). slice_get js c.args.number ≡ Some c.in-Some.expected.now) c.as_slice.ensures at)
    ∙ ap (λ (es : List JournalEntry). Some (map entry_seen es)) (sym c.as_slice-in-Some-2.ensures ∙ sym same ∙ c.as_slice-in-Some.ensures.value)
    ∙ ap (λ es. Some es) c.in-Ok.ensures.journal
