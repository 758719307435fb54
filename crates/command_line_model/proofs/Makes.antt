-- What `make` answers: for any count by two laws, and its note by computation.
use Rattle.std.specs.Prelude.{◌≡◌, ℕ, List, [], ◌∷◌, Result, Ok, Err, refl, codes}
use Rattle.std.proofs.Common.{sym, subst}
use Rattle.std.specs.Fmt.{digits}
use Rattle.scene_model.specs.Scene.{Scene}
use Rattle.scene_model.specs.Field.{word_in, hex_value, hex_byte}
use Rattle.scene_model.specs.Grammar.{Fault, scene_of, whole_language, after_word, after_resource, after_encoder_line}
use Rattle.scene_model.specs.Journal.{Journal, IsLawful, serial}
use Rattle.scene_model.specs.Output.{make_note}
use Rattle.scene_model.specs.Generated.{generated}
use Rattle.scene_model.specs.Run.{Run, all_done, IsMade}
use Rattle.command_line_model.proofs.Answers.{run, one_clear}

-- no frame: one journal, no picture, and a note of nothing
made_nothing : IsMade 0 (run all_done [] [] (codes "frames 0 items 0 sum 0\n"))
unfolding digits
made_nothing = ([], (tt, refl), refl)

-- whatever the count: nothing is shown, the journal is lawful for the generated scene, and the note is of that scene by that journal
shows_nothing : (count : ℕ) (r : Run) → IsMade count r → (r.ending ≡ all_done) × (r.pictures ≡ []) × IsLawful (generated count) r.journal × (r.noted ≡ make_note (generated count) r.journal)
shows_nothing count r (j, lawful, is) =
    subst
    (λ x. (x.ending ≡ all_done) × (x.pictures ≡ []) × IsLawful (generated count) x.journal × (x.noted ≡ make_note (generated count) x.journal))
    (sym is)
    (refl, refl, lawful, refl)

-- each lawful journal may be that of a run
each_journal : (count : ℕ) (j : Journal) → IsLawful (generated count) j → IsMade count (run all_done [] j (make_note (generated count) j))
each_journal count j lawful = (j, lawful, refl)

-- the note of a text's scene by its serial journal
abbrev note_of : Result Scene Fault → List ℕ
note_of (Ok s) = make_note s (serial s)
note_of (Err f) = []

-- one clear and two touches
abbrev two_touches : List ℕ
two_touches = codes "scene 1\nsize 1 1\nencoders 1\nframe\nview 0 clear 1 ff0000ff 0 0\nencoder 0\ntouch 0\ntouch 0\ndone\n"

-- one frame of one item, whose picture is `P6`, `1 1` and `255` in 11 bytes with the sum 450, and a red pixel
one_frame : note_of (scene_of whole_language one_clear) ≡ codes "frames 1 items 1 sum 705\n"
unfolding digits after_word after_resource after_encoder_line word_in hex_value hex_byte
one_frame = refl

-- the same picture with a second touch: the note counts items, not frames
two_items : note_of (scene_of whole_language two_touches) ≡ codes "frames 1 items 2 sum 705\n"
unfolding digits after_word after_resource after_encoder_line word_in hex_value hex_byte
two_items = refl
