-- A line that is not skipped is read by its fields.
use Rattle.std.proofs.Common.{◌≡◌, ℕ, Bool, true, false, List, Option, Ok, Err, refl, ap, sym, ◌∙◌}
use Rattle.std.specs.List.{list_all}
use Rattle.scene_model.specs.Field.{Read, ◌>>=◌, BoundName, used_name, optional_name, create_name, split_at}
use Rattle.scene_model.specs.Scene.{ResourceLine, frame_buffer_line}
use Rattle.scene_model.specs.Grammar.{Reading, Field, Word, field, has_count, is_skipped, is_text_byte, after_fields, line_read, frame_buffer_form, Named}
use Rattle.scene_text.specs.Names.{only_place}
use Rattle.scene_model.specs.Grammar.{whole_language}
use Rattle.scene_text.specs.LineWords.{word_of, after_parts}

-- the fields of a line with the word that the first one is
pub parts_are : (r : Reading) (fs : List Field) (f : Field) (w : Option Word) → f ≡ field fs 0 → w ≡ word_of f → after_parts r fs ≡ after_fields whole_language r fs w
unfolding after_parts
parts_are r fs f w e h = ap (after_fields whole_language r fs) (ap word_of (sym e) ∙ sym h)

-- a line of text bytes is its fields
pub line_parts : (r : Reading) (line : List ℕ) → is_skipped line ≡ false → list_all is_text_byte line ≡ true → line_read whole_language r line ≡ after_parts r (split_at 32 line)
unfolding after_parts word_of
line_parts r line s t = rw (s, t) refl

-- a depth texture that can't be read ends a frame buffer's line
pub depth_stops : (names : List BoundName) (fs : List Field) (b : Bool) (place color cause : ℕ) → has_count 4 fs ≡ Ok b → only_place (create_name names false (field fs 1)) ≡ Ok place → used_name names (field fs 2) ≡ Ok color → optional_name names (field fs 3) ≡ Err cause → frame_buffer_form names fs ≡ Err cause
depth_stops names fs b place color cause n p u o = ap (λ r. r >>= λ _. create_name names false (field fs 1) >>= rest) n ∙ by (create_name names false (field fs 1)) p
  where
    rest : ℕ × List BoundName → Read (Named ResourceLine)
    rest m = used_name names (field fs 2) >>= λ c. optional_name names (field fs 3) >>= λ d. Ok (frame_buffer_line m.0 c d, m.1)

    by : (r : Read (ℕ × List BoundName)) → only_place r ≡ Ok place → (r >>= rest) ≡ Err cause
    by (Ok m) e = ap (λ x. x >>= λ c. optional_name names (field fs 3) >>= λ d. Ok (frame_buffer_line m.0 c d, m.1)) u ∙ ap (λ x. x >>= λ d. Ok (frame_buffer_line m.0 color d, m.1)) o
    by (Err k) e = absurd (cc e)
