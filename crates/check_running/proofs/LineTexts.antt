-- The code's line of a dropped line is the definition's.
use Rattle.std.proofs.Common.{◌≡◌, ℕ, List, [], ◌∷◌, ◌++◌, map, Option, Some, None, refl, ap, sym, ◌∙◌, append_assoc}
use Rattle.std.specs.Fmt.{decimal}
use Rattle.std.specs.Prelude.{codes}
use Rattle.std.specs.List.{flat_map}
use Rattle.std.proofs.lemmas.List.Concat.{flat_map-cons}
use Rattle.gfx_model.specs.Resources.{Refusal, full, stale, bad_range, bad_size, not_blit_destination, wrong_kind, attached, room_full, bytes_full, bad_view, no_encoder, serials_spent, frames_spent, texels_full, bad_state}
use Rattle.scene_lines.specs.Reasons.{told, word_of}
use Rattle.dropped_lines.specs.Reasons.{Reason, unnamed, no_layout, refused}
use Rattle.dropped_lines.specs.Dropped.{Dropped, reason_word, encoder_part, dropped_line}
use Rattle.scene_check.specs.Found.{line_told}
use Rattle.check_running.specs.Lines.{front_with, told_line}

word_told : (r : Reason) → word_of (told r) ≡ reason_word r
word_told unnamed = refl
word_told no_layout = refl
word_told (refused full) = refl
word_told (refused (stale word)) = refl
word_told (refused bad_range) = refl
word_told (refused bad_size) = refl
word_told (refused not_blit_destination) = refl
word_told (refused wrong_kind) = refl
word_told (refused (attached holder)) = refl
word_told (refused room_full) = refl
word_told (refused bytes_full) = refl
word_told (refused bad_view) = refl
word_told (refused no_encoder) = refl
word_told (refused serials_spent) = refl
word_told (refused frames_spent) = refl
word_told (refused texels_full) = refl
word_told (refused bad_state) = refl

-- a front and the rest of a line, for one of the API thread and for one of an encoder
front_is : (n k : ℕ) (o : Option ℕ) (rest : List ℕ) → front_with n k o ++ rest ≡ codes "line " ++ (decimal n ++ (codes " frame " ++ (decimal k ++ (encoder_part o ++ (codes " refused " ++ rest)))))
front_is n k None rest =
    append_assoc (codes "line ") _ rest ∙ ap (λ t. codes "line " ++ t) (append_assoc (decimal n) _ rest ∙ ap (λ t. decimal n ++ t) (append_assoc (codes " frame ") _ rest ∙ ap (λ t. codes " frame " ++ t) (append_assoc (decimal k) (codes " refused ") rest)))
front_is n k (Some e) rest =
    append_assoc (codes "line ") _ rest ∙ ap (λ t. codes "line " ++ t) (append_assoc (decimal n) _ rest ∙ ap (λ t. decimal n ++ t) (append_assoc (codes " frame ") _ rest ∙ ap (λ t. codes " frame " ++ t) (append_assoc (decimal k) _ rest ∙ ap (λ t. decimal k ++ t) (
    append_assoc (codes " encoder ") _ rest ∙ ap (λ t. codes " encoder " ++ t) (append_assoc (decimal e) (codes " refused ") rest) ∙ sym (append_assoc (codes " encoder ") (decimal e) (codes " refused " ++ rest))))))

line_is : (d : Dropped) → told_line (line_told d) ≡ dropped_line d
line_is d = ap (λ w. front_with d.line d.frame d.encoder ++ (w ++ codes "\n")) (word_told d.reason) ∙ front_is d.line d.frame d.encoder (reason_word d.reason ++ codes "\n")

pub lines_are : (ds : List Dropped) → flat_map told_line (map line_told ds) ≡ flat_map dropped_line ds
lines_are [] = refl
lines_are (d ∷ ds) =
    flat_map-cons told_line (line_told d) (map line_told ds) ∙ ap (λ t. t ++ flat_map told_line (map line_told ds)) (line_is d) ∙ ap (λ t. dropped_line d ++ t) (lines_are ds)
    ∙ sym (flat_map-cons dropped_line d ds)
