-- The pairs of scenes, and a pair's line, by computation.
use Rattle.std.specs.Prelude.{◌≡◌, ℕ, List, [], ◌∷◌, map, Result, Ok, Err, refl, codes}
use Rattle.std.specs.Fmt.{digits}
use Rattle.gfx_model.specs.Frames.{Entry}
use Rattle.scene_model.specs.Scene.{Scene}
use Rattle.scene_model.specs.Fold.{plans}
use Rattle.scene_model.specs.Field.{i32_number, word_in, hex_value, hex_byte, skip_piece, attribute_piece, part_field}
use Rattle.scene_model.specs.Grammar.{Fault, scene_of, whole_language, after_word, after_resource, after_encoder_line}
use Rattle.shared_items.specs.Items.{frame_pairs}
use Rattle.shared_items.specs.Lines.{pair_line}

abbrev pairs_in : Result Scene Fault → List (List (ℕ × (Entry × Entry)))
pairs_in (Ok s) = map frame_pairs (plans s)
pairs_in (Err f) = []

abbrev pairs_of : List ℕ → List (List (ℕ × (Entry × Entry)))
pairs_of bytes = pairs_in (scene_of whole_language bytes)

abbrev entry : ℕ → ℕ → Entry
entry e n = record { encoder = e; ordinal = n }

-- the first two items of encoder 0 share with none, the third with the third of encoder 2, and the fourth with the second
third_of_both :
    pairs_of (codes "scene 1\nsize 1 1\nencoders 3\nframe\nprogram s solid\nencoder 0\nsubmit 0 s 1 255\nsubmit 9 s 1 255\nsubmit 0 s 4 255\nsubmit 0 s 5 255\nencoder 2\nsubmit 0 s 9 255\nsubmit 0 s 5 255\nsubmit 0 s 4 255\ndone\n")
    ≡ ((0, (entry 0 2, entry 2 2)) ∷ []) ∷ []
unfolding digits after_word after_resource after_encoder_line i32_number word_in hex_value hex_byte skip_piece attribute_piece part_field
third_of_both = refl

-- the first with which an item shares, where it does with two
first_of_two :
    pairs_of (codes "scene 1\nsize 1 1\nencoders 2\nframe\nprogram s solid\nview 7 mode sequential\nencoder 0\nsubmit 7 s 5 255\nencoder 1\ntouch 7\nsubmit 7 s 3 255\nsubmit 7 s 5 255\ndone\n")
    ≡ ((7, (entry 0 0, entry 1 1)) ∷ []) ∷ []
unfolding digits after_word after_resource after_encoder_line i32_number word_in hex_value hex_byte skip_piece attribute_piece part_field
first_of_two = refl

line_of_a_pair : pair_line 3 ((9 ∷ 10 ∷ 11 ∷ 12 ∷ 41 ∷ []) ∷ [] ∷ (57 ∷ []) ∷ []) (1, (entry 0 4, entry 2 0)) ≡ codes "pair frame 3 view 1 encoder 0 item 4 line 41 encoder 2 item 0 line 57\n"
unfolding digits
line_of_a_pair = refl
