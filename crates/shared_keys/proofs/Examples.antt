-- The lines of scenes by computation.
use Rattle.std.specs.Prelude.{◌≡◌, ℕ, List, [], Result, Ok, Err, refl, codes}
use Rattle.std.specs.Fmt.{digits}
use Rattle.scene_model.specs.Scene.{Scene}
use Rattle.scene_model.specs.Field.{i32_number, word_in, hex_value, hex_byte, skip_piece, attribute_piece, part_field}
use Rattle.scene_model.specs.Grammar.{Fault, scene_of, whole_language, after_word, after_resource, after_encoder_line}
use Rattle.shared_keys.specs.Lines.{shared_lines}

abbrev lines_in : Result Scene Fault → List ℕ
lines_in (Ok s) = shared_lines s
lines_in (Err f) = codes "no scene"

abbrev lines_of : List ℕ → List ℕ
lines_of bytes = lines_in (scene_of whole_language bytes)

equal_depths : lines_of (codes "scene 1\nsize 1 1\nencoders 2\nframe\nprogram s solid\nencoder 0\nsubmit 0 s 5 255\nencoder 1\nsubmit 0 s 5 255\ndone\n") ≡ codes "frame 0 view 0 encoders 0 1\n"
unfolding digits after_word after_resource after_encoder_line i32_number word_in hex_value hex_byte skip_piece attribute_piece part_field
equal_depths = refl

other_depths : lines_of (codes "scene 1\nsize 1 1\nencoders 2\nframe\nprogram s solid\nencoder 0\nsubmit 0 s 5 255\nencoder 1\nsubmit 0 s 3 255\ndone\n") ≡ []
unfolding digits after_word after_resource after_encoder_line i32_number word_in hex_value hex_byte skip_piece attribute_piece part_field
other_depths = refl

-- the mode at the end of the frame counts, and it orders by number
sequential_view : lines_of (codes "scene 1\nsize 1 1\nencoders 2\nframe\nprogram s solid\nview 7 mode sequential\nencoder 0\nsubmit 7 s 5 255\nencoder 1\nsubmit 7 s 3 255\ndone\n") ≡ codes "frame 0 view 7 encoders 0 1\n"
unfolding digits after_word after_resource after_encoder_line i32_number word_in hex_value hex_byte skip_piece attribute_piece part_field
sequential_view = refl

views_apart : lines_of (codes "scene 1\nsize 1 1\nencoders 2\nframe\nprogram s solid\nview 0 mode sequential\nencoder 0\nsubmit 0 s 5 255\nsubmit 0 s 5 255\nencoder 1\nsubmit 1 s 5 255\ndone\n") ≡ []
unfolding digits after_word after_resource after_encoder_line i32_number word_in hex_value hex_byte skip_piece attribute_piece part_field
views_apart = refl

plain_touches : lines_of (codes "scene 1\nsize 1 1\nencoders 2\nframe\nencoder 0\ntouch 0\nencoder 1\ntouch 0\ndone\n") ≡ []
unfolding digits after_word after_resource after_encoder_line i32_number word_in hex_value hex_byte skip_piece attribute_piece part_field
plain_touches = refl

touches_with_values : lines_of (codes "scene 1\nsize 1 1\nencoders 2\nframe\nuniform i int\nencoder 0\nset i 1\ntouch 0\nencoder 1\nset i 2\ntouch 0\ndone\n") ≡ codes "frame 0 view 0 encoders 0 1\n"
unfolding digits after_word after_resource after_encoder_line i32_number word_in hex_value hex_byte skip_piece attribute_piece part_field
touches_with_values = refl

two_blits : lines_of (codes "scene 1\nsize 1 1\nencoders 2\nframe\ntexture a 1 1 rgba8 dst fill:00000000\ntexture b 1 1 rgba8 dst fill:00000000\nencoder 0\nblit 3 a 0 0 b 0 0 1 1\nencoder 1\nblit 3 b 0 0 a 0 0 1 1\ndone\n") ≡ codes "frame 0 view 3 encoders 0 1\n"
unfolding digits after_word after_resource after_encoder_line i32_number word_in hex_value hex_byte skip_piece attribute_piece part_field
two_blits = refl

-- encoders 1 and 2 share a key, and so do encoders 0 and 2; a dropped line is no item
least_of_two : lines_of (codes "scene 1\nsize 1 1\nencoders 3\nframe\nprogram s solid\nencoder 0\nsubmit 0 s 9 255\nsubmit 256 s 1 255\nencoder 1\nsubmit 0 s 2 255\nencoder 2\nsubmit 0 s 2 255\nsubmit 0 s 9 255\ndone\n") ≡ codes "frame 0 view 0 encoders 0 2\n"
unfolding digits after_word after_resource after_encoder_line i32_number word_in hex_value hex_byte skip_piece attribute_piece part_field
least_of_two = refl

-- frames and views ascend by their numbers, whatever the order of the views
frames_and_views : lines_of (codes "scene 1\nsize 1 1\nencoders 2\nframe\nprogram s solid\norder 4 2\nencoder 0\nsubmit 2 s 0 255\nframe\nencoder 0\nsubmit 2 s 0 255\nsubmit 4 s 0 255\nencoder 1\nsubmit 4 s 0 255\nsubmit 2 s 0 255\ndone\n") ≡ codes "frame 1 view 2 encoders 0 1\nframe 1 view 4 encoders 0 1\n"
unfolding digits after_word after_resource after_encoder_line i32_number word_in hex_value hex_byte skip_piece attribute_piece part_field
frames_and_views = refl
