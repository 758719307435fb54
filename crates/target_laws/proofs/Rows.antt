-- Worked rows by computation: the lines of pixels of frame buffers, as the second implementation tells them.
use Rattle.std.specs.Prelude.{◌≡◌, ℕ, List, [], Option, Some, None, Result, Ok, Err, refl, codes}
use Rattle.std.specs.Fmt.{digits}
use Rattle.scene_model.specs.Scene.{Scene}
use Rattle.scene_model.specs.Field.{i32_number, word_in, hex_value, hex_byte, skip_piece, attribute_piece, part_field}
use Rattle.scene_model.specs.Grammar.{Fault, scene_of, whole_language, after_word, after_resource, after_encoder_line}
use Rattle.scene_model.specs.Journal.{serial}
use Rattle.target_laws.specs.Text.{scene_target_lines}

abbrev traced_in : (k : ℕ) → (name : List ℕ) → (x y : ℕ) → Result Scene Fault → Option (List ℕ)
traced_in k name x y (Ok s) = scene_target_lines s (serial s) k name x y
traced_in k name x y (Err f) = Some (codes "refused")

-- three views draw on two frame buffers with one colour texture, which an update and a blit change too; one is destroyed in the second frame
abbrev shared : List ℕ
shared = codes "scene 1\nsize 2 2\nencoders 1\nframe\nlayout p position:fixed:2\nprogram s solid\ntexture t 2 2 rgba8 dst fill:00000000\ntexture u 1 1 rgba8 dst fill:aabbccdd\ntexture z 2 2 d24s8 - fill:00000000\nfb f t -\nfb g t z\ntexupdate t 1 0 1 1 01020304\nview 0 target f\nview 0 clear 1 102030ff 0 0\nview 0 rect 0 0 1 2\nview 1 target g\nview 1 clear 3 0000ffff 9 0\nview 1 rect 0 0 2 1\nview 2 target f\nview 2 mode sequential\nencoder 0\ntouch 0\ntouch 1\nstate 15\ntvertices p 0000ffff0000010000000300000001000000ffff0000fdff\nsubmit 2 s 0 255\nstate 0\ntvertices p 0000ffff0000010000000300000001000000ffff0000fdff\nsubmit 2 s 0 255\nblit 3 t 1 0 u 0 0 1 1\nframe\nencoder 0\ntouch 0\nbeside\ndestroy f\nframe\nencoder 0\ntouch 3\ndone\n"

abbrev traced : (k : ℕ) → (name : List ℕ) → (x y : ℕ) → Option (List ℕ)
traced k name x y = traced_in k name x y (scene_of whole_language shared)

a_clear_a_draw_and_another_frame_buffer : traced 0 (codes "f") 0 0 ≡ Some (codes "deed 0 view 0 clear was 00000000 is 102030ff cleared\ndeed 2 view 1 was 102030ff is 0000ffff changed\ndeed 4 view 2 clear was 0000ffff is 0000ffff cleared\ndeed 5 view 2 encoder 0 item 2 triangle 0 color ffffffff depth 0 was 0000ffff is ffffffff stored\ndeed 6 view 2 encoder 0 item 3 triangle 0 color ffffffff depth 0 was ffffffff is ffffffff masked\n")
unfolding digits after_word after_resource after_encoder_line i32_number word_in hex_value hex_byte skip_piece attribute_piece part_field
a_clear_a_draw_and_another_frame_buffer = refl

an_update_before_and_a_blit : traced 0 (codes "f") 1 0 ≡ Some (codes "deed 2 view 1 was 01020304 is 0000ffff changed\ndeed 4 view 2 clear was 0000ffff is 0000ffff cleared\ndeed 5 view 2 encoder 0 item 2 triangle 0 color ffffffff depth 0 was 0000ffff is ffffffff stored\ndeed 6 view 2 encoder 0 item 3 triangle 0 color ffffffff depth 0 was ffffffff is ffffffff masked\ndeed 8 view 3 encoder 0 item 4 was ffffffff is aabbccdd changed\n")
unfolding digits after_word after_resource after_encoder_line i32_number word_in hex_value hex_byte skip_piece attribute_piece part_field
an_update_before_and_a_blit = refl

beside_the_rectangles : traced 0 (codes "f") 1 1 ≡ Some (codes "deed 4 view 2 clear was 00000000 is 00000000 cleared\ndeed 5 view 2 encoder 0 item 2 triangle 0 color ffffffff depth 0 was 00000000 is ffffffff stored\ndeed 6 view 2 encoder 0 item 3 triangle 0 color ffffffff depth 0 was ffffffff is ffffffff masked\n")
unfolding digits after_word after_resource after_encoder_line i32_number word_in hex_value hex_byte skip_piece attribute_piece part_field
beside_the_rectangles = refl

with_depths : traced 0 (codes "g") 0 0 ≡ Some (codes "deed 0 view 0 was 00000000 0 0 is 102030ff 0 0 changed\ndeed 2 view 1 clear was 102030ff 0 0 is 0000ffff 9 0 cleared\ndeed 5 view 2 encoder 0 item 2 was 0000ffff 9 0 is ffffffff 9 0 changed\n")
unfolding digits after_word after_resource after_encoder_line i32_number word_in hex_value hex_byte skip_piece attribute_piece part_field
with_depths = refl

with_depths_and_a_blit : traced 0 (codes "g") 1 0 ≡ Some (codes "deed 2 view 1 clear was 01020304 0 0 is 0000ffff 9 0 cleared\ndeed 5 view 2 encoder 0 item 2 was 0000ffff 9 0 is ffffffff 9 0 changed\ndeed 8 view 3 encoder 0 item 4 was ffffffff 9 0 is aabbccdd 9 0 changed\n")
unfolding digits after_word after_resource after_encoder_line i32_number word_in hex_value hex_byte skip_piece attribute_piece part_field
with_depths_and_a_blit = refl

drawn_on_by_the_other_alone : traced 0 (codes "g") 1 1 ≡ Some (codes "deed 5 view 2 encoder 0 item 2 was 00000000 0 0 is ffffffff 0 0 changed\n")
unfolding digits after_word after_resource after_encoder_line i32_number word_in hex_value hex_byte skip_piece attribute_piece part_field
drawn_on_by_the_other_alone = refl

destroyed_beside_the_frame : traced 1 (codes "f") 0 0 ≡ Some (codes "deed 0 view 0 clear was ffffffff is 102030ff cleared\n")
unfolding digits after_word after_resource after_encoder_line i32_number word_in hex_value hex_byte skip_piece attribute_piece part_field
destroyed_beside_the_frame = refl

of_the_next_frame : traced 1 (codes "g") 0 0 ≡ Some (codes "deed 0 view 0 was ffffffff 9 0 is 102030ff 9 0 changed\n")
unfolding digits after_word after_resource after_encoder_line i32_number word_in hex_value hex_byte skip_piece attribute_piece part_field
of_the_next_frame = refl

nothing_in_the_third_frame : traced 2 (codes "g") 0 0 ≡ Some []
unfolding digits after_word after_resource after_encoder_line i32_number word_in hex_value hex_byte skip_piece attribute_piece part_field
nothing_in_the_third_frame = refl

no_such_frame_buffer : traced 2 (codes "f") 0 0 ≡ None
unfolding digits after_word after_resource after_encoder_line i32_number word_in hex_value hex_byte skip_piece attribute_piece part_field
no_such_frame_buffer = refl

a_texture_is_none : traced 0 (codes "t") 0 0 ≡ None
unfolding digits after_word after_resource after_encoder_line i32_number word_in hex_value hex_byte skip_piece attribute_piece part_field
a_texture_is_none = refl

no_such_name : traced 0 (codes "x") 0 0 ≡ None
unfolding digits after_word after_resource after_encoder_line i32_number word_in hex_value hex_byte skip_piece attribute_piece part_field
no_such_name = refl

no_such_column : traced 0 (codes "f") 2 0 ≡ None
unfolding digits after_word after_resource after_encoder_line i32_number word_in hex_value hex_byte skip_piece attribute_piece part_field
no_such_column = refl

no_such_row : traced 0 (codes "f") 0 2 ≡ None
unfolding digits after_word after_resource after_encoder_line i32_number word_in hex_value hex_byte skip_piece attribute_piece part_field
no_such_row = refl

no_such_frame : traced 3 (codes "f") 0 0 ≡ None
unfolding digits after_word after_resource after_encoder_line i32_number word_in hex_value hex_byte skip_piece attribute_piece part_field
no_such_frame = refl
