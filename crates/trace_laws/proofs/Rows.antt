-- Worked rows by computation: the bytes of a scene, and the lines of a pixel's history.
use Rattle.std.specs.Prelude.{◌≡◌, ℕ, List, [], ◌∷◌, map, flat_map, take, Result, Ok, Err, refl, codes}
use Rattle.std.specs.Fmt.{digits}
use Rattle.gfx_model.specs.World.{World, first_world}
use Rattle.scene_model.specs.Scene.{Scene}
use Rattle.scene_model.specs.Field.{i32_number, word_in, hex_value, hex_byte, skip_piece, attribute_piece, part_field}
use Rattle.scene_model.specs.Fold.{FramePlan, plans}
use Rattle.scene_model.specs.Grammar.{Fault, scene_of, whole_language, after_word, after_resource, after_encoder_line}
use Rattle.scene_model.specs.Journal.{Journal, serial, frame_content}
use Rattle.trace_laws.specs.Text.{scene_pixel_lines}
use Rattle.trace_laws.specs.Deeds.{step_pictures}

-- the lines of a pixel of a frame, by the journal of the scene
abbrev traced_by : (Scene → Journal) → (k x y : ℕ) → Result Scene Fault → List ℕ
traced_by order k x y (Ok s) = scene_pixel_lines s (order s) k x y
traced_by order k x y (Err f) = codes "refused"

abbrev traced : (k x y : ℕ) → List ℕ → List ℕ
traced k x y text = traced_by serial k x y (scene_of whole_language text)

abbrev steps_after : World → List FramePlan → Journal → List (List ℕ)
steps_after w (p ∷ ps) (es ∷ j) = map (λ t. flat_map (take 3) t.texels) (step_pictures w (frame_content p es))
steps_after w _ _ = []

abbrev steps_in : Result Scene Fault → List (List ℕ)
steps_in (Ok s) = steps_after (first_world s.width s.height) (plans s) (serial s)
steps_in (Err f) = []

one_clear_one_touch : traced 0 1 1 (codes "scene 1\nsize 2 2\nencoders 1\nframe\nview 0 clear 1 ff0000ff 0 0\nencoder 0\ntouch 0\ndone\n")
    ≡ codes "deed 0 view 0 clear was 00000000 0 0 is ff0000ff 0 0 cleared\n"
unfolding digits after_word after_resource after_encoder_line i32_number word_in hex_value hex_byte skip_piece attribute_piece part_field
one_clear_one_touch = refl

one_clear_one_touch_steps : steps_in (scene_of whole_language (codes "scene 1\nsize 2 2\nencoders 1\nframe\nview 0 clear 1 ff0000ff 0 0\nencoder 0\ntouch 0\ndone\n"))
    ≡ (0 ∷ 0 ∷ 0 ∷ 0 ∷ 0 ∷ 0 ∷ 0 ∷ 0 ∷ 0 ∷ 0 ∷ 0 ∷ 0 ∷ []) ∷ (255 ∷ 0 ∷ 0 ∷ 255 ∷ 0 ∷ 0 ∷ 255 ∷ 0 ∷ 0 ∷ 255 ∷ 0 ∷ 0 ∷ []) ∷ (255 ∷ 0 ∷ 0 ∷ 255 ∷ 0 ∷ 0 ∷ 255 ∷ 0 ∷ 0 ∷ 255 ∷ 0 ∷ 0 ∷ []) ∷ []
unfolding digits after_word after_resource after_encoder_line i32_number word_in hex_value hex_byte skip_piece attribute_piece part_field
one_clear_one_touch_steps = refl

a_clear_within_a_rectangle : traced 0 1 0 (codes "scene 1\nsize 2 1\nencoders 1\nframe\nview 0 rect 1 0 1 1\nview 0 clear 1 00ff00ff 0 0\nencoder 0\ntouch 0\ndone\n")
    ≡ codes "deed 0 view 0 clear was 00000000 0 0 is 00ff00ff 0 0 cleared\n"
unfolding digits after_word after_resource after_encoder_line i32_number word_in hex_value hex_byte skip_piece attribute_piece part_field
a_clear_within_a_rectangle = refl

a_clear_within_a_rectangle_steps : steps_in (scene_of whole_language (codes "scene 1\nsize 2 1\nencoders 1\nframe\nview 0 rect 1 0 1 1\nview 0 clear 1 00ff00ff 0 0\nencoder 0\ntouch 0\ndone\n"))
    ≡ (0 ∷ 0 ∷ 0 ∷ 0 ∷ 0 ∷ 0 ∷ []) ∷ (0 ∷ 0 ∷ 0 ∷ 0 ∷ 255 ∷ 0 ∷ []) ∷ (0 ∷ 0 ∷ 0 ∷ 0 ∷ 255 ∷ 0 ∷ []) ∷ []
unfolding digits after_word after_resource after_encoder_line i32_number word_in hex_value hex_byte skip_piece attribute_piece part_field
a_clear_within_a_rectangle_steps = refl

a_diagonal_is_a_left_edge : traced 0 3 3 (codes "scene 1\nsize 4 4\nencoders 1\nframe\nlayout p position:fixed:2\nuniform u_color vec4\nprogram s solid\nencoder 0\nset u_color 4112 4112 4112 65536\ntvertices p 0000ffff000001000000010000000100000001000000ffff\nsubmit 0 s 0 255\ndone\n")
    ≡ codes "deed 0 view 0 clear was 00000000 0 0 is 00000000 0 0 cleared\ndeed 1 view 0 encoder 0 item 0 triangle 0 color 101010ff depth 0 was 00000000 0 0 is 101010ff 0 0 stored\n"
unfolding digits after_word after_resource after_encoder_line i32_number word_in hex_value hex_byte skip_piece attribute_piece part_field
a_diagonal_is_a_left_edge = refl

a_shared_edge_is_drawn_once : traced 0 3 3 (codes "scene 1\nsize 4 4\nencoders 1\nframe\nlayout p position:fixed:2\nuniform u_color vec4\nprogram s solid\nencoder 0\nstate 35790863\nset u_color 4112 4112 4112 65536\ntvertices p 0000ffff000001000000010000000100000001000000ffff0000ffff00000100000001000000ffff0000ffff0000ffff\nsubmit 0 s 0 255\ndone\n")
    ≡ codes "deed 0 view 0 clear was 00000000 0 0 is 00000000 0 0 cleared\ndeed 1 view 0 encoder 0 item 0 triangle 0 color 101010ff depth 0 was 00000000 0 0 is 101010ff 0 0 stored\n"
unfolding digits after_word after_resource after_encoder_line i32_number word_in hex_value hex_byte skip_piece attribute_piece part_field
a_shared_edge_is_drawn_once = refl

edges_through_the_centres_of_rows : traced 0 3 3 (codes "scene 1\nsize 4 4\nencoders 1\nframe\nlayout p position:fixed:2\nuniform u_color vec4\nprogram s solid\nencoder 0\nstate 35790863\nset u_color 4112 4112 4112 65536\ntvertices p 0000ffff00c000000000010000c000000000010000c0ffff0000ffff00c000000000010000c0ffff0000ffff00c0ffff\nsubmit 0 s 0 255\ndone\n")
    ≡ codes "deed 0 view 0 clear was 00000000 0 0 is 00000000 0 0 cleared\n"
unfolding digits after_word after_resource after_encoder_line i32_number word_in hex_value hex_byte skip_piece attribute_piece part_field
edges_through_the_centres_of_rows = refl

no_pixels_but_three_items : traced 0 0 0 (codes "scene 1\nsize 1 1\nencoders 1\nframe\nlayout p position:fixed:2\nuniform u_color vec4\nprogram s solid\nview 0 clear 1 0000ffff 0 0\nencoder 0\ntvertices p 0000ffff000001000000ffff000001000000ffff00000100\nsubmit 0 s 0 255\nstate 68719476751\ntvertices p 0000ffff0000010000000300000001000000ffff0000fdff\nsubmit 0 s 0 255\ntvertices p 000009000000010000000300000001000000ffff0000fdff\nsubmit 0 s 0 255\ndone\n")
    ≡ codes "deed 0 view 0 clear was 00000000 0 0 is 0000ffff 0 0 cleared\n"
unfolding digits after_word after_resource after_encoder_line i32_number word_in hex_value hex_byte skip_piece attribute_piece part_field
no_pixels_but_three_items = refl

no_pixels_but_three_items_steps : steps_in (scene_of whole_language (codes "scene 1\nsize 1 1\nencoders 1\nframe\nlayout p position:fixed:2\nuniform u_color vec4\nprogram s solid\nview 0 clear 1 0000ffff 0 0\nencoder 0\ntvertices p 0000ffff000001000000ffff000001000000ffff00000100\nsubmit 0 s 0 255\nstate 68719476751\ntvertices p 0000ffff0000010000000300000001000000ffff0000fdff\nsubmit 0 s 0 255\ntvertices p 000009000000010000000300000001000000ffff0000fdff\nsubmit 0 s 0 255\ndone\n"))
    ≡ (0 ∷ 0 ∷ 0 ∷ []) ∷ (0 ∷ 0 ∷ 255 ∷ []) ∷ (0 ∷ 0 ∷ 255 ∷ []) ∷ (0 ∷ 0 ∷ 255 ∷ []) ∷ (0 ∷ 0 ∷ 255 ∷ []) ∷ []
unfolding digits after_word after_resource after_encoder_line i32_number word_in hex_value hex_byte skip_piece attribute_piece part_field
no_pixels_but_three_items_steps = refl

opaque_before_blended : traced 0 0 0 (codes "scene 1\nsize 1 1\nencoders 1\nframe\nlayout p position:fixed:2\nuniform u_color vec4\nprogram s solid\nencoder 0\nstate 35790863\nset u_color 4112 4112 4112 65536\ntvertices p 0000ffff0000010000000300000001000000ffff0000fdff\nsubmit 0 s 0 255\nset u_color 8224 8224 8224 65536\ntvertices p 0000ffff0000010000000300000001000000ffff0000fdff\nsubmit 0 s 0 255\ndone\n")
    ≡ codes "deed 0 view 0 clear was 00000000 0 0 is 00000000 0 0 cleared\ndeed 1 view 0 encoder 0 item 1 triangle 0 color 202020ff depth 0 was 00000000 0 0 is 202020ff 0 0 stored\ndeed 2 view 0 encoder 0 item 0 triangle 0 color 101010ff depth 0 was 202020ff 0 0 is 303030ff 0 0 stored\n"
unfolding digits after_word after_resource after_encoder_line i32_number word_in hex_value hex_byte skip_piece attribute_piece part_field
opaque_before_blended = refl

opaque_before_blended_steps : steps_in (scene_of whole_language (codes "scene 1\nsize 1 1\nencoders 1\nframe\nlayout p position:fixed:2\nuniform u_color vec4\nprogram s solid\nencoder 0\nstate 35790863\nset u_color 4112 4112 4112 65536\ntvertices p 0000ffff0000010000000300000001000000ffff0000fdff\nsubmit 0 s 0 255\nset u_color 8224 8224 8224 65536\ntvertices p 0000ffff0000010000000300000001000000ffff0000fdff\nsubmit 0 s 0 255\ndone\n"))
    ≡ (0 ∷ 0 ∷ 0 ∷ []) ∷ (0 ∷ 0 ∷ 0 ∷ []) ∷ (32 ∷ 32 ∷ 32 ∷ []) ∷ (48 ∷ 48 ∷ 48 ∷ []) ∷ []
unfolding digits after_word after_resource after_encoder_line i32_number word_in hex_value hex_byte skip_piece attribute_piece part_field
opaque_before_blended_steps = refl

depth_modes : traced 0 0 0 (codes "scene 1\nsize 1 1\nencoders 1\nframe\nlayout p position:fixed:2\nuniform u_color vec4\nprogram s solid\nview 0 mode descending\nencoder 0\nset u_color 4112 4112 4112 65536\ntvertices p 0000ffff0000010000000300000001000000ffff0000fdff\nsubmit 0 s 0 255\nset u_color 8224 8224 8224 65536\ntvertices p 0000ffff0000010000000300000001000000ffff0000fdff\nsubmit 0 s 4294967295 255\ndone\n")
    ≡ codes "deed 0 view 0 clear was 00000000 0 0 is 00000000 0 0 cleared\ndeed 1 view 0 encoder 0 item 1 triangle 0 color 202020ff depth 0 was 00000000 0 0 is 202020ff 0 0 stored\ndeed 2 view 0 encoder 0 item 0 triangle 0 color 101010ff depth 0 was 202020ff 0 0 is 101010ff 0 0 stored\n"
unfolding digits after_word after_resource after_encoder_line i32_number word_in hex_value hex_byte skip_piece attribute_piece part_field
depth_modes = refl

depth_modes_steps : steps_in (scene_of whole_language (codes "scene 1\nsize 1 1\nencoders 1\nframe\nlayout p position:fixed:2\nuniform u_color vec4\nprogram s solid\nview 0 mode descending\nencoder 0\nset u_color 4112 4112 4112 65536\ntvertices p 0000ffff0000010000000300000001000000ffff0000fdff\nsubmit 0 s 0 255\nset u_color 8224 8224 8224 65536\ntvertices p 0000ffff0000010000000300000001000000ffff0000fdff\nsubmit 0 s 4294967295 255\ndone\n"))
    ≡ (0 ∷ 0 ∷ 0 ∷ []) ∷ (0 ∷ 0 ∷ 0 ∷ []) ∷ (32 ∷ 32 ∷ 32 ∷ []) ∷ (16 ∷ 16 ∷ 16 ∷ []) ∷ []
unfolding digits after_word after_resource after_encoder_line i32_number word_in hex_value hex_byte skip_piece attribute_piece part_field
depth_modes_steps = refl

equal_keys : traced 0 0 0 (codes "scene 1\nsize 1 1\nencoders 2\nframe\nlayout p position:fixed:2\nuniform u_color vec4\nprogram s solid\nencoder 0\nset u_color 4112 4112 4112 65536\ntvertices p 0000ffff0000010000000300000001000000ffff0000fdff\nsubmit 0 s 0 255\nencoder 1\nset u_color 8224 8224 8224 65536\ntvertices p 0000ffff0000010000000300000001000000ffff0000fdff\nsubmit 0 s 0 255\ndone\n")
    ≡ codes "deed 0 view 0 clear was 00000000 0 0 is 00000000 0 0 cleared\ndeed 1 view 0 encoder 0 item 0 triangle 0 color 101010ff depth 0 was 00000000 0 0 is 101010ff 0 0 stored\ndeed 2 view 0 encoder 1 item 0 triangle 0 color 202020ff depth 0 was 101010ff 0 0 is 202020ff 0 0 stored\n"
unfolding digits after_word after_resource after_encoder_line i32_number word_in hex_value hex_byte skip_piece attribute_piece part_field
equal_keys = refl

equal_keys_steps : steps_in (scene_of whole_language (codes "scene 1\nsize 1 1\nencoders 2\nframe\nlayout p position:fixed:2\nuniform u_color vec4\nprogram s solid\nencoder 0\nset u_color 4112 4112 4112 65536\ntvertices p 0000ffff0000010000000300000001000000ffff0000fdff\nsubmit 0 s 0 255\nencoder 1\nset u_color 8224 8224 8224 65536\ntvertices p 0000ffff0000010000000300000001000000ffff0000fdff\nsubmit 0 s 0 255\ndone\n"))
    ≡ (0 ∷ 0 ∷ 0 ∷ []) ∷ (0 ∷ 0 ∷ 0 ∷ []) ∷ (16 ∷ 16 ∷ 16 ∷ []) ∷ (32 ∷ 32 ∷ 32 ∷ []) ∷ []
unfolding digits after_word after_resource after_encoder_line i32_number word_in hex_value hex_byte skip_piece attribute_piece part_field
equal_keys_steps = refl

a_sequential_view : traced 0 1 0 (codes "scene 1\nsize 2 1\nencoders 2\nframe\nlayout p position:fixed:2\nuniform u_color vec4\nprogram s solid\nview 0 rect 0 0 1 1\nview 0 mode sequential\nview 1 rect 1 0 1 1\nencoder 0\nset u_color 8224 8224 8224 65536\ntvertices p 0000ffff0000010000000300000001000000ffff0000fdff\nsubmit 0 s 9 255\nset u_color 4112 4112 4112 65536\ntvertices p 0000ffff0000010000000300000001000000ffff0000fdff\nsubmit 0 s 1 255\nencoder 1\nset u_color 8224 8224 8224 65536\ntvertices p 0000ffff0000010000000300000001000000ffff0000fdff\nsubmit 1 s 0 255\ndone\n")
    ≡ codes "deed 3 view 1 clear was 00000000 0 0 is 00000000 0 0 cleared\ndeed 4 view 1 encoder 1 item 0 triangle 0 color 202020ff depth 0 was 00000000 0 0 is 202020ff 0 0 stored\n"
unfolding digits after_word after_resource after_encoder_line i32_number word_in hex_value hex_byte skip_piece attribute_piece part_field
a_sequential_view = refl

a_sequential_view_steps : steps_in (scene_of whole_language (codes "scene 1\nsize 2 1\nencoders 2\nframe\nlayout p position:fixed:2\nuniform u_color vec4\nprogram s solid\nview 0 rect 0 0 1 1\nview 0 mode sequential\nview 1 rect 1 0 1 1\nencoder 0\nset u_color 8224 8224 8224 65536\ntvertices p 0000ffff0000010000000300000001000000ffff0000fdff\nsubmit 0 s 9 255\nset u_color 4112 4112 4112 65536\ntvertices p 0000ffff0000010000000300000001000000ffff0000fdff\nsubmit 0 s 1 255\nencoder 1\nset u_color 8224 8224 8224 65536\ntvertices p 0000ffff0000010000000300000001000000ffff0000fdff\nsubmit 1 s 0 255\ndone\n"))
    ≡ (0 ∷ 0 ∷ 0 ∷ 0 ∷ 0 ∷ 0 ∷ []) ∷ (0 ∷ 0 ∷ 0 ∷ 0 ∷ 0 ∷ 0 ∷ []) ∷ (32 ∷ 32 ∷ 32 ∷ 0 ∷ 0 ∷ 0 ∷ []) ∷ (16 ∷ 16 ∷ 16 ∷ 0 ∷ 0 ∷ 0 ∷ []) ∷ (16 ∷ 16 ∷ 16 ∷ 0 ∷ 0 ∷ 0 ∷ []) ∷ (16 ∷ 16 ∷ 16 ∷ 32 ∷ 32 ∷ 32 ∷ []) ∷ []
unfolding digits after_word after_resource after_encoder_line i32_number word_in hex_value hex_byte skip_piece attribute_piece part_field
a_sequential_view_steps = refl

the_order_of_views : traced 0 0 0 (codes "scene 1\nsize 1 1\nencoders 1\nframe\nlayout p position:fixed:2\nuniform u_color vec4\nprogram s solid\ntexture c 1 1 rgba8 - fill:00000000\nfb t c -\nprogram x texture\nview 1 target t\norder 1 0\nencoder 0\nbind 0 c\ntvertices p 0000ffff0000010000000300000001000000ffff0000fdff\nsubmit 0 x 0 255\nset u_color 8224 8224 8224 65536\ntvertices p 0000ffff0000010000000300000001000000ffff0000fdff\nsubmit 1 s 0 255\ndone\n")
    ≡ codes "deed 2 view 0 clear was 00000000 0 0 is 00000000 0 0 cleared\ndeed 3 view 0 encoder 0 item 0 triangle 0 color 202020ff depth 0 was 00000000 0 0 is 202020ff 0 0 stored\n"
unfolding digits after_word after_resource after_encoder_line i32_number word_in hex_value hex_byte skip_piece attribute_piece part_field
the_order_of_views = refl

the_order_of_views_steps : steps_in (scene_of whole_language (codes "scene 1\nsize 1 1\nencoders 1\nframe\nlayout p position:fixed:2\nuniform u_color vec4\nprogram s solid\ntexture c 1 1 rgba8 - fill:00000000\nfb t c -\nprogram x texture\nview 1 target t\norder 1 0\nencoder 0\nbind 0 c\ntvertices p 0000ffff0000010000000300000001000000ffff0000fdff\nsubmit 0 x 0 255\nset u_color 8224 8224 8224 65536\ntvertices p 0000ffff0000010000000300000001000000ffff0000fdff\nsubmit 1 s 0 255\ndone\n"))
    ≡ (0 ∷ 0 ∷ 0 ∷ []) ∷ (0 ∷ 0 ∷ 0 ∷ []) ∷ (0 ∷ 0 ∷ 0 ∷ []) ∷ (0 ∷ 0 ∷ 0 ∷ []) ∷ (32 ∷ 32 ∷ 32 ∷ []) ∷ []
unfolding digits after_word after_resource after_encoder_line i32_number word_in hex_value hex_byte skip_piece attribute_piece part_field
the_order_of_views_steps = refl

a_sample_of_the_view_s_own_target : traced 0 0 0 (codes "scene 1\nsize 1 1\nencoders 1\nframe\nlayout p position:fixed:2\nuniform u_color vec4\nprogram s solid\ntexture c 1 1 rgba8 - fill:202020ff\nfb t c -\nprogram x texture\nview 0 target t\nview 1 clear 1 ffffffff 0 0\nencoder 0\nbind 0 c\ntvertices p 0000ffff0000010000000300000001000000ffff0000fdff\nsubmit 0 x 0 255\nbind 0 c\ntvertices p 0000ffff0000010000000300000001000000ffff0000fdff\nsubmit 1 x 0 255\ndone\n")
    ≡ codes "deed 2 view 1 clear was 00000000 0 0 is ffffffff 0 0 cleared\ndeed 3 view 1 encoder 0 item 1 triangle 0 color 00000000 depth 0 was ffffffff 0 0 is 00000000 0 0 stored\n"
unfolding digits after_word after_resource after_encoder_line i32_number word_in hex_value hex_byte skip_piece attribute_piece part_field
a_sample_of_the_view_s_own_target = refl

a_sample_of_the_view_s_own_target_steps : steps_in (scene_of whole_language (codes "scene 1\nsize 1 1\nencoders 1\nframe\nlayout p position:fixed:2\nuniform u_color vec4\nprogram s solid\ntexture c 1 1 rgba8 - fill:202020ff\nfb t c -\nprogram x texture\nview 0 target t\nview 1 clear 1 ffffffff 0 0\nencoder 0\nbind 0 c\ntvertices p 0000ffff0000010000000300000001000000ffff0000fdff\nsubmit 0 x 0 255\nbind 0 c\ntvertices p 0000ffff0000010000000300000001000000ffff0000fdff\nsubmit 1 x 0 255\ndone\n"))
    ≡ (0 ∷ 0 ∷ 0 ∷ []) ∷ (0 ∷ 0 ∷ 0 ∷ []) ∷ (0 ∷ 0 ∷ 0 ∷ []) ∷ (255 ∷ 255 ∷ 255 ∷ []) ∷ (0 ∷ 0 ∷ 0 ∷ []) ∷ []
unfolding digits after_word after_resource after_encoder_line i32_number word_in hex_value hex_byte skip_piece attribute_piece part_field
a_sample_of_the_view_s_own_target_steps = refl

destroyed_beside_the_encoders : traced 0 0 0 (codes "scene 1\nsize 1 1\nencoders 1\nframe\nlayout p position:fixed:2\ntexture c 1 1 rgba8 - fill:202020ff\nprogram x texture\nencoder 0\nbind 0 c\ntvertices p 0000ffff0000010000000300000001000000ffff0000fdff\nsubmit 0 x 0 255\nbeside\ndestroy c\nframe\nencoder 0\nbind 0 c\ntvertices p 0000ffff0000010000000300000001000000ffff0000fdff\nsubmit 0 x 0 255\ndone\n")
    ≡ codes "deed 0 view 0 clear was 00000000 0 0 is 00000000 0 0 cleared\ndeed 1 view 0 encoder 0 item 0 triangle 0 color 202020ff depth 0 was 00000000 0 0 is 202020ff 0 0 stored\n"
unfolding digits after_word after_resource after_encoder_line i32_number word_in hex_value hex_byte skip_piece attribute_piece part_field
destroyed_beside_the_encoders = refl

destroyed_beside_the_encoders_steps : steps_in (scene_of whole_language (codes "scene 1\nsize 1 1\nencoders 1\nframe\nlayout p position:fixed:2\ntexture c 1 1 rgba8 - fill:202020ff\nprogram x texture\nencoder 0\nbind 0 c\ntvertices p 0000ffff0000010000000300000001000000ffff0000fdff\nsubmit 0 x 0 255\nbeside\ndestroy c\nframe\nencoder 0\nbind 0 c\ntvertices p 0000ffff0000010000000300000001000000ffff0000fdff\nsubmit 0 x 0 255\ndone\n"))
    ≡ (0 ∷ 0 ∷ 0 ∷ []) ∷ (0 ∷ 0 ∷ 0 ∷ []) ∷ (32 ∷ 32 ∷ 32 ∷ []) ∷ []
unfolding digits after_word after_resource after_encoder_line i32_number word_in hex_value hex_byte skip_piece attribute_piece part_field
destroyed_beside_the_encoders_steps = refl

destroyed_beside_the_encoders_frame_1 : traced 1 0 0 (codes "scene 1\nsize 1 1\nencoders 1\nframe\nlayout p position:fixed:2\ntexture c 1 1 rgba8 - fill:202020ff\nprogram x texture\nencoder 0\nbind 0 c\ntvertices p 0000ffff0000010000000300000001000000ffff0000fdff\nsubmit 0 x 0 255\nbeside\ndestroy c\nframe\nencoder 0\nbind 0 c\ntvertices p 0000ffff0000010000000300000001000000ffff0000fdff\nsubmit 0 x 0 255\ndone\n")
    ≡ codes "deed 0 view 0 clear was 202020ff 0 0 is 202020ff 0 0 cleared\ndeed 1 view 0 encoder 0 item 0 triangle 0 color 00000000 depth 0 was 202020ff 0 0 is 00000000 0 0 stored\n"
unfolding digits after_word after_resource after_encoder_line i32_number word_in hex_value hex_byte skip_piece attribute_piece part_field
destroyed_beside_the_encoders_frame_1 = refl

updates : traced 0 0 0 (codes "scene 1\nsize 1 1\nencoders 1\nframe\nlayout p position:fixed:2\nuniform u_color vec4\nprogram s solid\nvb v p 0000ffff000001000000ffff000001000000ffff00000100\nupdate v 8 00000300000001000000ffff0000fdff\nencoder 0\nset u_color 8224 8224 8224 65536\nvertices v 0 3\nsubmit 0 s 0 255\ndone\n")
    ≡ codes "deed 0 view 0 clear was 00000000 0 0 is 00000000 0 0 cleared\ndeed 1 view 0 encoder 0 item 0 triangle 0 color 202020ff depth 0 was 00000000 0 0 is 202020ff 0 0 stored\n"
unfolding digits after_word after_resource after_encoder_line i32_number word_in hex_value hex_byte skip_piece attribute_piece part_field
updates = refl

updates_steps : steps_in (scene_of whole_language (codes "scene 1\nsize 1 1\nencoders 1\nframe\nlayout p position:fixed:2\nuniform u_color vec4\nprogram s solid\nvb v p 0000ffff000001000000ffff000001000000ffff00000100\nupdate v 8 00000300000001000000ffff0000fdff\nencoder 0\nset u_color 8224 8224 8224 65536\nvertices v 0 3\nsubmit 0 s 0 255\ndone\n"))
    ≡ (0 ∷ 0 ∷ 0 ∷ []) ∷ (0 ∷ 0 ∷ 0 ∷ []) ∷ (32 ∷ 32 ∷ 32 ∷ []) ∷ []
unfolding digits after_word after_resource after_encoder_line i32_number word_in hex_value hex_byte skip_piece attribute_piece part_field
updates_steps = refl

a_blit_over_itself : traced 0 2 0 (codes "scene 1\nsize 3 1\nencoders 1\nframe\nlayout g position:fixed:2 texcoord0:fixed:2\nprogram x texture\ntexture a 3 1 rgba8 dst hex:101010ff202020ff303030ff\nencoder 0\nblit 0 a 1 0 a 0 0 9 5\nbind 0 a\ntvertices g 0000ffff000001000000000000000000000003000000010000000200000000000000ffff0000fdff0000000000000200\nsubmit 0 x 0 255\ndone\n")
    ≡ codes "deed 0 view 0 clear was 00000000 0 0 is 00000000 0 0 cleared\ndeed 2 view 0 encoder 0 item 1 triangle 0 color 202020ff depth 0 was 00000000 0 0 is 202020ff 0 0 stored\n"
unfolding digits after_word after_resource after_encoder_line i32_number word_in hex_value hex_byte skip_piece attribute_piece part_field
a_blit_over_itself = refl

a_blit_over_itself_steps : steps_in (scene_of whole_language (codes "scene 1\nsize 3 1\nencoders 1\nframe\nlayout g position:fixed:2 texcoord0:fixed:2\nprogram x texture\ntexture a 3 1 rgba8 dst hex:101010ff202020ff303030ff\nencoder 0\nblit 0 a 1 0 a 0 0 9 5\nbind 0 a\ntvertices g 0000ffff000001000000000000000000000003000000010000000200000000000000ffff0000fdff0000000000000200\nsubmit 0 x 0 255\ndone\n"))
    ≡ (0 ∷ 0 ∷ 0 ∷ 0 ∷ 0 ∷ 0 ∷ 0 ∷ 0 ∷ 0 ∷ []) ∷ (0 ∷ 0 ∷ 0 ∷ 0 ∷ 0 ∷ 0 ∷ 0 ∷ 0 ∷ 0 ∷ []) ∷ (0 ∷ 0 ∷ 0 ∷ 0 ∷ 0 ∷ 0 ∷ 0 ∷ 0 ∷ 0 ∷ []) ∷ (16 ∷ 16 ∷ 16 ∷ 16 ∷ 16 ∷ 16 ∷ 32 ∷ 32 ∷ 32 ∷ []) ∷ []
unfolding digits after_word after_resource after_encoder_line i32_number word_in hex_value hex_byte skip_piece attribute_piece part_field
a_blit_over_itself_steps = refl

stencil_saturating_and_wrapping : traced 0 1 0 (codes "scene 1\nsize 2 1\nencoders 1\nframe\nlayout p position:fixed:2\nuniform u_color vec4\nprogram s solid\nview 0 clear 4 00000000 0 255\nencoder 0\nstate 127\nstencil 337182464 0\nscissor 0 0 1 1\ntvertices p 0000ffff0000010000000300000001000000ffff0000fdff\nsubmit 0 s 0 255\nstate 127\nstencil 320405248 0\nscissor 1 0 1 1\ntvertices p 0000ffff0000010000000300000001000000ffff0000fdff\nsubmit 0 s 1 255\nstencil 286523391 0\nset u_color 8224 8224 8224 65536\ntvertices p 0000ffff0000010000000300000001000000ffff0000fdff\nsubmit 0 s 2 255\ndone\n")
    ≡ codes "deed 0 view 0 clear was 00000000 0 0 is 00000000 0 255 cleared\ndeed 2 view 0 encoder 0 item 1 triangle 0 color 00000000 depth 0 was 00000000 0 255 is 00000000 0 0 depth\ndeed 3 view 0 encoder 0 item 2 triangle 0 color 202020ff depth 0 was 00000000 0 0 is 00000000 0 0 stencil\n"
unfolding digits after_word after_resource after_encoder_line i32_number word_in hex_value hex_byte skip_piece attribute_piece part_field
stencil_saturating_and_wrapping = refl

stencil_saturating_and_wrapping_steps : steps_in (scene_of whole_language (codes "scene 1\nsize 2 1\nencoders 1\nframe\nlayout p position:fixed:2\nuniform u_color vec4\nprogram s solid\nview 0 clear 4 00000000 0 255\nencoder 0\nstate 127\nstencil 337182464 0\nscissor 0 0 1 1\ntvertices p 0000ffff0000010000000300000001000000ffff0000fdff\nsubmit 0 s 0 255\nstate 127\nstencil 320405248 0\nscissor 1 0 1 1\ntvertices p 0000ffff0000010000000300000001000000ffff0000fdff\nsubmit 0 s 1 255\nstencil 286523391 0\nset u_color 8224 8224 8224 65536\ntvertices p 0000ffff0000010000000300000001000000ffff0000fdff\nsubmit 0 s 2 255\ndone\n"))
    ≡ (0 ∷ 0 ∷ 0 ∷ 0 ∷ 0 ∷ 0 ∷ []) ∷ (0 ∷ 0 ∷ 0 ∷ 0 ∷ 0 ∷ 0 ∷ []) ∷ (0 ∷ 0 ∷ 0 ∷ 0 ∷ 0 ∷ 0 ∷ []) ∷ (0 ∷ 0 ∷ 0 ∷ 0 ∷ 0 ∷ 0 ∷ []) ∷ (32 ∷ 32 ∷ 32 ∷ 0 ∷ 0 ∷ 0 ∷ []) ∷ []
unfolding digits after_word after_resource after_encoder_line i32_number word_in hex_value hex_byte skip_piece attribute_piece part_field
stencil_saturating_and_wrapping_steps = refl

blending_a_vertex_colour : traced 0 0 0 (codes "scene 1\nsize 1 1\nencoders 1\nframe\nlayout k position:fixed:2 color0:u8:4\nprogram c color\nview 0 clear 1 202020ff 0 0\nencoder 0\nstate 106319887\ntvertices k 0000ffff00000100ffffff800000030000000100ffffff800000ffff0000fdffffffff80\nsubmit 0 c 0 255\ndone\n")
    ≡ codes "deed 0 view 0 clear was 00000000 0 0 is 202020ff 0 0 cleared\ndeed 1 view 0 encoder 0 item 0 triangle 0 color ffffff80 depth 0 was 202020ff 0 0 is 909090bf 0 0 stored\n"
unfolding digits after_word after_resource after_encoder_line i32_number word_in hex_value hex_byte skip_piece attribute_piece part_field
blending_a_vertex_colour = refl

blending_a_vertex_colour_steps : steps_in (scene_of whole_language (codes "scene 1\nsize 1 1\nencoders 1\nframe\nlayout k position:fixed:2 color0:u8:4\nprogram c color\nview 0 clear 1 202020ff 0 0\nencoder 0\nstate 106319887\ntvertices k 0000ffff00000100ffffff800000030000000100ffffff800000ffff0000fdffffffff80\nsubmit 0 c 0 255\ndone\n"))
    ≡ (0 ∷ 0 ∷ 0 ∷ []) ∷ (32 ∷ 32 ∷ 32 ∷ []) ∷ (144 ∷ 144 ∷ 144 ∷ []) ∷ []
unfolding digits after_word after_resource after_encoder_line i32_number word_in hex_value hex_byte skip_piece attribute_piece part_field
blending_a_vertex_colour_steps = refl

a_uniform_value_stays : traced 0 1 0 (codes "scene 1\nsize 2 1\nencoders 1\nframe\nlayout p position:fixed:2\nuniform u_color vec4\nprogram s solid\nencoder 0\nset u_color 8224 8224 8224 65536\nscissor 0 0 1 1\ntvertices p 0000ffff0000010000000300000001000000ffff0000fdff\nsubmit 0 s 0 255\nscissor 1 0 1 1\ntvertices p 0000ffff0000010000000300000001000000ffff0000fdff\nsubmit 0 s 1 255\ndone\n")
    ≡ codes "deed 0 view 0 clear was 00000000 0 0 is 00000000 0 0 cleared\ndeed 2 view 0 encoder 0 item 1 triangle 0 color 202020ff depth 0 was 00000000 0 0 is 202020ff 0 0 stored\n"
unfolding digits after_word after_resource after_encoder_line i32_number word_in hex_value hex_byte skip_piece attribute_piece part_field
a_uniform_value_stays = refl

a_uniform_value_stays_steps : steps_in (scene_of whole_language (codes "scene 1\nsize 2 1\nencoders 1\nframe\nlayout p position:fixed:2\nuniform u_color vec4\nprogram s solid\nencoder 0\nset u_color 8224 8224 8224 65536\nscissor 0 0 1 1\ntvertices p 0000ffff0000010000000300000001000000ffff0000fdff\nsubmit 0 s 0 255\nscissor 1 0 1 1\ntvertices p 0000ffff0000010000000300000001000000ffff0000fdff\nsubmit 0 s 1 255\ndone\n"))
    ≡ (0 ∷ 0 ∷ 0 ∷ 0 ∷ 0 ∷ 0 ∷ []) ∷ (0 ∷ 0 ∷ 0 ∷ 0 ∷ 0 ∷ 0 ∷ []) ∷ (32 ∷ 32 ∷ 32 ∷ 0 ∷ 0 ∷ 0 ∷ []) ∷ (32 ∷ 32 ∷ 32 ∷ 32 ∷ 32 ∷ 32 ∷ []) ∷ []
unfolding digits after_word after_resource after_encoder_line i32_number word_in hex_value hex_byte skip_piece attribute_piece part_field
a_uniform_value_stays_steps = refl

two_triangles_of_a_draw : traced 0 0 0 (codes "scene 1\nsize 1 1\nencoders 1\nframe\nlayout p position:fixed:3\nuniform u_color vec4\nprogram s solid\nview 0 clear 7 0000ffff 8388607 5\nencoder 0\nstate 274877906975\nset u_color 4112 4112 4112 65536\ntvertices p 0000ffff00000100000000000000030000000100000000000000ffff0000fdff000000000000ffff00000100000001000000030000000100000001000000ffff0000fdff00000100\nsubmit 0 s 0 255\ndone\n")
    ≡ codes "deed 0 view 0 clear was 00000000 0 0 is 0000ffff 8388607 5 cleared\ndeed 1 view 0 encoder 0 item 0 triangle 0 color 101010ff depth 0 was 0000ffff 8388607 5 is 101010ff 0 5 stored\ndeed 1 view 0 encoder 0 item 0 triangle 1 color 101010ff depth 16777215 was 101010ff 0 5 is 101010ff 0 5 depth\n"
unfolding digits after_word after_resource after_encoder_line i32_number word_in hex_value hex_byte skip_piece attribute_piece part_field
two_triangles_of_a_draw = refl

two_triangles_of_a_draw_steps : steps_in (scene_of whole_language (codes "scene 1\nsize 1 1\nencoders 1\nframe\nlayout p position:fixed:3\nuniform u_color vec4\nprogram s solid\nview 0 clear 7 0000ffff 8388607 5\nencoder 0\nstate 274877906975\nset u_color 4112 4112 4112 65536\ntvertices p 0000ffff00000100000000000000030000000100000000000000ffff0000fdff000000000000ffff00000100000001000000030000000100000001000000ffff0000fdff00000100\nsubmit 0 s 0 255\ndone\n"))
    ≡ (0 ∷ 0 ∷ 0 ∷ []) ∷ (0 ∷ 0 ∷ 255 ∷ []) ∷ (16 ∷ 16 ∷ 16 ∷ []) ∷ []
unfolding digits after_word after_resource after_encoder_line i32_number word_in hex_value hex_byte skip_piece attribute_piece part_field
two_triangles_of_a_draw_steps = refl

depth_stops_and_counts : traced 0 0 0 (codes "scene 1\nsize 1 1\nencoders 1\nframe\nlayout p position:fixed:3\nuniform u_color vec4\nprogram s solid\nview 0 clear 7 0000ffff 8388607 5\nencoder 0\nstate 274877906975\nstencil 336854789 0\ntvertices p 0000ffff00000100000001000000030000000100000001000000ffff0000fdff00000100\nsubmit 0 s 0 255\ndone\n")
    ≡ codes "deed 0 view 0 clear was 00000000 0 0 is 0000ffff 8388607 5 cleared\ndeed 1 view 0 encoder 0 item 0 triangle 0 color 00000000 depth 16777215 was 0000ffff 8388607 5 is 0000ffff 8388607 6 depth\n"
unfolding digits after_word after_resource after_encoder_line i32_number word_in hex_value hex_byte skip_piece attribute_piece part_field
depth_stops_and_counts = refl

depth_stops_and_counts_steps : steps_in (scene_of whole_language (codes "scene 1\nsize 1 1\nencoders 1\nframe\nlayout p position:fixed:3\nuniform u_color vec4\nprogram s solid\nview 0 clear 7 0000ffff 8388607 5\nencoder 0\nstate 274877906975\nstencil 336854789 0\ntvertices p 0000ffff00000100000001000000030000000100000001000000ffff0000fdff00000100\nsubmit 0 s 0 255\ndone\n"))
    ≡ (0 ∷ 0 ∷ 0 ∷ []) ∷ (0 ∷ 0 ∷ 255 ∷ []) ∷ (0 ∷ 0 ∷ 255 ∷ []) ∷ []
unfolding digits after_word after_resource after_encoder_line i32_number word_in hex_value hex_byte skip_piece attribute_piece part_field
depth_stops_and_counts_steps = refl

stencil_stops_and_inverts : traced 0 0 0 (codes "scene 1\nsize 1 1\nencoders 1\nframe\nlayout p position:fixed:3\nuniform u_color vec4\nprogram s solid\nview 0 clear 7 0000ffff 8388607 5\nencoder 0\nstate 274877906975\nstencil 292814598 0\ntvertices p 0000ffff00000100000000000000030000000100000000000000ffff0000fdff00000000\nsubmit 0 s 0 255\ndone\n")
    ≡ codes "deed 0 view 0 clear was 00000000 0 0 is 0000ffff 8388607 5 cleared\ndeed 1 view 0 encoder 0 item 0 triangle 0 color 00000000 depth 0 was 0000ffff 8388607 5 is 0000ffff 8388607 250 stencil\n"
unfolding digits after_word after_resource after_encoder_line i32_number word_in hex_value hex_byte skip_piece attribute_piece part_field
stencil_stops_and_inverts = refl

stencil_stops_and_inverts_steps : steps_in (scene_of whole_language (codes "scene 1\nsize 1 1\nencoders 1\nframe\nlayout p position:fixed:3\nuniform u_color vec4\nprogram s solid\nview 0 clear 7 0000ffff 8388607 5\nencoder 0\nstate 274877906975\nstencil 292814598 0\ntvertices p 0000ffff00000100000000000000030000000100000000000000ffff0000fdff00000000\nsubmit 0 s 0 255\ndone\n"))
    ≡ (0 ∷ 0 ∷ 0 ∷ []) ∷ (0 ∷ 0 ∷ 255 ∷ []) ∷ (0 ∷ 0 ∷ 255 ∷ []) ∷ []
unfolding digits after_word after_resource after_encoder_line i32_number word_in hex_value hex_byte skip_piece attribute_piece part_field
stencil_stops_and_inverts_steps = refl

masked_replaces_the_stencil : traced 0 0 0 (codes "scene 1\nsize 1 1\nencoders 1\nframe\nlayout p position:fixed:3\nuniform u_color vec4\nprogram s solid\nview 0 clear 7 0000ffff 8388607 5\nencoder 0\nstate 274877906960\nstencil 555286281 0\ntvertices p 0000ffff00000100000000000000030000000100000000000000ffff0000fdff00000000\nsubmit 0 s 0 255\ndone\n")
    ≡ codes "deed 0 view 0 clear was 00000000 0 0 is 0000ffff 8388607 5 cleared\ndeed 1 view 0 encoder 0 item 0 triangle 0 color 00000000 depth 0 was 0000ffff 8388607 5 is 0000ffff 0 9 masked\n"
unfolding digits after_word after_resource after_encoder_line i32_number word_in hex_value hex_byte skip_piece attribute_piece part_field
masked_replaces_the_stencil = refl

masked_replaces_the_stencil_steps : steps_in (scene_of whole_language (codes "scene 1\nsize 1 1\nencoders 1\nframe\nlayout p position:fixed:3\nuniform u_color vec4\nprogram s solid\nview 0 clear 7 0000ffff 8388607 5\nencoder 0\nstate 274877906960\nstencil 555286281 0\ntvertices p 0000ffff00000100000000000000030000000100000000000000ffff0000fdff00000000\nsubmit 0 s 0 255\ndone\n"))
    ≡ (0 ∷ 0 ∷ 0 ∷ []) ∷ (0 ∷ 0 ∷ 255 ∷ []) ∷ (0 ∷ 0 ∷ 255 ∷ []) ∷ []
unfolding digits after_word after_resource after_encoder_line i32_number word_in hex_value hex_byte skip_piece attribute_piece part_field
masked_replaces_the_stencil_steps = refl

culled_is_not_counted : traced 0 0 0 (codes "scene 1\nsize 1 1\nencoders 1\nframe\nlayout p position:fixed:3\nuniform u_color vec4\nprogram s solid\nencoder 0\nstate 68719476751\ntvertices p 0000ffff00000100000000000000030000000100000000000000ffff0000fdff000000000000ffff00000100000001000000030000000100000001000000ffff0000fdff00000100\nsubmit 0 s 0 255\ndone\n")
    ≡ codes "deed 0 view 0 clear was 00000000 0 0 is 00000000 0 0 cleared\n"
unfolding digits after_word after_resource after_encoder_line i32_number word_in hex_value hex_byte skip_piece attribute_piece part_field
culled_is_not_counted = refl

culled_is_not_counted_steps : steps_in (scene_of whole_language (codes "scene 1\nsize 1 1\nencoders 1\nframe\nlayout p position:fixed:3\nuniform u_color vec4\nprogram s solid\nencoder 0\nstate 68719476751\ntvertices p 0000ffff00000100000000000000030000000100000000000000ffff0000fdff000000000000ffff00000100000001000000030000000100000001000000ffff0000fdff00000100\nsubmit 0 s 0 255\ndone\n"))
    ≡ (0 ∷ 0 ∷ 0 ∷ []) ∷ (0 ∷ 0 ∷ 0 ∷ []) ∷ (0 ∷ 0 ∷ 0 ∷ []) ∷ []
unfolding digits after_word after_resource after_encoder_line i32_number word_in hex_value hex_byte skip_piece attribute_piece part_field
culled_is_not_counted_steps = refl
