-- Worked rows by computation: the bytes of a scene, and the status, pictures and notes of a run.
use Rattle.std.specs.Prelude.{◌≡◌, ℕ, true, false, List, [], ◌∷◌, ◌++◌, refl, codes}
use Rattle.std.specs.Fmt.{digits}
use Rattle.scene_model.specs.Scene.{Scene}
use Rattle.scene_model.specs.Field.{i32_number, word_in, hex_value, hex_byte, skip_piece, attribute_piece, part_field}
use Rattle.scene_model.specs.Grammar.{after_word, after_resource, after_encoder_line}
use Rattle.scene_model.specs.Journal.{Entry, Journal, serial}
use Rattle.scene_model.specs.Run.{Run, status_number, played, replayed}

-- what a run shows: its status's number, its pictures and its notes
record Told : Type 0 where
  status : ℕ
  pictures : List ℕ
  noted : List ℕ

abbrev told : Run → Told
told r = record { status = status_number r.ending; pictures = r.pictures; noted = r.noted }

-- numbers drawn in the order of a journal
abbrev by : Journal → Scene → Journal
by j s = j

abbrev entry : ℕ → ℕ → Entry
entry e o = record { encoder = e; ordinal = o }

abbrev run : ℕ → (pictures noted : List ℕ) → Told
run status pictures noted = record { status = status; pictures = pictures; noted = noted }

blended_vertex_colour : told (played false serial (codes "scene 1\nsize 1 1\nencoders 1\nframe\nlayout k position:fixed:2 color0:u8:4\nprogram c color\nview 0 clear 1 202020ff 0 0\nencoder 0\nstate 106319887\ntvertices k 0000ffff00000100ffffff800000030000000100ffffff800000ffff0000fdffffffff80\nsubmit 0 c 0 255\ndone\n"))
    ≡ run 0 (codes "P6\n1 1\n255\n" ++ (144 ∷ 144 ∷ 144 ∷ [])) (codes "frame 0 items 1 dropped 0\n")
unfolding digits after_word after_resource after_encoder_line i32_number word_in hex_value hex_byte skip_piece attribute_piece part_field
blended_vertex_colour = refl

blit_over_itself : told (played false serial (codes "scene 1\nsize 3 1\nencoders 1\nframe\nlayout g position:fixed:2 texcoord0:fixed:2\nprogram x texture\ntexture a 3 1 rgba8 dst hex:101010ff202020ff303030ff\nencoder 0\nblit 0 a 1 0 a 0 0 9 5\nbind 0 a\ntvertices g 0000ffff000001000000000000000000000003000000010000000200000000000000ffff0000fdff0000000000000200\nsubmit 0 x 0 255\ndone\n"))
    ≡ run 0 (codes "P6\n3 1\n255\n" ++ (16 ∷ 16 ∷ 16 ∷ 16 ∷ 16 ∷ 16 ∷ 32 ∷ 32 ∷ 32 ∷ [])) (codes "frame 0 items 2 dropped 0\n")
unfolding digits after_word after_resource after_encoder_line i32_number word_in hex_value hex_byte skip_piece attribute_piece part_field
blit_over_itself = refl

blit_to_no_destination : told (played false serial (codes "scene 1\nsize 1 1\nencoders 1\nframe\ntexture c 1 1 rgba8 - fill:202020ff\ntexture e 1 1 rgba8 - fill:00000000\nencoder 0\nblit 0 e 0 0 c 0 0 1 1\ndone\n"))
    ≡ run 0 (codes "P6\n1 1\n255\n" ++ (0 ∷ 0 ∷ 0 ∷ [])) (codes "frame 0 items 0 dropped 1\n")
unfolding digits after_word after_resource after_encoder_line i32_number word_in hex_value hex_byte skip_piece attribute_piece part_field
blit_to_no_destination = refl

buffer_update : told (played false serial (codes "scene 1\nsize 1 1\nencoders 1\nframe\nlayout p position:fixed:2\nuniform u_color vec4\nprogram s solid\nvb v p 0000ffff000001000000ffff000001000000ffff00000100\nupdate v 8 00000300000001000000ffff0000fdff\nencoder 0\nset u_color 8224 8224 8224 65536\nvertices v 0 3\nsubmit 0 s 0 255\ndone\n"))
    ≡ run 0 (codes "P6\n1 1\n255\n" ++ (32 ∷ 32 ∷ 32 ∷ [])) (codes "frame 0 items 1 dropped 0\n")
unfolding digits after_word after_resource after_encoder_line i32_number word_in hex_value hex_byte skip_piece attribute_piece part_field
buffer_update = refl

buffer_update_past_the_end : told (played false serial (codes "scene 1\nsize 1 1\nencoders 1\nframe\nlayout p position:fixed:2\nuniform u_color vec4\nprogram s solid\nvb v p 0000ffff000001000000ffff000001000000ffff00000100\nupdate v 9 00000300000001000000ffff0000fdff\nencoder 0\nset u_color 8224 8224 8224 65536\nvertices v 0 3\nsubmit 0 s 0 255\ndone\n"))
    ≡ run 0 (codes "P6\n1 1\n255\n" ++ (0 ∷ 0 ∷ 0 ∷ [])) (codes "frame 0 items 1 dropped 1\n")
unfolding digits after_word after_resource after_encoder_line i32_number word_in hex_value hex_byte skip_piece attribute_piece part_field
buffer_update_past_the_end = refl

clear_one_touch : told (played false serial (codes "scene 1\nsize 2 2\nencoders 1\nframe\nview 0 clear 1 ff0000ff 0 0\nencoder 0\ntouch 0\ndone\n"))
    ≡ run 0 (codes "P6\n2 2\n255\n" ++ (255 ∷ 0 ∷ 0 ∷ 255 ∷ 0 ∷ 0 ∷ 255 ∷ 0 ∷ 0 ∷ 255 ∷ 0 ∷ 0 ∷ [])) (codes "frame 0 items 1 dropped 0\n")
unfolding digits after_word after_resource after_encoder_line i32_number word_in hex_value hex_byte skip_piece attribute_piece part_field
clear_one_touch = refl

clear_within_a_rectangle : told (played false serial (codes "scene 1\nsize 2 1\nencoders 1\nframe\nview 0 rect 1 0 1 1\nview 0 clear 1 00ff00ff 0 0\nencoder 0\ntouch 0\ndone\n"))
    ≡ run 0 (codes "P6\n2 1\n255\n" ++ (0 ∷ 0 ∷ 0 ∷ 0 ∷ 255 ∷ 0 ∷ [])) (codes "frame 0 items 1 dropped 0\n")
unfolding digits after_word after_resource after_encoder_line i32_number word_in hex_value hex_byte skip_piece attribute_piece part_field
clear_within_a_rectangle = refl

depth_ascending_mode : told (played false serial (codes "scene 1\nsize 1 1\nencoders 1\nframe\nlayout p position:fixed:2\nuniform u_color vec4\nprogram s solid\nview 0 mode ascending\nencoder 0\nset u_color 4112 4112 4112 65536\ntvertices p 0000ffff0000010000000300000001000000ffff0000fdff\nsubmit 0 s 0 255\nset u_color 8224 8224 8224 65536\ntvertices p 0000ffff0000010000000300000001000000ffff0000fdff\nsubmit 0 s 4294967295 255\ndone\n"))
    ≡ run 0 (codes "P6\n1 1\n255\n" ++ (32 ∷ 32 ∷ 32 ∷ [])) (codes "frame 0 items 2 dropped 0\n")
unfolding digits after_word after_resource after_encoder_line i32_number word_in hex_value hex_byte skip_piece attribute_piece part_field
depth_ascending_mode = refl

depth_descending_mode : told (played false serial (codes "scene 1\nsize 1 1\nencoders 1\nframe\nlayout p position:fixed:2\nuniform u_color vec4\nprogram s solid\nview 0 mode descending\nencoder 0\nset u_color 4112 4112 4112 65536\ntvertices p 0000ffff0000010000000300000001000000ffff0000fdff\nsubmit 0 s 0 255\nset u_color 8224 8224 8224 65536\ntvertices p 0000ffff0000010000000300000001000000ffff0000fdff\nsubmit 0 s 4294967295 255\ndone\n"))
    ≡ run 0 (codes "P6\n1 1\n255\n" ++ (16 ∷ 16 ∷ 16 ∷ [])) (codes "frame 0 items 2 dropped 0\n")
unfolding digits after_word after_resource after_encoder_line i32_number word_in hex_value hex_byte skip_piece attribute_piece part_field
depth_descending_mode = refl

destroyed_beside_still_drawn : told (played false serial (codes "scene 1\nsize 1 1\nencoders 1\nframe\nlayout p position:fixed:2\ntexture c 1 1 rgba8 - fill:202020ff\nprogram x texture\nencoder 0\nbind 0 c\ntvertices p 0000ffff0000010000000300000001000000ffff0000fdff\nsubmit 0 x 0 255\nbeside\ndestroy c\nframe\nencoder 0\nbind 0 c\ntvertices p 0000ffff0000010000000300000001000000ffff0000fdff\nsubmit 0 x 0 255\ndone\n"))
    ≡ run 0 ((codes "P6\n1 1\n255\n" ++ (32 ∷ 32 ∷ 32 ∷ [])) ++ (codes "P6\n1 1\n255\n" ++ (0 ∷ 0 ∷ 0 ∷ []))) (codes "frame 0 items 1 dropped 0\nframe 1 items 1 dropped 1\n")
unfolding digits after_word after_resource after_encoder_line i32_number word_in hex_value hex_byte skip_piece attribute_piece part_field
destroyed_beside_still_drawn = refl

diagonal_is_a_left_edge : told (played false serial (codes "scene 1\nsize 4 4\nencoders 1\nframe\nlayout p position:fixed:2\nuniform u_color vec4\nprogram s solid\nencoder 0\nset u_color 4112 4112 4112 65536\ntvertices p 0000ffff000001000000010000000100000001000000ffff\nsubmit 0 s 0 255\ndone\n"))
    ≡ run 0 (codes "P6\n4 4\n255\n" ++ (16 ∷ 16 ∷ 16 ∷ 16 ∷ 16 ∷ 16 ∷ 16 ∷ 16 ∷ 16 ∷ 16 ∷ 16 ∷ 16 ∷ 0 ∷ 0 ∷ 0 ∷ 16 ∷ 16 ∷ 16 ∷ 16 ∷ 16 ∷ 16 ∷ 16 ∷ 16 ∷ 16 ∷ 0 ∷ 0 ∷ 0 ∷ 0 ∷ 0 ∷ 0 ∷ 16 ∷ 16 ∷ 16 ∷ 16 ∷ 16 ∷ 16 ∷ 0 ∷ 0 ∷ 0 ∷ 0 ∷ 0 ∷ 0 ∷ 0 ∷ 0 ∷ 0 ∷ 16 ∷ 16 ∷ 16 ∷ [])) (codes "frame 0 items 1 dropped 0\n")
unfolding digits after_word after_resource after_encoder_line i32_number word_in hex_value hex_byte skip_piece attribute_piece part_field
diagonal_is_a_left_edge = refl

edges_through_pixel_centres : told (played false serial (codes "scene 1\nsize 4 4\nencoders 1\nframe\nlayout p position:fixed:2\nuniform u_color vec4\nprogram s solid\nencoder 0\nstate 35790863\nset u_color 4112 4112 4112 65536\ntvertices p 0000ffff00c000000000010000c000000000010000c0ffff0000ffff00c000000000010000c0ffff0000ffff00c0ffff\nsubmit 0 s 0 255\ndone\n"))
    ≡ run 0 (codes "P6\n4 4\n255\n" ++ (16 ∷ 16 ∷ 16 ∷ 16 ∷ 16 ∷ 16 ∷ 16 ∷ 16 ∷ 16 ∷ 16 ∷ 16 ∷ 16 ∷ 16 ∷ 16 ∷ 16 ∷ 16 ∷ 16 ∷ 16 ∷ 16 ∷ 16 ∷ 16 ∷ 16 ∷ 16 ∷ 16 ∷ 0 ∷ 0 ∷ 0 ∷ 0 ∷ 0 ∷ 0 ∷ 0 ∷ 0 ∷ 0 ∷ 0 ∷ 0 ∷ 0 ∷ 0 ∷ 0 ∷ 0 ∷ 0 ∷ 0 ∷ 0 ∷ 0 ∷ 0 ∷ 0 ∷ 0 ∷ 0 ∷ 0 ∷ [])) (codes "frame 0 items 1 dropped 0\n")
unfolding digits after_word after_resource after_encoder_line i32_number word_in hex_value hex_byte skip_piece attribute_piece part_field
edges_through_pixel_centres = refl

equal_keys_any_schedule : told (played true (by ((entry 0 0 ∷ entry 1 0 ∷ []) ∷ [])) (codes "scene 1\nsize 1 1\nencoders 2\nframe\nlayout p position:fixed:2\nuniform u_color vec4\nprogram s solid\nencoder 0\nset u_color 4112 4112 4112 65536\ntvertices p 0000ffff0000010000000300000001000000ffff0000fdff\nsubmit 0 s 0 255\nencoder 1\nset u_color 8224 8224 8224 65536\ntvertices p 0000ffff0000010000000300000001000000ffff0000fdff\nsubmit 0 s 0 255\ndone\n"))
    ≡ run 0 (codes "P6\n1 1\n255\n" ++ (32 ∷ 32 ∷ 32 ∷ [])) (codes "frame 0 items 2 dropped 0\nj 0:0 1:0\n")
unfolding digits after_word after_resource after_encoder_line i32_number word_in hex_value hex_byte skip_piece attribute_piece part_field
equal_keys_any_schedule = refl

equal_keys_any_schedule_or : told (played true (by ((entry 1 0 ∷ entry 0 0 ∷ []) ∷ [])) (codes "scene 1\nsize 1 1\nencoders 2\nframe\nlayout p position:fixed:2\nuniform u_color vec4\nprogram s solid\nencoder 0\nset u_color 4112 4112 4112 65536\ntvertices p 0000ffff0000010000000300000001000000ffff0000fdff\nsubmit 0 s 0 255\nencoder 1\nset u_color 8224 8224 8224 65536\ntvertices p 0000ffff0000010000000300000001000000ffff0000fdff\nsubmit 0 s 0 255\ndone\n"))
    ≡ run 0 (codes "P6\n1 1\n255\n" ++ (16 ∷ 16 ∷ 16 ∷ [])) (codes "frame 0 items 2 dropped 0\nj 1:0 0:0\n")
unfolding digits after_word after_resource after_encoder_line i32_number word_in hex_value hex_byte skip_piece attribute_piece part_field
equal_keys_any_schedule_or = refl

equal_keys_first_journal : told (replayed false (codes "scene 1\nsize 1 1\nencoders 2\nframe\nlayout p position:fixed:2\nuniform u_color vec4\nprogram s solid\nencoder 0\nset u_color 4112 4112 4112 65536\ntvertices p 0000ffff0000010000000300000001000000ffff0000fdff\nsubmit 0 s 0 255\nencoder 1\nset u_color 8224 8224 8224 65536\ntvertices p 0000ffff0000010000000300000001000000ffff0000fdff\nsubmit 0 s 0 255\ndone\nj 0:0 1:0\n"))
    ≡ run 0 (codes "P6\n1 1\n255\n" ++ (32 ∷ 32 ∷ 32 ∷ [])) (codes "frame 0 items 2 dropped 0\n")
unfolding digits after_word after_resource after_encoder_line i32_number word_in hex_value hex_byte skip_piece attribute_piece part_field
equal_keys_first_journal = refl

equal_keys_second_journal : told (replayed false (codes "scene 1\nsize 1 1\nencoders 2\nframe\nlayout p position:fixed:2\nuniform u_color vec4\nprogram s solid\nencoder 0\nset u_color 4112 4112 4112 65536\ntvertices p 0000ffff0000010000000300000001000000ffff0000fdff\nsubmit 0 s 0 255\nencoder 1\nset u_color 8224 8224 8224 65536\ntvertices p 0000ffff0000010000000300000001000000ffff0000fdff\nsubmit 0 s 0 255\ndone\nj 1:0 0:0\n"))
    ≡ run 0 (codes "P6\n1 1\n255\n" ++ (16 ∷ 16 ∷ 16 ∷ [])) (codes "frame 0 items 2 dropped 0\n")
unfolding digits after_word after_resource after_encoder_line i32_number word_in hex_value hex_byte skip_piece attribute_piece part_field
equal_keys_second_journal = refl

fault_control_byte : told (played false serial (codes "scene 1\nsize 2 2\nencoders 1\nframe\nview 0 clear 1 ff0000ff 0 0\nencoder 0\ntouch 0\t\ndone\n"))
    ≡ run 2 ([]) (codes "scene refused at line 7 for cause 1\n")
unfolding digits after_word after_resource after_encoder_line i32_number word_in hex_value hex_byte skip_piece attribute_piece part_field
fault_control_byte = refl

fault_empty_field : told (played false serial (codes "scene 1\nsize 2 2\nencoders 1\nframe\nview 0 clear 1 ff0000ff 0 0\nencoder 0\ntouch  0\ndone\n"))
    ≡ run 2 ([]) (codes "scene refused at line 7 for cause 5\n")
unfolding digits after_word after_resource after_encoder_line i32_number word_in hex_value hex_byte skip_piece attribute_piece part_field
fault_empty_field = refl

fault_encoder_number : told (played false serial (codes "scene 1\nsize 2 2\nencoders 1\nframe\nview 0 clear 1 ff0000ff 0 0\nencoder 1\ntouch 0\ndone\n"))
    ≡ run 2 ([]) (codes "scene refused at line 6 for cause 4\n")
unfolding digits after_word after_resource after_encoder_line i32_number word_in hex_value hex_byte skip_piece attribute_piece part_field
fault_encoder_number = refl

fault_leading_zero : told (played false serial (codes "scene 1\nsize 02 2\nencoders 1\nframe\nview 0 clear 1 ff0000ff 0 0\nencoder 0\ntouch 0\ndone\n"))
    ≡ run 2 ([]) (codes "scene refused at line 2 for cause 6\n")
unfolding digits after_word after_resource after_encoder_line i32_number word_in hex_value hex_byte skip_piece attribute_piece part_field
fault_leading_zero = refl

fault_missing_newline : told (played false serial (codes "scene 1\nsize 2 2\nencoders 1\nframe\nview 0 clear 1 ff0000ff 0 0\nencoder 0\ntouch 0\ndone"))
    ≡ run 2 ([]) (codes "scene refused at line 8 for cause 2\n")
unfolding digits after_word after_resource after_encoder_line i32_number word_in hex_value hex_byte skip_piece attribute_piece part_field
fault_missing_newline = refl

fault_misspelt_colour : told (played false serial (codes "scene 1\nsize 2 2\nencoders 1\nframe\nview 0 clear 1 ff0000f 0 0\nencoder 0\ntouch 0\ndone\n"))
    ≡ run 2 ([]) (codes "scene refused at line 5 for cause 11\n")
unfolding digits after_word after_resource after_encoder_line i32_number word_in hex_value hex_byte skip_piece attribute_piece part_field
fault_misspelt_colour = refl

fault_misspelt_name : told (played false serial (codes "scene 1\nsize 2 2\nencoders 1\nframe\nprogram 9a solid\nencoder 0\ntouch 0\ndone\n"))
    ≡ run 2 ([]) (codes "scene refused at line 5 for cause 8\n")
unfolding digits after_word after_resource after_encoder_line i32_number word_in hex_value hex_byte skip_piece attribute_piece part_field
fault_misspelt_name = refl

fault_name_bound_twice : told (played false serial (codes "scene 1\nsize 2 2\nencoders 1\nframe\nprogram a solid\nprogram a solid\nencoder 0\ntouch 0\ndone\n"))
    ≡ run 2 ([]) (codes "scene refused at line 6 for cause 9\n")
unfolding digits after_word after_resource after_encoder_line i32_number word_in hex_value hex_byte skip_piece attribute_piece part_field
fault_name_bound_twice = refl

fault_number_out_of_range : told (played false serial (codes "scene 1\nsize 2049 2\nencoders 1\nframe\nview 0 clear 1 ff0000ff 0 0\nencoder 0\ntouch 0\ndone\n"))
    ≡ run 2 ([]) (codes "scene refused at line 2 for cause 7\n")
unfolding digits after_word after_resource after_encoder_line i32_number word_in hex_value hex_byte skip_piece attribute_piece part_field
fault_number_out_of_range = refl

fault_unbound_name : told (played false serial (codes "scene 1\nsize 2 2\nencoders 1\nframe\nview 0 clear 1 ff0000ff 0 0\nencoder 0\nbind 0 a\ndone\n"))
    ≡ run 2 ([]) (codes "scene refused at line 7 for cause 10\n")
unfolding digits after_word after_resource after_encoder_line i32_number word_in hex_value hex_byte skip_piece attribute_piece part_field
fault_unbound_name = refl

fault_unknown_first_word : told (played false serial (codes "scene 1\nsize 2 2\nencoders 1\nframe\nView 0 clear 1 ff0000ff 0 0\nencoder 0\ntouch 0\ndone\n"))
    ≡ run 2 ([]) (codes "scene refused at line 5 for cause 3\n")
unfolding digits after_word after_resource after_encoder_line i32_number word_in hex_value hex_byte skip_piece attribute_piece part_field
fault_unknown_first_word = refl

fault_version_3 : told (played false serial (codes "scene 3\nsize 2 2\nencoders 1\nframe\nview 0 clear 1 ff0000ff 0 0\nencoder 0\ntouch 0\ndone\n"))
    ≡ run 2 ([]) (codes "scene refused at line 1 for cause 12\n")
unfolding digits after_word after_resource after_encoder_line i32_number word_in hex_value hex_byte skip_piece attribute_piece part_field
fault_version_3 = refl

index_given_again : told (played false serial (codes "scene 1\nsize 1 1\nencoders 1\nframe\nprogram p0 solid\nprogram p1 solid\nprogram p2 solid\nprogram p3 solid\nprogram p4 solid\nprogram p5 solid\nprogram p6 solid\nprogram p7 solid\nprogram p8 solid\nprogram p9 solid\nprogram p10 solid\nprogram p11 solid\nprogram p12 solid\nprogram p13 solid\nprogram p14 solid\nprogram p15 solid\nprogram p16 solid\nprogram p17 solid\nprogram p18 solid\nprogram p19 solid\nprogram p20 solid\nprogram p21 solid\nprogram p22 solid\nprogram p23 solid\nprogram p24 solid\nprogram p25 solid\nprogram p26 solid\nprogram p27 solid\nprogram p28 solid\nprogram p29 solid\nprogram p30 solid\nprogram p31 solid\nprogram p32 solid\nprogram p33 solid\nprogram p34 solid\nprogram p35 solid\nprogram p36 solid\nprogram p37 solid\nprogram p38 solid\nprogram p39 solid\nprogram p40 solid\nprogram p41 solid\nprogram p42 solid\nprogram p43 solid\nprogram p44 solid\nprogram p45 solid\nprogram p46 solid\nprogram p47 solid\nprogram p48 solid\nprogram p49 solid\nprogram p50 solid\nprogram p51 solid\nprogram p52 solid\nprogram p53 solid\nprogram p54 solid\nprogram p55 solid\nprogram p56 solid\nprogram p57 solid\nprogram p58 solid\nprogram p59 solid\nprogram p60 solid\nprogram p61 solid\nprogram p62 solid\nprogram p63 solid\nprogram p64 solid\nprogram p65 solid\nprogram p66 solid\nprogram p67 solid\nprogram p68 solid\nprogram p69 solid\nprogram p70 solid\nprogram p71 solid\nprogram p72 solid\nprogram p73 solid\nprogram p74 solid\nprogram p75 solid\nprogram p76 solid\nprogram p77 solid\nprogram p78 solid\nprogram p79 solid\nprogram p80 solid\nprogram p81 solid\nprogram p82 solid\nprogram p83 solid\nprogram p84 solid\nprogram p85 solid\nprogram p86 solid\nprogram p87 solid\nprogram p88 solid\nprogram p89 solid\nprogram p90 solid\nprogram p91 solid\nprogram p92 solid\nprogram p93 solid\nprogram p94 solid\nprogram p95 solid\nprogram p96 solid\nprogram p97 solid\nprogram p98 solid\nprogram p99 solid\nprogram p100 solid\nprogram p101 solid\nprogram p102 solid\nprogram p103 solid\nprogram p104 solid\nprogram p105 solid\nprogram p106 solid\nprogram p107 solid\nprogram p108 solid\nprogram p109 solid\nprogram p110 solid\nprogram p111 solid\nprogram p112 solid\nprogram p113 solid\nprogram p114 solid\nprogram p115 solid\nprogram p116 solid\nprogram p117 solid\nprogram p118 solid\nprogram p119 solid\nprogram p120 solid\nprogram p121 solid\nprogram p122 solid\nprogram p123 solid\nprogram p124 solid\nprogram p125 solid\nprogram p126 solid\nprogram p127 solid\nprogram p128 solid\nprogram p129 solid\nprogram p130 solid\nprogram p131 solid\nprogram p132 solid\nprogram p133 solid\nprogram p134 solid\nprogram p135 solid\nprogram p136 solid\nprogram p137 solid\nprogram p138 solid\nprogram p139 solid\nprogram p140 solid\nprogram p141 solid\nprogram p142 solid\nprogram p143 solid\nprogram p144 solid\nprogram p145 solid\nprogram p146 solid\nprogram p147 solid\nprogram p148 solid\nprogram p149 solid\nprogram p150 solid\nprogram p151 solid\nprogram p152 solid\nprogram p153 solid\nprogram p154 solid\nprogram p155 solid\nprogram p156 solid\nprogram p157 solid\nprogram p158 solid\nprogram p159 solid\nprogram p160 solid\nprogram p161 solid\nprogram p162 solid\nprogram p163 solid\nprogram p164 solid\nprogram p165 solid\nprogram p166 solid\nprogram p167 solid\nprogram p168 solid\nprogram p169 solid\nprogram p170 solid\nprogram p171 solid\nprogram p172 solid\nprogram p173 solid\nprogram p174 solid\nprogram p175 solid\nprogram p176 solid\nprogram p177 solid\nprogram p178 solid\nprogram p179 solid\nprogram p180 solid\nprogram p181 solid\nprogram p182 solid\nprogram p183 solid\nprogram p184 solid\nprogram p185 solid\nprogram p186 solid\nprogram p187 solid\nprogram p188 solid\nprogram p189 solid\nprogram p190 solid\nprogram p191 solid\nprogram p192 solid\nprogram p193 solid\nprogram p194 solid\nprogram p195 solid\nprogram p196 solid\nprogram p197 solid\nprogram p198 solid\nprogram p199 solid\nprogram p200 solid\nprogram p201 solid\nprogram p202 solid\nprogram p203 solid\nprogram p204 solid\nprogram p205 solid\nprogram p206 solid\nprogram p207 solid\nprogram p208 solid\nprogram p209 solid\nprogram p210 solid\nprogram p211 solid\nprogram p212 solid\nprogram p213 solid\nprogram p214 solid\nprogram p215 solid\nprogram p216 solid\nprogram p217 solid\nprogram p218 solid\nprogram p219 solid\nprogram p220 solid\nprogram p221 solid\nprogram p222 solid\nprogram p223 solid\nprogram p224 solid\nprogram p225 solid\nprogram p226 solid\nprogram p227 solid\nprogram p228 solid\nprogram p229 solid\nprogram p230 solid\nprogram p231 solid\nprogram p232 solid\nprogram p233 solid\nprogram p234 solid\nprogram p235 solid\nprogram p236 solid\nprogram p237 solid\nprogram p238 solid\nprogram p239 solid\nprogram p240 solid\nprogram p241 solid\nprogram p242 solid\nprogram p243 solid\nprogram p244 solid\nprogram p245 solid\nprogram p246 solid\nprogram p247 solid\nprogram p248 solid\nprogram p249 solid\nprogram p250 solid\nprogram p251 solid\nprogram p252 solid\nprogram p253 solid\nprogram p254 solid\nprogram p255 solid\nprogram p256 solid\ndestroy p0\nframe\nprogram q1 solid\nframe\nprogram q2 solid\ndone\n"))
    ≡ run 0 ((codes "P6\n1 1\n255\n" ++ (0 ∷ 0 ∷ 0 ∷ [])) ++ ((codes "P6\n1 1\n255\n" ++ (0 ∷ 0 ∷ 0 ∷ [])) ++ (codes "P6\n1 1\n255\n" ++ (0 ∷ 0 ∷ 0 ∷ [])))) (codes "frame 0 items 0 dropped 1\nframe 1 items 0 dropped 1\nframe 2 items 0 dropped 0\n")
unfolding digits after_word after_resource after_encoder_line i32_number word_in hex_value hex_byte skip_piece attribute_piece part_field
index_given_again = refl

index_given_again_latency_2 : told (played false serial (codes "scene 2\nsize 1 1\nencoders 1\nlatency 2\nframe\nprogram p0 solid\nprogram p1 solid\nprogram p2 solid\nprogram p3 solid\nprogram p4 solid\nprogram p5 solid\nprogram p6 solid\nprogram p7 solid\nprogram p8 solid\nprogram p9 solid\nprogram p10 solid\nprogram p11 solid\nprogram p12 solid\nprogram p13 solid\nprogram p14 solid\nprogram p15 solid\nprogram p16 solid\nprogram p17 solid\nprogram p18 solid\nprogram p19 solid\nprogram p20 solid\nprogram p21 solid\nprogram p22 solid\nprogram p23 solid\nprogram p24 solid\nprogram p25 solid\nprogram p26 solid\nprogram p27 solid\nprogram p28 solid\nprogram p29 solid\nprogram p30 solid\nprogram p31 solid\nprogram p32 solid\nprogram p33 solid\nprogram p34 solid\nprogram p35 solid\nprogram p36 solid\nprogram p37 solid\nprogram p38 solid\nprogram p39 solid\nprogram p40 solid\nprogram p41 solid\nprogram p42 solid\nprogram p43 solid\nprogram p44 solid\nprogram p45 solid\nprogram p46 solid\nprogram p47 solid\nprogram p48 solid\nprogram p49 solid\nprogram p50 solid\nprogram p51 solid\nprogram p52 solid\nprogram p53 solid\nprogram p54 solid\nprogram p55 solid\nprogram p56 solid\nprogram p57 solid\nprogram p58 solid\nprogram p59 solid\nprogram p60 solid\nprogram p61 solid\nprogram p62 solid\nprogram p63 solid\nprogram p64 solid\nprogram p65 solid\nprogram p66 solid\nprogram p67 solid\nprogram p68 solid\nprogram p69 solid\nprogram p70 solid\nprogram p71 solid\nprogram p72 solid\nprogram p73 solid\nprogram p74 solid\nprogram p75 solid\nprogram p76 solid\nprogram p77 solid\nprogram p78 solid\nprogram p79 solid\nprogram p80 solid\nprogram p81 solid\nprogram p82 solid\nprogram p83 solid\nprogram p84 solid\nprogram p85 solid\nprogram p86 solid\nprogram p87 solid\nprogram p88 solid\nprogram p89 solid\nprogram p90 solid\nprogram p91 solid\nprogram p92 solid\nprogram p93 solid\nprogram p94 solid\nprogram p95 solid\nprogram p96 solid\nprogram p97 solid\nprogram p98 solid\nprogram p99 solid\nprogram p100 solid\nprogram p101 solid\nprogram p102 solid\nprogram p103 solid\nprogram p104 solid\nprogram p105 solid\nprogram p106 solid\nprogram p107 solid\nprogram p108 solid\nprogram p109 solid\nprogram p110 solid\nprogram p111 solid\nprogram p112 solid\nprogram p113 solid\nprogram p114 solid\nprogram p115 solid\nprogram p116 solid\nprogram p117 solid\nprogram p118 solid\nprogram p119 solid\nprogram p120 solid\nprogram p121 solid\nprogram p122 solid\nprogram p123 solid\nprogram p124 solid\nprogram p125 solid\nprogram p126 solid\nprogram p127 solid\nprogram p128 solid\nprogram p129 solid\nprogram p130 solid\nprogram p131 solid\nprogram p132 solid\nprogram p133 solid\nprogram p134 solid\nprogram p135 solid\nprogram p136 solid\nprogram p137 solid\nprogram p138 solid\nprogram p139 solid\nprogram p140 solid\nprogram p141 solid\nprogram p142 solid\nprogram p143 solid\nprogram p144 solid\nprogram p145 solid\nprogram p146 solid\nprogram p147 solid\nprogram p148 solid\nprogram p149 solid\nprogram p150 solid\nprogram p151 solid\nprogram p152 solid\nprogram p153 solid\nprogram p154 solid\nprogram p155 solid\nprogram p156 solid\nprogram p157 solid\nprogram p158 solid\nprogram p159 solid\nprogram p160 solid\nprogram p161 solid\nprogram p162 solid\nprogram p163 solid\nprogram p164 solid\nprogram p165 solid\nprogram p166 solid\nprogram p167 solid\nprogram p168 solid\nprogram p169 solid\nprogram p170 solid\nprogram p171 solid\nprogram p172 solid\nprogram p173 solid\nprogram p174 solid\nprogram p175 solid\nprogram p176 solid\nprogram p177 solid\nprogram p178 solid\nprogram p179 solid\nprogram p180 solid\nprogram p181 solid\nprogram p182 solid\nprogram p183 solid\nprogram p184 solid\nprogram p185 solid\nprogram p186 solid\nprogram p187 solid\nprogram p188 solid\nprogram p189 solid\nprogram p190 solid\nprogram p191 solid\nprogram p192 solid\nprogram p193 solid\nprogram p194 solid\nprogram p195 solid\nprogram p196 solid\nprogram p197 solid\nprogram p198 solid\nprogram p199 solid\nprogram p200 solid\nprogram p201 solid\nprogram p202 solid\nprogram p203 solid\nprogram p204 solid\nprogram p205 solid\nprogram p206 solid\nprogram p207 solid\nprogram p208 solid\nprogram p209 solid\nprogram p210 solid\nprogram p211 solid\nprogram p212 solid\nprogram p213 solid\nprogram p214 solid\nprogram p215 solid\nprogram p216 solid\nprogram p217 solid\nprogram p218 solid\nprogram p219 solid\nprogram p220 solid\nprogram p221 solid\nprogram p222 solid\nprogram p223 solid\nprogram p224 solid\nprogram p225 solid\nprogram p226 solid\nprogram p227 solid\nprogram p228 solid\nprogram p229 solid\nprogram p230 solid\nprogram p231 solid\nprogram p232 solid\nprogram p233 solid\nprogram p234 solid\nprogram p235 solid\nprogram p236 solid\nprogram p237 solid\nprogram p238 solid\nprogram p239 solid\nprogram p240 solid\nprogram p241 solid\nprogram p242 solid\nprogram p243 solid\nprogram p244 solid\nprogram p245 solid\nprogram p246 solid\nprogram p247 solid\nprogram p248 solid\nprogram p249 solid\nprogram p250 solid\nprogram p251 solid\nprogram p252 solid\nprogram p253 solid\nprogram p254 solid\nprogram p255 solid\nprogram p256 solid\ndestroy p0\nframe\nprogram q1 solid\nframe\nprogram q2 solid\nframe\nprogram q3 solid\ndone\n"))
    ≡ run 0 ((codes "P6\n1 1\n255\n" ++ (0 ∷ 0 ∷ 0 ∷ [])) ++ ((codes "P6\n1 1\n255\n" ++ (0 ∷ 0 ∷ 0 ∷ [])) ++ ((codes "P6\n1 1\n255\n" ++ (0 ∷ 0 ∷ 0 ∷ [])) ++ (codes "P6\n1 1\n255\n" ++ (0 ∷ 0 ∷ 0 ∷ []))))) (codes "frame 0 items 0 dropped 1\nframe 1 items 0 dropped 1\nframe 2 items 0 dropped 1\nframe 3 items 0 dropped 0\n")
unfolding digits after_word after_resource after_encoder_line i32_number word_in hex_value hex_byte skip_piece attribute_piece part_field
index_given_again_latency_2 = refl

index_past_its_buffer : told (played false serial (codes "scene 1\nsize 1 1\nencoders 1\nframe\nlayout p position:fixed:2\nuniform u_color vec4\nprogram s solid\nvb v p 0000ffff000001000000ffff000001000000ffff00000100\nupdate v 8 00000300000001000000ffff0000fdff\nib n 000001000200\nencoder 0\nset u_color 8224 8224 8224 65536\nvertices v 0 3\nindices n 0 4\nsubmit 0 s 0 255\ndone\n"))
    ≡ run 0 (codes "P6\n1 1\n255\n" ++ (32 ∷ 32 ∷ 32 ∷ [])) (codes "frame 0 items 1 dropped 0\n")
unfolding digits after_word after_resource after_encoder_line i32_number word_in hex_value hex_byte skip_piece attribute_piece part_field
index_past_its_buffer = refl

index_past_its_buffer_without_update : told (played false serial (codes "scene 1\nsize 1 1\nencoders 1\nframe\nlayout p position:fixed:2\nuniform u_color vec4\nprogram s solid\nvb v p 0000ffff000001000000ffff000001000000ffff00000100\nupdate v 9 00000300000001000000ffff0000fdff\nib n 000001000200\nencoder 0\nset u_color 8224 8224 8224 65536\nvertices v 0 3\nindices n 0 4\nsubmit 0 s 0 255\ndone\n"))
    ≡ run 0 (codes "P6\n1 1\n255\n" ++ (0 ∷ 0 ∷ 0 ∷ [])) (codes "frame 0 items 1 dropped 1\n")
unfolding digits after_word after_resource after_encoder_line i32_number word_in hex_value hex_byte skip_piece attribute_piece part_field
index_past_its_buffer_without_update = refl

indexed_triangle : told (played false serial (codes "scene 1\nsize 1 1\nencoders 1\nframe\nlayout p position:fixed:2\nuniform u_color vec4\nprogram s solid\nvb v p 0000ffff000001000000ffff000001000000ffff00000100\nupdate v 8 00000300000001000000ffff0000fdff\nib n 000001000200\nencoder 0\nset u_color 8224 8224 8224 65536\nvertices v 0 3\nindices n 0 3\nsubmit 0 s 0 255\ndone\n"))
    ≡ run 0 (codes "P6\n1 1\n255\n" ++ (32 ∷ 32 ∷ 32 ∷ [])) (codes "frame 0 items 1 dropped 0\n")
unfolding digits after_word after_resource after_encoder_line i32_number word_in hex_value hex_byte skip_piece attribute_piece part_field
indexed_triangle = refl

indexed_triangle_without_update : told (played false serial (codes "scene 1\nsize 1 1\nencoders 1\nframe\nlayout p position:fixed:2\nuniform u_color vec4\nprogram s solid\nvb v p 0000ffff000001000000ffff000001000000ffff00000100\nupdate v 9 00000300000001000000ffff0000fdff\nib n 000001000200\nencoder 0\nset u_color 8224 8224 8224 65536\nvertices v 0 3\nindices n 0 3\nsubmit 0 s 0 255\ndone\n"))
    ≡ run 0 (codes "P6\n1 1\n255\n" ++ (0 ∷ 0 ∷ 0 ∷ [])) (codes "frame 0 items 1 dropped 1\n")
unfolding digits after_word after_resource after_encoder_line i32_number word_in hex_value hex_byte skip_piece attribute_piece part_field
indexed_triangle_without_update = refl

late_first_encoder : told (replayed true (codes "scene 1\nsize 1 1\nencoders 2\nframe\nlayout p position:fixed:2\nuniform u_color vec4\nprogram s solid\nencoder 0\nset u_color 4112 4112 4112 65536\ntvertices p 0000ffff0000010000000300000001000000ffff0000fdff\nsubmit 0 s 0 255\nencoder 1\nset u_color 8224 8224 8224 65536\ntvertices p 0000ffff0000010000000300000001000000ffff0000fdff\nsubmit 0 s 0 255\ntouch 0\ndone\nj 1:0 1:1 0:0\n"))
    ≡ run 0 (codes "P6\n1 1\n255\n" ++ (16 ∷ 16 ∷ 16 ∷ [])) (codes "frame 0 items 3 dropped 0\nj 1:0 1:1 0:0\n")
unfolding digits after_word after_resource after_encoder_line i32_number word_in hex_value hex_byte skip_piece attribute_piece part_field
late_first_encoder = refl

late_second_encoder : told (replayed true (codes "scene 1\nsize 1 1\nencoders 2\nframe\nlayout p position:fixed:2\nuniform u_color vec4\nprogram s solid\nencoder 0\nset u_color 4112 4112 4112 65536\ntvertices p 0000ffff0000010000000300000001000000ffff0000fdff\nsubmit 0 s 0 255\ntouch 0\nencoder 1\nset u_color 8224 8224 8224 65536\ntvertices p 0000ffff0000010000000300000001000000ffff0000fdff\nsubmit 0 s 0 255\ndone\nj 0:0 0:1 1:0\n"))
    ≡ run 0 (codes "P6\n1 1\n255\n" ++ (32 ∷ 32 ∷ 32 ∷ [])) (codes "frame 0 items 3 dropped 0\nj 0:0 0:1 1:0\n")
unfolding digits after_word after_resource after_encoder_line i32_number word_in hex_value hex_byte skip_piece attribute_piece part_field
late_second_encoder = refl

no_pixels_but_three_items : told (played true serial (codes "scene 1\nsize 1 1\nencoders 1\nframe\nlayout p position:fixed:2\nuniform u_color vec4\nprogram s solid\nview 0 clear 1 0000ffff 0 0\nencoder 0\ntvertices p 0000ffff000001000000ffff000001000000ffff00000100\nsubmit 0 s 0 255\nstate 68719476751\ntvertices p 0000ffff0000010000000300000001000000ffff0000fdff\nsubmit 0 s 0 255\ntvertices p 000009000000010000000300000001000000ffff0000fdff\nsubmit 0 s 0 255\ndone\n"))
    ≡ run 0 (codes "P6\n1 1\n255\n" ++ (0 ∷ 0 ∷ 255 ∷ [])) (codes "frame 0 items 3 dropped 0\nj 0:0 0:1 0:2\n")
unfolding digits after_word after_resource after_encoder_line i32_number word_in hex_value hex_byte skip_piece attribute_piece part_field
no_pixels_but_three_items = refl

opaque_before_blended : told (played false serial (codes "scene 1\nsize 1 1\nencoders 1\nframe\nlayout p position:fixed:2\nuniform u_color vec4\nprogram s solid\nencoder 0\nstate 35790863\nset u_color 4112 4112 4112 65536\ntvertices p 0000ffff0000010000000300000001000000ffff0000fdff\nsubmit 0 s 0 255\nset u_color 8224 8224 8224 65536\ntvertices p 0000ffff0000010000000300000001000000ffff0000fdff\nsubmit 0 s 0 255\ndone\n"))
    ≡ run 0 (codes "P6\n1 1\n255\n" ++ (48 ∷ 48 ∷ 48 ∷ [])) (codes "frame 0 items 2 dropped 0\n")
unfolding digits after_word after_resource after_encoder_line i32_number word_in hex_value hex_byte skip_piece attribute_piece part_field
opaque_before_blended = refl

refused_empty_input : told (played false serial ([]))
    ≡ run 2 ([]) (codes "scene refused at line 1 for cause 2\n")
unfolding digits after_word after_resource after_encoder_line i32_number word_in hex_value hex_byte skip_piece attribute_piece part_field
refused_empty_input = refl

refused_later_version : told (played false serial (codes "scene 3\nsize 2 2\nencoders 1\nframe\nview 0 clear 1 ff0000ff 0 0\nencoder 0\ntouch 0\ndone\n"))
    ≡ run 2 ([]) (codes "scene refused at line 1 for cause 12\n")
unfolding digits after_word after_resource after_encoder_line i32_number word_in hex_value hex_byte skip_piece attribute_piece part_field
refused_later_version = refl

refused_unbound_program : told (played false serial (codes "scene 1\nsize 2 2\nencoders 1\nframe\nview 0 clear 1 ff0000ff 0 0\nencoder 0\nsubmit 0 nope 0 255\ndone\n"))
    ≡ run 2 ([]) (codes "scene refused at line 7 for cause 10\n")
unfolding digits after_word after_resource after_encoder_line i32_number word_in hex_value hex_byte skip_piece attribute_piece part_field
refused_unbound_program = refl

refused_unlawful_journal : told (replayed false (codes "scene 1\nsize 2 2\nencoders 1\nframe\nview 0 clear 1 ff0000ff 0 0\nencoder 0\ntouch 0\ndone\nj 0:1\n"))
    ≡ run 7 ([]) (codes "journal refused at entry 0\n")
unfolding digits after_word after_resource after_encoder_line i32_number word_in hex_value hex_byte skip_piece attribute_piece part_field
refused_unlawful_journal = refl

refused_without_done : told (played false serial (codes "scene 1\nsize 2 2\nencoders 1\nframe\nview 0 clear 1 ff0000ff 0 0\nencoder 0\ntouch 0\n"))
    ≡ run 2 ([]) (codes "scene refused at line 8 for cause 2\n")
unfolding digits after_word after_resource after_encoder_line i32_number word_in hex_value hex_byte skip_piece attribute_piece part_field
refused_without_done = refl

render_to_a_texture : told (played false serial (codes "scene 1\nsize 1 1\nencoders 1\nframe\nlayout p position:fixed:2\nuniform u_color vec4\nprogram s solid\ntexture c 1 1 rgba8 - fill:00000000\nfb t c -\nprogram x texture\nview 0 target t\nencoder 0\nset u_color 8224 8224 8224 65536\ntvertices p 0000ffff0000010000000300000001000000ffff0000fdff\nsubmit 0 s 0 255\nbind 0 c\ntvertices p 0000ffff0000010000000300000001000000ffff0000fdff\nsubmit 1 x 0 255\ndone\n"))
    ≡ run 0 (codes "P6\n1 1\n255\n" ++ (32 ∷ 32 ∷ 32 ∷ [])) (codes "frame 0 items 2 dropped 0\n")
unfolding digits after_word after_resource after_encoder_line i32_number word_in hex_value hex_byte skip_piece attribute_piece part_field
render_to_a_texture = refl

sample_of_the_own_target : told (played false serial (codes "scene 1\nsize 1 1\nencoders 1\nframe\nlayout p position:fixed:2\nuniform u_color vec4\nprogram s solid\ntexture c 1 1 rgba8 - fill:202020ff\nfb t c -\nprogram x texture\nview 0 target t\nview 1 clear 1 ffffffff 0 0\nencoder 0\nbind 0 c\ntvertices p 0000ffff0000010000000300000001000000ffff0000fdff\nsubmit 0 x 0 255\nbind 0 c\ntvertices p 0000ffff0000010000000300000001000000ffff0000fdff\nsubmit 1 x 0 255\ndone\n"))
    ≡ run 0 (codes "P6\n1 1\n255\n" ++ (0 ∷ 0 ∷ 0 ∷ [])) (codes "frame 0 items 2 dropped 0\n")
unfolding digits after_word after_resource after_encoder_line i32_number word_in hex_value hex_byte skip_piece attribute_piece part_field
sample_of_the_own_target = refl

second_frame_without_items : told (played false serial (codes "scene 1\nsize 2 2\nencoders 1\nframe\nview 0 clear 1 ff0000ff 0 0\nencoder 0\ntouch 0\nframe\ndone\n"))
    ≡ run 0 ((codes "P6\n2 2\n255\n" ++ (255 ∷ 0 ∷ 0 ∷ 255 ∷ 0 ∷ 0 ∷ 255 ∷ 0 ∷ 0 ∷ 255 ∷ 0 ∷ 0 ∷ [])) ++ (codes "P6\n2 2\n255\n" ++ (255 ∷ 0 ∷ 0 ∷ 255 ∷ 0 ∷ 0 ∷ 255 ∷ 0 ∷ 0 ∷ 255 ∷ 0 ∷ 0 ∷ []))) (codes "frame 0 items 1 dropped 0\nframe 1 items 0 dropped 0\n")
unfolding digits after_word after_resource after_encoder_line i32_number word_in hex_value hex_byte skip_piece attribute_piece part_field
second_frame_without_items = refl

sequential_view_any_schedule : told (played false serial (codes "scene 1\nsize 2 1\nencoders 2\nframe\nlayout p position:fixed:2\nuniform u_color vec4\nprogram s solid\nview 0 rect 0 0 1 1\nview 0 mode sequential\nview 1 rect 1 0 1 1\nencoder 0\nset u_color 8224 8224 8224 65536\ntvertices p 0000ffff0000010000000300000001000000ffff0000fdff\nsubmit 0 s 9 255\nset u_color 4112 4112 4112 65536\ntvertices p 0000ffff0000010000000300000001000000ffff0000fdff\nsubmit 0 s 1 255\nencoder 1\nset u_color 8224 8224 8224 65536\ntvertices p 0000ffff0000010000000300000001000000ffff0000fdff\nsubmit 1 s 0 255\ndone\n"))
    ≡ run 0 (codes "P6\n2 1\n255\n" ++ (16 ∷ 16 ∷ 16 ∷ 32 ∷ 32 ∷ 32 ∷ [])) (codes "frame 0 items 3 dropped 0\n")
unfolding digits after_word after_resource after_encoder_line i32_number word_in hex_value hex_byte skip_piece attribute_piece part_field
sequential_view_any_schedule = refl

sequential_view_first_journal : told (replayed false (codes "scene 1\nsize 2 1\nencoders 2\nframe\nlayout p position:fixed:2\nuniform u_color vec4\nprogram s solid\nview 0 rect 0 0 1 1\nview 0 mode sequential\nview 1 rect 1 0 1 1\nencoder 0\nset u_color 8224 8224 8224 65536\ntvertices p 0000ffff0000010000000300000001000000ffff0000fdff\nsubmit 0 s 9 255\nset u_color 4112 4112 4112 65536\ntvertices p 0000ffff0000010000000300000001000000ffff0000fdff\nsubmit 0 s 1 255\nencoder 1\nset u_color 8224 8224 8224 65536\ntvertices p 0000ffff0000010000000300000001000000ffff0000fdff\nsubmit 1 s 0 255\ndone\nj 0:0 0:1 1:0\n"))
    ≡ run 0 (codes "P6\n2 1\n255\n" ++ (16 ∷ 16 ∷ 16 ∷ 32 ∷ 32 ∷ 32 ∷ [])) (codes "frame 0 items 3 dropped 0\n")
unfolding digits after_word after_resource after_encoder_line i32_number word_in hex_value hex_byte skip_piece attribute_piece part_field
sequential_view_first_journal = refl

sequential_view_second_journal : told (replayed false (codes "scene 1\nsize 2 1\nencoders 2\nframe\nlayout p position:fixed:2\nuniform u_color vec4\nprogram s solid\nview 0 rect 0 0 1 1\nview 0 mode sequential\nview 1 rect 1 0 1 1\nencoder 0\nset u_color 8224 8224 8224 65536\ntvertices p 0000ffff0000010000000300000001000000ffff0000fdff\nsubmit 0 s 9 255\nset u_color 4112 4112 4112 65536\ntvertices p 0000ffff0000010000000300000001000000ffff0000fdff\nsubmit 0 s 1 255\nencoder 1\nset u_color 8224 8224 8224 65536\ntvertices p 0000ffff0000010000000300000001000000ffff0000fdff\nsubmit 1 s 0 255\ndone\nj 0:0 1:0 0:1\n"))
    ≡ run 0 (codes "P6\n2 1\n255\n" ++ (16 ∷ 16 ∷ 16 ∷ 32 ∷ 32 ∷ 32 ∷ [])) (codes "frame 0 items 3 dropped 0\n")
unfolding digits after_word after_resource after_encoder_line i32_number word_in hex_value hex_byte skip_piece attribute_piece part_field
sequential_view_second_journal = refl

sequential_view_third_journal : told (replayed false (codes "scene 1\nsize 2 1\nencoders 2\nframe\nlayout p position:fixed:2\nuniform u_color vec4\nprogram s solid\nview 0 rect 0 0 1 1\nview 0 mode sequential\nview 1 rect 1 0 1 1\nencoder 0\nset u_color 8224 8224 8224 65536\ntvertices p 0000ffff0000010000000300000001000000ffff0000fdff\nsubmit 0 s 9 255\nset u_color 4112 4112 4112 65536\ntvertices p 0000ffff0000010000000300000001000000ffff0000fdff\nsubmit 0 s 1 255\nencoder 1\nset u_color 8224 8224 8224 65536\ntvertices p 0000ffff0000010000000300000001000000ffff0000fdff\nsubmit 1 s 0 255\ndone\nj 1:0 0:0 0:1\n"))
    ≡ run 0 (codes "P6\n2 1\n255\n" ++ (16 ∷ 16 ∷ 16 ∷ 32 ∷ 32 ∷ 32 ∷ [])) (codes "frame 0 items 3 dropped 0\n")
unfolding digits after_word after_resource after_encoder_line i32_number word_in hex_value hex_byte skip_piece attribute_piece part_field
sequential_view_third_journal = refl

shared_edge_drawn_once : told (played false serial (codes "scene 1\nsize 4 4\nencoders 1\nframe\nlayout p position:fixed:2\nuniform u_color vec4\nprogram s solid\nencoder 0\nstate 35790863\nset u_color 4112 4112 4112 65536\ntvertices p 0000ffff000001000000010000000100000001000000ffff0000ffff00000100000001000000ffff0000ffff0000ffff\nsubmit 0 s 0 255\ndone\n"))
    ≡ run 0 (codes "P6\n4 4\n255\n" ++ (16 ∷ 16 ∷ 16 ∷ 16 ∷ 16 ∷ 16 ∷ 16 ∷ 16 ∷ 16 ∷ 16 ∷ 16 ∷ 16 ∷ 16 ∷ 16 ∷ 16 ∷ 16 ∷ 16 ∷ 16 ∷ 16 ∷ 16 ∷ 16 ∷ 16 ∷ 16 ∷ 16 ∷ 16 ∷ 16 ∷ 16 ∷ 16 ∷ 16 ∷ 16 ∷ 16 ∷ 16 ∷ 16 ∷ 16 ∷ 16 ∷ 16 ∷ 16 ∷ 16 ∷ 16 ∷ 16 ∷ 16 ∷ 16 ∷ 16 ∷ 16 ∷ 16 ∷ 16 ∷ 16 ∷ 16 ∷ [])) (codes "frame 0 items 1 dropped 0\n")
unfolding digits after_word after_resource after_encoder_line i32_number word_in hex_value hex_byte skip_piece attribute_piece part_field
shared_edge_drawn_once = refl

state_words_refused : told (played false serial (codes "scene 1\nsize 1 1\nencoders 1\nframe\nencoder 0\nstate 256\nstate 8207\ndone\n"))
    ≡ run 0 (codes "P6\n1 1\n255\n" ++ (0 ∷ 0 ∷ 0 ∷ [])) (codes "frame 0 items 0 dropped 2\n")
unfolding digits after_word after_resource after_encoder_line i32_number word_in hex_value hex_byte skip_piece attribute_piece part_field
state_words_refused = refl

stencil_saturates_and_wraps : told (played false serial (codes "scene 1\nsize 2 1\nencoders 1\nframe\nlayout p position:fixed:2\nuniform u_color vec4\nprogram s solid\nview 0 clear 4 00000000 0 255\nencoder 0\nstate 127\nstencil 337182464 0\nscissor 0 0 1 1\ntvertices p 0000ffff0000010000000300000001000000ffff0000fdff\nsubmit 0 s 0 255\nstate 127\nstencil 320405248 0\nscissor 1 0 1 1\ntvertices p 0000ffff0000010000000300000001000000ffff0000fdff\nsubmit 0 s 1 255\nstencil 286523391 0\nset u_color 8224 8224 8224 65536\ntvertices p 0000ffff0000010000000300000001000000ffff0000fdff\nsubmit 0 s 2 255\ndone\n"))
    ≡ run 0 (codes "P6\n2 1\n255\n" ++ (32 ∷ 32 ∷ 32 ∷ 0 ∷ 0 ∷ 0 ∷ [])) (codes "frame 0 items 3 dropped 0\n")
unfolding digits after_word after_resource after_encoder_line i32_number word_in hex_value hex_byte skip_piece attribute_piece part_field
stencil_saturates_and_wraps = refl

texture_update : told (played false serial (codes "scene 1\nsize 1 1\nencoders 1\nframe\nlayout p position:fixed:2\ntexture c 1 1 rgba8 - fill:202020ff\nprogram x texture\ntexupdate c 0 0 1 1 303030ff\nencoder 0\nbind 0 c\ntvertices p 0000ffff0000010000000300000001000000ffff0000fdff\nsubmit 0 x 0 255\ndone\n"))
    ≡ run 0 (codes "P6\n1 1\n255\n" ++ (48 ∷ 48 ∷ 48 ∷ [])) (codes "frame 0 items 1 dropped 0\n")
unfolding digits after_word after_resource after_encoder_line i32_number word_in hex_value hex_byte skip_piece attribute_piece part_field
texture_update = refl

texture_update_past_a_side : told (played false serial (codes "scene 1\nsize 1 1\nencoders 1\nframe\nlayout p position:fixed:2\ntexture c 1 1 rgba8 - fill:202020ff\nprogram x texture\ntexupdate c 0 0 2 1 303030ff303030ff\nencoder 0\nbind 0 c\ntvertices p 0000ffff0000010000000300000001000000ffff0000fdff\nsubmit 0 x 0 255\ndone\n"))
    ≡ run 0 (codes "P6\n1 1\n255\n" ++ (32 ∷ 32 ∷ 32 ∷ [])) (codes "frame 0 items 1 dropped 1\n")
unfolding digits after_word after_resource after_encoder_line i32_number word_in hex_value hex_byte skip_piece attribute_piece part_field
texture_update_past_a_side = refl

three_frames : told (played false serial (codes "scene 1\nsize 2 2\nencoders 1\nframe\nview 0 clear 1 ff0000ff 0 0\nencoder 0\ntouch 0\nframe\nframe\ndone\n"))
    ≡ run 0 ((codes "P6\n2 2\n255\n" ++ (255 ∷ 0 ∷ 0 ∷ 255 ∷ 0 ∷ 0 ∷ 255 ∷ 0 ∷ 0 ∷ 255 ∷ 0 ∷ 0 ∷ [])) ++ ((codes "P6\n2 2\n255\n" ++ (255 ∷ 0 ∷ 0 ∷ 255 ∷ 0 ∷ 0 ∷ 255 ∷ 0 ∷ 0 ∷ 255 ∷ 0 ∷ 0 ∷ [])) ++ (codes "P6\n2 2\n255\n" ++ (255 ∷ 0 ∷ 0 ∷ 255 ∷ 0 ∷ 0 ∷ 255 ∷ 0 ∷ 0 ∷ 255 ∷ 0 ∷ 0 ∷ [])))) (codes "frame 0 items 1 dropped 0\nframe 1 items 0 dropped 0\nframe 2 items 0 dropped 0\n")
unfolding digits after_word after_resource after_encoder_line i32_number word_in hex_value hex_byte skip_piece attribute_piece part_field
three_frames = refl

two_frames_of_touches : told (played false serial (codes "scene 1\nsize 2 2\nencoders 1\nframe\nview 0 clear 1 ff0000ff 0 0\nencoder 0\ntouch 0\nframe\nencoder 0\ntouch 0\ndone\n"))
    ≡ run 0 ((codes "P6\n2 2\n255\n" ++ (255 ∷ 0 ∷ 0 ∷ 255 ∷ 0 ∷ 0 ∷ 255 ∷ 0 ∷ 0 ∷ 255 ∷ 0 ∷ 0 ∷ [])) ++ (codes "P6\n2 2\n255\n" ++ (255 ∷ 0 ∷ 0 ∷ 255 ∷ 0 ∷ 0 ∷ 255 ∷ 0 ∷ 0 ∷ 255 ∷ 0 ∷ 0 ∷ []))) (codes "frame 0 items 1 dropped 0\nframe 1 items 1 dropped 0\n")
unfolding digits after_word after_resource after_encoder_line i32_number word_in hex_value hex_byte skip_piece attribute_piece part_field
two_frames_of_touches = refl

unequal_keys_any_schedule : told (played false serial (codes "scene 1\nsize 1 1\nencoders 2\nframe\nlayout p position:fixed:2\nuniform u_color vec4\nprogram s solid\nencoder 0\nset u_color 4112 4112 4112 65536\ntvertices p 0000ffff0000010000000300000001000000ffff0000fdff\nsubmit 0 s 5 255\nencoder 1\nset u_color 8224 8224 8224 65536\ntvertices p 0000ffff0000010000000300000001000000ffff0000fdff\nsubmit 0 s 3 255\ndone\n"))
    ≡ run 0 (codes "P6\n1 1\n255\n" ++ (16 ∷ 16 ∷ 16 ∷ [])) (codes "frame 0 items 2 dropped 0\n")
unfolding digits after_word after_resource after_encoder_line i32_number word_in hex_value hex_byte skip_piece attribute_piece part_field
unequal_keys_any_schedule = refl

unequal_keys_first_journal : told (replayed false (codes "scene 1\nsize 1 1\nencoders 2\nframe\nlayout p position:fixed:2\nuniform u_color vec4\nprogram s solid\nencoder 0\nset u_color 4112 4112 4112 65536\ntvertices p 0000ffff0000010000000300000001000000ffff0000fdff\nsubmit 0 s 5 255\nencoder 1\nset u_color 8224 8224 8224 65536\ntvertices p 0000ffff0000010000000300000001000000ffff0000fdff\nsubmit 0 s 3 255\ndone\nj 0:0 1:0\n"))
    ≡ run 0 (codes "P6\n1 1\n255\n" ++ (16 ∷ 16 ∷ 16 ∷ [])) (codes "frame 0 items 2 dropped 0\n")
unfolding digits after_word after_resource after_encoder_line i32_number word_in hex_value hex_byte skip_piece attribute_piece part_field
unequal_keys_first_journal = refl

unequal_keys_second_journal : told (replayed false (codes "scene 1\nsize 1 1\nencoders 2\nframe\nlayout p position:fixed:2\nuniform u_color vec4\nprogram s solid\nencoder 0\nset u_color 4112 4112 4112 65536\ntvertices p 0000ffff0000010000000300000001000000ffff0000fdff\nsubmit 0 s 5 255\nencoder 1\nset u_color 8224 8224 8224 65536\ntvertices p 0000ffff0000010000000300000001000000ffff0000fdff\nsubmit 0 s 3 255\ndone\nj 1:0 0:0\n"))
    ≡ run 0 (codes "P6\n1 1\n255\n" ++ (16 ∷ 16 ∷ 16 ∷ [])) (codes "frame 0 items 2 dropped 0\n")
unfolding digits after_word after_resource after_encoder_line i32_number word_in hex_value hex_byte skip_piece attribute_piece part_field
unequal_keys_second_journal = refl

uniform_counted_references : told (played false serial (codes "scene 1\nsize 1 1\nencoders 1\nframe\nuniform a vec4\nuniform a vec4\ndestroy a\ndestroy a\ndone\n"))
    ≡ run 0 (codes "P6\n1 1\n255\n" ++ (0 ∷ 0 ∷ 0 ∷ [])) (codes "frame 0 items 0 dropped 0\n")
unfolding digits after_word after_resource after_encoder_line i32_number word_in hex_value hex_byte skip_piece attribute_piece part_field
uniform_counted_references = refl

uniform_destroyed_once_too_often : told (played false serial (codes "scene 1\nsize 1 1\nencoders 1\nframe\nuniform a vec4\nuniform a vec4\ndestroy a\ndestroy a\ndestroy a\ndone\n"))
    ≡ run 0 (codes "P6\n1 1\n255\n" ++ (0 ∷ 0 ∷ 0 ∷ [])) (codes "frame 0 items 0 dropped 1\n")
unfolding digits after_word after_resource after_encoder_line i32_number word_in hex_value hex_byte skip_piece attribute_piece part_field
uniform_destroyed_once_too_often = refl

uniform_of_the_other_kind : told (played false serial (codes "scene 1\nsize 1 1\nencoders 1\nframe\nuniform a vec4\nuniform a int\ndone\n"))
    ≡ run 0 (codes "P6\n1 1\n255\n" ++ (0 ∷ 0 ∷ 0 ∷ [])) (codes "frame 0 items 0 dropped 1\n")
unfolding digits after_word after_resource after_encoder_line i32_number word_in hex_value hex_byte skip_piece attribute_piece part_field
uniform_of_the_other_kind = refl

uniform_value_stays : told (played false serial (codes "scene 1\nsize 2 1\nencoders 1\nframe\nlayout p position:fixed:2\nuniform u_color vec4\nprogram s solid\nencoder 0\nset u_color 8224 8224 8224 65536\nscissor 0 0 1 1\ntvertices p 0000ffff0000010000000300000001000000ffff0000fdff\nsubmit 0 s 0 255\nscissor 1 0 1 1\ntvertices p 0000ffff0000010000000300000001000000ffff0000fdff\nsubmit 0 s 1 255\ndone\n"))
    ≡ run 0 (codes "P6\n2 1\n255\n" ++ (32 ∷ 32 ∷ 32 ∷ 32 ∷ 32 ∷ 32 ∷ [])) (codes "frame 0 items 2 dropped 0\n")
unfolding digits after_word after_resource after_encoder_line i32_number word_in hex_value hex_byte skip_piece attribute_piece part_field
uniform_value_stays = refl

view_order_by_number : told (played false serial (codes "scene 1\nsize 1 1\nencoders 1\nframe\nlayout p position:fixed:2\nuniform u_color vec4\nprogram s solid\ntexture c 1 1 rgba8 - fill:00000000\nfb t c -\nprogram x texture\nview 1 target t\nencoder 0\nbind 0 c\ntvertices p 0000ffff0000010000000300000001000000ffff0000fdff\nsubmit 0 x 0 255\nset u_color 8224 8224 8224 65536\ntvertices p 0000ffff0000010000000300000001000000ffff0000fdff\nsubmit 1 s 0 255\ndone\n"))
    ≡ run 0 (codes "P6\n1 1\n255\n" ++ (0 ∷ 0 ∷ 0 ∷ [])) (codes "frame 0 items 2 dropped 0\n")
unfolding digits after_word after_resource after_encoder_line i32_number word_in hex_value hex_byte skip_piece attribute_piece part_field
view_order_by_number = refl

view_order_list : told (played false serial (codes "scene 1\nsize 1 1\nencoders 1\nframe\nlayout p position:fixed:2\nuniform u_color vec4\nprogram s solid\ntexture c 1 1 rgba8 - fill:00000000\nfb t c -\nprogram x texture\nview 1 target t\norder 1 0\nencoder 0\nbind 0 c\ntvertices p 0000ffff0000010000000300000001000000ffff0000fdff\nsubmit 0 x 0 255\nset u_color 8224 8224 8224 65536\ntvertices p 0000ffff0000010000000300000001000000ffff0000fdff\nsubmit 1 s 0 255\ndone\n"))
    ≡ run 0 (codes "P6\n1 1\n255\n" ++ (32 ∷ 32 ∷ 32 ∷ [])) (codes "frame 0 items 2 dropped 0\n")
unfolding digits after_word after_resource after_encoder_line i32_number word_in hex_value hex_byte skip_piece attribute_piece part_field
view_order_list = refl

view_past_the_last : told (played false serial (codes "scene 1\nsize 1 1\nencoders 1\nframe\nencoder 0\ntouch 256\ndone\n"))
    ≡ run 0 (codes "P6\n1 1\n255\n" ++ (0 ∷ 0 ∷ 0 ∷ [])) (codes "frame 0 items 0 dropped 1\n")
unfolding digits after_word after_resource after_encoder_line i32_number word_in hex_value hex_byte skip_piece attribute_piece part_field
view_past_the_last = refl

views_256_in_version_1 : told (played false serial (codes "scene 1\nsize 1 1\nencoders 1\nframe\nlayout p position:fixed:2\nuniform u_color vec4\nprogram s solid\nencoder 0\nset u_color 4112 4112 4112 65536\ntvertices p 0000ffff0000010000000300000001000000ffff0000fdff\nsubmit 0 s 0 255\nset u_color 8224 8224 8224 65536\ntvertices p 0000ffff0000010000000300000001000000ffff0000fdff\nsubmit 511 s 0 255\ntouch 512\ndone\n"))
    ≡ run 0 (codes "P6\n1 1\n255\n" ++ (16 ∷ 16 ∷ 16 ∷ [])) (codes "frame 0 items 1 dropped 2\n")
unfolding digits after_word after_resource after_encoder_line i32_number word_in hex_value hex_byte skip_piece attribute_piece part_field
views_256_in_version_1 = refl

views_512_by_number : told (played false serial (codes "scene 2\nsize 1 1\nencoders 1\nframe\nlayout p position:fixed:2\nuniform u_color vec4\nprogram s solid\nencoder 0\nset u_color 4112 4112 4112 65536\ntvertices p 0000ffff0000010000000300000001000000ffff0000fdff\nsubmit 0 s 0 255\nset u_color 8224 8224 8224 65536\ntvertices p 0000ffff0000010000000300000001000000ffff0000fdff\nsubmit 511 s 0 255\ntouch 512\ndone\n"))
    ≡ run 0 (codes "P6\n1 1\n255\n" ++ (32 ∷ 32 ∷ 32 ∷ [])) (codes "frame 0 items 2 dropped 1\n")
unfolding digits after_word after_resource after_encoder_line i32_number word_in hex_value hex_byte skip_piece attribute_piece part_field
views_512_by_number = refl

views_512_ordered : told (played false serial (codes "scene 2\nsize 1 1\nencoders 1\nframe\nlayout p position:fixed:2\nuniform u_color vec4\nprogram s solid\norder 511 0\nencoder 0\nset u_color 4112 4112 4112 65536\ntvertices p 0000ffff0000010000000300000001000000ffff0000fdff\nsubmit 0 s 0 255\nset u_color 8224 8224 8224 65536\ntvertices p 0000ffff0000010000000300000001000000ffff0000fdff\nsubmit 511 s 0 255\ntouch 512\ndone\n"))
    ≡ run 0 (codes "P6\n1 1\n255\n" ++ (16 ∷ 16 ∷ 16 ∷ [])) (codes "frame 0 items 2 dropped 1\n")
unfolding digits after_word after_resource after_encoder_line i32_number word_in hex_value hex_byte skip_piece attribute_piece part_field
views_512_ordered = refl
