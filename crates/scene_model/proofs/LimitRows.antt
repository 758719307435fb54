-- Limits by computation, from bytes: each field at its limit and one past it.
use Rattle.std.specs.Prelude.{◌≡◌, ℕ, pos, negsuc, List, [], ◌∷◌, ◌++◌, map, take, flat_map, replicate, Result, Ok, Err, refl, codes}
use Rattle.gfx_model.specs.Recorder.{Room}
use Rattle.gfx_model.specs.Vertex.{skip_part}
use Rattle.scene_model.specs.Scene.{ResourceLine, layout_line, Scene}
use Rattle.scene_model.specs.Field.{i32_number, word_in, hex_value, hex_byte, skip_piece, attribute_piece, part_field}
use Rattle.scene_model.specs.Grammar.{Fault, scene_of, whole_language, after_word, after_resource, after_encoder_line}
use Rattle.scene_model.specs.Journal.{pictures, serial}
use Rattle.scene_model.specs.JournalText.{journal_of}

abbrev fault : ℕ → ℕ → Result Scene Fault
fault line cause = Err (record { line = line; cause = cause })

abbrev rooms : Result Scene Fault → List Room
rooms (Ok s) = s.room ∷ []
rooms (Err f) = []

abbrev lines_before : Result Scene Fault → List (List ResourceLine)
lines_before (Ok s) = map (λ f. f.before) s.frames
lines_before (Err f) = []

-- red, green and blue of each pixel, of each picture
abbrev shown : Result Scene Fault → List (List ℕ)
shown (Ok s) = map (λ t. flat_map (take 3) t.texels) (pictures s (serial s))
shown (Err f) = []

-- ---- the room

greatest_room : rooms (scene_of whole_language (codes "scene 1\nsize 1 1\nencoders 1\nroom 8191 1048576 8191\nframe\ndone\n")) ≡ record { items = 8191; bytes = 1048576; uniforms = 8191 } ∷ []
unfolding after_word
greatest_room = refl

least_room : rooms (scene_of whole_language (codes "scene 1\nsize 1 1\nencoders 1\nroom 1 0 0\nframe\ndone\n")) ≡ record { items = 1; bytes = 0; uniforms = 0 } ∷ []
unfolding after_word
least_room = refl

items_too_many : scene_of whole_language (codes "scene 1\nsize 1 1\nencoders 1\nroom 8192 0 0\n") ≡ fault 4 7
unfolding after_word
items_too_many = refl

items_too_few : scene_of whole_language (codes "scene 1\nsize 1 1\nencoders 1\nroom 0 0 0\n") ≡ fault 4 7
unfolding after_word
items_too_few = refl

bytes_too_many : scene_of whole_language (codes "scene 1\nsize 1 1\nencoders 1\nroom 1 1048577 0\n") ≡ fault 4 7
unfolding after_word
bytes_too_many = refl

uniforms_too_many : scene_of whole_language (codes "scene 1\nsize 1 1\nencoders 1\nroom 1 0 8192\n") ≡ fault 4 7
unfolding after_word
uniforms_too_many = refl

-- ---- numbers of i32

least_integer : i32_number (codes "-2147483648") ≡ Ok (negsuc 2147483647)
unfolding i32_number
least_integer = refl

integer_too_low : i32_number (codes "-2147483649") ≡ Err 7
unfolding i32_number
integer_too_low = refl

greatest_integer : i32_number (codes "2147483647") ≡ Ok (pos 2147483647)
unfolding i32_number
greatest_integer = refl

integer_too_high : i32_number (codes "2147483648") ≡ Err 7
unfolding i32_number
integer_too_high = refl

-- ---- layouts

abbrev skips : ℕ → List ℕ
skips n = codes "scene 1\nsize 1 1\nencoders 1\nframe\nlayout p" ++ (flat_map (λ s. s) (replicate n (codes " skip:1")) ++ codes "\ndone\n")

most_parts : lines_before (scene_of whole_language (skips 15)) ≡ (layout_line 0 (replicate 15 (skip_part 1)) ∷ []) ∷ []
unfolding after_word after_resource skip_piece part_field
most_parts = refl

parts_too_many : scene_of whole_language (skips 16) ≡ fault 5 5
unfolding after_word after_resource
parts_too_many = refl

no_parts : scene_of whole_language (skips 0) ≡ fault 5 5
unfolding after_word after_resource
no_parts = refl

-- ---- journals

greatest_entry : journal_of (codes "j 255:4294967295\n") 1 ≡ Ok ((record { encoder = 255; ordinal = 4294967295 } ∷ []) ∷ [])
greatest_entry = refl

encoder_too_great : journal_of (codes "j 256:0\n") 1 ≡ Err 0
encoder_too_great = refl

ordinal_too_great : journal_of (codes "j 0:4294967296\n") 1 ≡ Err 0
ordinal_too_great = refl

-- ---- the sampled stage

-- a stage below 0 has no texture: the draw stores zeros over the clear
negative_stage : shown (scene_of whole_language (codes "scene 1\nsize 1 1\nencoders 1\nframe\nlayout g position:fixed:2\nprogram x texture\nuniform s_tex int\ntexture a 1 1 rgba8 - fill:404040ff\nview 0 clear 1 ff0000ff 0 0\nencoder 0\nset s_tex -1\nbind 0 a\nbind 1 a\ntvertices g 0000ffff0000010000000300000001000000ffff0000fdff\nsubmit 0 x 0 255\ndone\n"))
    ≡ (0 ∷ 0 ∷ 0 ∷ []) ∷ []
unfolding after_word after_resource after_encoder_line i32_number word_in hex_value hex_byte skip_piece attribute_piece part_field
negative_stage = refl

first_stage : shown (scene_of whole_language (codes "scene 1\nsize 1 1\nencoders 1\nframe\nlayout g position:fixed:2\nprogram x texture\nuniform s_tex int\ntexture a 1 1 rgba8 - fill:404040ff\nview 0 clear 1 ff0000ff 0 0\nencoder 0\nset s_tex 1\nbind 1 a\ntvertices g 0000ffff0000010000000300000001000000ffff0000fdff\nsubmit 0 x 0 255\ndone\n"))
    ≡ (64 ∷ 64 ∷ 64 ∷ []) ∷ []
unfolding after_word after_resource after_encoder_line i32_number word_in hex_value hex_byte skip_piece attribute_piece part_field
first_stage = refl
