-- Edges by computation: sides of 0, the stencil's mask, the greatest number of frames, the generated scene's items.
use Rattle.std.specs.Prelude.{◌≡◌, ℕ, List, [], ◌∷◌, ◌++◌, map, take, flat_map, replicate, Result, Ok, Err, refl, codes}
use Rattle.scene_model.specs.Scene.{Scene}
use Rattle.scene_model.specs.Field.{i32_number, word_in, hex_value, hex_byte, skip_piece, attribute_piece, part_field}
use Rattle.scene_model.specs.Grammar.{Fault, scene_of, whole_language, after_word, after_resource, after_encoder_line}
use Rattle.scene_model.specs.Fold.{plans}
use Rattle.scene_model.specs.Journal.{pictures, serial}
use Rattle.scene_model.specs.Output.{frame_items, frame_dropped}
use Rattle.scene_model.specs.Generated.{generated}

-- red, green and blue of each pixel, of each picture
abbrev shown : Result Scene Fault → List (List ℕ)
shown (Ok s) = map (λ t. flat_map (take 3) t.texels) (pictures s (serial s))
shown (Err f) = []

abbrev frames_read : Result Scene Fault → List ℕ
frames_read (Ok s) = map frame_items (plans s)
frames_read (Err f) = f.line ∷ f.cause ∷ []

-- the stored 37 and the reference 21 are equal under the mask 15
masked_stencil_passes : shown (scene_of whole_language (codes "scene 1\nsize 1 1\nencoders 1\nframe\nlayout p position:fixed:2\nuniform u_color vec4\nprogram s solid\nview 0 clear 4 00000000 0 37\nencoder 0\nstate 15\nstencil 286461717 0\nset u_color 8224 8224 8224 65536\ntvertices p 0000ffff0000010000000300000001000000ffff0000fdff\nsubmit 0 s 0 255\ndone\n"))
    ≡ (32 ∷ 32 ∷ 32 ∷ []) ∷ []
unfolding after_word after_resource after_encoder_line i32_number word_in hex_value hex_byte skip_piece attribute_piece part_field
masked_stencil_passes = refl

-- without the mask they differ
unmasked_stencil_fails : shown (scene_of whole_language (codes "scene 1\nsize 1 1\nencoders 1\nframe\nlayout p position:fixed:2\nuniform u_color vec4\nprogram s solid\nview 0 clear 4 00000000 0 37\nencoder 0\nstate 15\nstencil 286523157 0\nset u_color 8224 8224 8224 65536\ntvertices p 0000ffff0000010000000300000001000000ffff0000fdff\nsubmit 0 s 0 255\ndone\n"))
    ≡ (0 ∷ 0 ∷ 0 ∷ []) ∷ []
unfolding after_word after_resource after_encoder_line i32_number word_in hex_value hex_byte skip_piece attribute_piece part_field
unmasked_stencil_fails = refl

-- a rectangle with one side 0 is empty: nothing is cleared or drawn
rectangle_with_one_side : shown (scene_of whole_language (codes "scene 1\nsize 1 1\nencoders 1\nframe\nlayout p position:fixed:2\nuniform u_color vec4\nprogram s solid\nview 0 rect 0 0 0 1\nview 0 clear 1 ff0000ff 0 0\nencoder 0\nset u_color 8224 8224 8224 65536\ntvertices p 0000ffff0000010000000300000001000000ffff0000fdff\nsubmit 0 s 0 255\ndone\n"))
    ≡ (0 ∷ 0 ∷ 0 ∷ []) ∷ []
unfolding after_word after_resource after_encoder_line i32_number word_in hex_value hex_byte skip_piece attribute_piece part_field
rectangle_with_one_side = refl

-- a scissor with one side 0 drops all, one with both sides 0 is none
scissor_with_one_side : shown (scene_of whole_language (codes "scene 1\nsize 1 1\nencoders 1\nframe\nlayout p position:fixed:2\nuniform u_color vec4\nprogram s solid\nencoder 0\nset u_color 8224 8224 8224 65536\nscissor 0 0 1 0\ntvertices p 0000ffff0000010000000300000001000000ffff0000fdff\nsubmit 0 s 0 255\ndone\n"))
    ≡ (0 ∷ 0 ∷ 0 ∷ []) ∷ []
unfolding after_word after_resource after_encoder_line i32_number word_in hex_value hex_byte skip_piece attribute_piece part_field
scissor_with_one_side = refl

scissor_without_sides : shown (scene_of whole_language (codes "scene 1\nsize 1 1\nencoders 1\nframe\nlayout p position:fixed:2\nuniform u_color vec4\nprogram s solid\nencoder 0\nset u_color 8224 8224 8224 65536\nscissor 9 9 0 0\ntvertices p 0000ffff0000010000000300000001000000ffff0000fdff\nsubmit 0 s 0 255\ndone\n"))
    ≡ (32 ∷ 32 ∷ 32 ∷ []) ∷ []
unfolding after_word after_resource after_encoder_line i32_number word_in hex_value hex_byte skip_piece attribute_piece part_field
scissor_without_sides = refl

view_scissor_with_one_side : shown (scene_of whole_language (codes "scene 1\nsize 1 1\nencoders 1\nframe\nlayout p position:fixed:2\nuniform u_color vec4\nprogram s solid\nview 0 scissor 0 0 0 1\nencoder 0\nset u_color 8224 8224 8224 65536\ntvertices p 0000ffff0000010000000300000001000000ffff0000fdff\nsubmit 0 s 0 255\ndone\n"))
    ≡ (0 ∷ 0 ∷ 0 ∷ []) ∷ []
unfolding after_word after_resource after_encoder_line i32_number word_in hex_value hex_byte skip_piece attribute_piece part_field
view_scissor_with_one_side = refl

-- a blit of no columns copies nothing
blit_without_sides : shown (scene_of whole_language (codes "scene 1\nsize 1 1\nencoders 1\nframe\nlayout g position:fixed:2\nprogram x texture\ntexture a 1 1 rgba8 dst fill:101010ff\ntexture b 1 1 rgba8 - fill:404040ff\nencoder 0\nblit 0 a 0 0 b 0 0 0 1\nbind 0 a\ntvertices g 0000ffff0000010000000300000001000000ffff0000fdff\nsubmit 0 x 0 255\ndone\n"))
    ≡ (16 ∷ 16 ∷ 16 ∷ []) ∷ []
unfolding after_word after_resource after_encoder_line i32_number word_in hex_value hex_byte skip_piece attribute_piece part_field
blit_without_sides = refl

-- the 1,024th frame is taken and the 1,025th is refused, with its line
abbrev frames_text : ℕ → List ℕ
frames_text n = codes "scene 1\nsize 1 1\nencoders 1\n" ++ flat_map (λ l. l) (replicate n (codes "frame\n")) ++ codes "done\n"

all_frames : frames_read (scene_of whole_language (frames_text 1024)) ≡ replicate 1024 0
unfolding after_word after_resource after_encoder_line i32_number word_in hex_value hex_byte skip_piece attribute_piece part_field
all_frames = refl

frame_too_many : scene_of whole_language (frames_text 1025) ≡ Err (record { line = 1028; cause = 7 })
unfolding after_word after_resource after_encoder_line i32_number word_in hex_value hex_byte skip_piece attribute_piece part_field
frame_too_many = refl

-- the generated scene has 1,200 items in a frame, and no line is dropped
generated_items : map frame_items (plans (generated 1)) ≡ 1200 ∷ []
generated_items = refl

generated_dropped : map frame_dropped (plans (generated 1)) ≡ 0 ∷ []
generated_dropped = refl
