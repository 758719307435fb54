-- Scenes that no text is read as, each with what is read of what is written of it.
use Rattle.std.specs.Prelude.{◌≡◌, ℕ, pos, negsuc, List, [], ◌∷◌, length, replicate, None, Result, Ok, Err, refl, codes}
use Rattle.std.proofs.Common.{ap, sym, ◌∙◌}
use Rattle.std.specs.List.{range_with_len}
use Rattle.std.specs.Fmt.{digits}
use Rattle.gfx_model.specs.Words.{solid, vec4, vec4_value}
use Rattle.gfx_model.specs.Vertex.{attribute_part, position_attribute, fixed_type}
use Rattle.scene_model.specs.Scene.{ResourceLine, EncoderLine, layout_line, program_line, uniform_line, destroy_line, clear_line, reset_line, order_line, transform_line, bind_line, set_line, Block, Scene}
use Rattle.scene_model.specs.Field.{i32_number, word_in, hex_value, hex_byte, skip_piece, attribute_piece, part_field}
use Rattle.scene_model.specs.Grammar.{Fault, plain_room, empty_frame, scene_of, whole_language, after_word, after_resource, after_encoder_line}
use Rattle.spelling_model.specs.Readable.{IsReadable}
use Rattle.spelling_model.specs.Written.{written}
use Rattle.spelling_model.proofs.Writing.{readable-law}

-- one frame without lines
abbrev plain : Scene
plain = record { version = 1; width = 1; height = 1; encoders = 1; room = plain_room; latency = 1; names = []; frames = empty_frame ∷ [] }

abbrev in_frame : List ResourceLine → List Block → Scene
in_frame before blocks = record plain { frames = record { before = before; blocks = blocks; beside = [] } ∷ [] }

abbrev block : ℕ → List EncoderLine → Block
block e lines = record { encoder = e; lines = lines }

no_scene : (s : Scene) (f : Fault) → ◌≡◌ {A = Result Scene Fault} (Err f) (Ok s) → ⊥
no_scene s f e = cc e

-- what is written of a scene is refused at a line
abbrev RefusedAt : ℕ → ℕ → Scene → Type 0
RefusedAt line cause s = scene_of whole_language (written s) ≡ Err (record { line = line; cause = cause })

unreadable : (line cause : ℕ) (s : Scene) → RefusedAt line cause s → IsReadable s → ⊥
unreadable line cause s e r = no_scene s (record { line = line; cause = cause }) (sym e ∙ (readable-law s).1.0 r)

plain_is_read : scene_of whole_language (written plain) ≡ Ok plain
unfolding digits after_word after_resource after_encoder_line i32_number word_in hex_value hex_byte skip_piece attribute_piece part_field
plain_is_read = refl

plain_is_readable : IsReadable plain
plain_is_readable = (readable-law plain).1.1 plain_is_read

-- a version that is none
version_three_refused : RefusedAt 1 12 (record plain { version = 3 })
unfolding digits after_word after_resource after_encoder_line i32_number word_in hex_value hex_byte skip_piece attribute_piece part_field
version_three_refused = refl

version_three : IsReadable (record plain { version = 3 }) → ⊥
version_three r = unreadable 1 12 (record plain { version = 3 }) version_three_refused r

-- no version at all
version_zero_refused : RefusedAt 1 7 (record plain { version = 0 })
unfolding digits after_word after_resource after_encoder_line i32_number word_in hex_value hex_byte skip_piece attribute_piece part_field
version_zero_refused = refl

version_zero : IsReadable (record plain { version = 0 }) → ⊥
version_zero r = unreadable 1 7 (record plain { version = 0 }) version_zero_refused r

-- the first version says no latency: what is written leaves it out, and so another scene is read
latency_is_left_out : scene_of whole_language (written (record plain { latency = 2 })) ≡ Ok plain
unfolding digits after_word after_resource after_encoder_line i32_number word_in hex_value hex_byte skip_piece attribute_piece part_field
latency_is_left_out = refl

two_is_one : ◌≡◌ {A = Result Scene Fault} (Ok plain) (Ok (record plain { latency = 2 })) → ⊥
two_is_one e = let scenes : plain ≡ record plain { latency = 2 } = cc e in let numbers : 1 ≡ 2 = ap (λ s. s.latency) scenes in cc numbers

latency_in_version_one : IsReadable (record plain { latency = 2 }) → ⊥
latency_in_version_one r = two_is_one (sym latency_is_left_out ∙ (readable-law (record plain { latency = 2 })).1.0 r)

-- a name that no line binds: another scene is read
name_is_left_out : scene_of whole_language (written (record plain { names = codes "a" ∷ [] })) ≡ Ok plain
unfolding digits after_word after_resource after_encoder_line i32_number word_in hex_value hex_byte skip_piece attribute_piece part_field
name_is_left_out = refl

none_is_one : ◌≡◌ {A = Result Scene Fault} (Ok plain) (Ok (record plain { names = codes "a" ∷ [] })) → ⊥
none_is_one e = let scenes : plain ≡ record plain { names = codes "a" ∷ [] } = cc e in let counts : 0 ≡ 1 = ap (λ s. length s.names) scenes in cc counts

name_without_line : IsReadable (record plain { names = codes "a" ∷ [] }) → ⊥
name_without_line r = none_is_one (sym name_is_left_out ∙ (readable-law (record plain { names = codes "a" ∷ [] })).1.0 r)

-- a latency past the greatest
latency_of_four_refused : RefusedAt 5 7 (record plain { version = 2; latency = 4 })
unfolding digits after_word after_resource after_encoder_line i32_number word_in hex_value hex_byte skip_piece attribute_piece part_field
latency_of_four_refused = refl

latency_of_four : IsReadable (record plain { version = 2; latency = 4 }) → ⊥
latency_of_four r = unreadable 5 7 (record plain { version = 2; latency = 4 }) latency_of_four_refused r

-- no frame out
latency_of_none_refused : RefusedAt 5 7 (record plain { version = 2; latency = 0 })
unfolding digits after_word after_resource after_encoder_line i32_number word_in hex_value hex_byte skip_piece attribute_piece part_field
latency_of_none_refused = refl

latency_of_none : IsReadable (record plain { version = 2; latency = 0 }) → ⊥
latency_of_none r = unreadable 5 7 (record plain { version = 2; latency = 0 }) latency_of_none_refused r

-- a side of 0, and one past the greatest
width_of_none_refused : RefusedAt 2 7 (record plain { width = 0 })
unfolding digits after_word after_resource after_encoder_line i32_number word_in hex_value hex_byte skip_piece attribute_piece part_field
width_of_none_refused = refl

width_of_none : IsReadable (record plain { width = 0 }) → ⊥
width_of_none r = unreadable 2 7 (record plain { width = 0 }) width_of_none_refused r

height_too_great_refused : RefusedAt 2 7 (record plain { height = 2049 })
unfolding digits after_word after_resource after_encoder_line i32_number word_in hex_value hex_byte skip_piece attribute_piece part_field
height_too_great_refused = refl

height_too_great : IsReadable (record plain { height = 2049 }) → ⊥
height_too_great r = unreadable 2 7 (record plain { height = 2049 }) height_too_great_refused r

-- no encoder, and one too many
no_encoder_refused : RefusedAt 3 7 (record plain { encoders = 0 })
unfolding digits after_word after_resource after_encoder_line i32_number word_in hex_value hex_byte skip_piece attribute_piece part_field
no_encoder_refused = refl

no_encoder : IsReadable (record plain { encoders = 0 }) → ⊥
no_encoder r = unreadable 3 7 (record plain { encoders = 0 }) no_encoder_refused r

nine_encoders_refused : RefusedAt 3 7 (record plain { encoders = 9 })
unfolding digits after_word after_resource after_encoder_line i32_number word_in hex_value hex_byte skip_piece attribute_piece part_field
nine_encoders_refused = refl

nine_encoders : IsReadable (record plain { encoders = 9 }) → ⊥
nine_encoders r = unreadable 3 7 (record plain { encoders = 9 }) nine_encoders_refused r

-- a room without items, and one of too many bytes
room_of_no_items_refused : RefusedAt 4 7 (record plain { room = record { items = 0; bytes = 0; uniforms = 0 } })
unfolding digits after_word after_resource after_encoder_line i32_number word_in hex_value hex_byte skip_piece attribute_piece part_field
room_of_no_items_refused = refl

room_of_no_items : IsReadable (record plain { room = record { items = 0; bytes = 0; uniforms = 0 } }) → ⊥
room_of_no_items r = unreadable 4 7 (record plain { room = record { items = 0; bytes = 0; uniforms = 0 } }) room_of_no_items_refused r

room_of_too_many_bytes_refused : RefusedAt 4 7 (record plain { room = record { items = 1; bytes = 1048577; uniforms = 0 } })
unfolding digits after_word after_resource after_encoder_line i32_number word_in hex_value hex_byte skip_piece attribute_piece part_field
room_of_too_many_bytes_refused = refl

room_of_too_many_bytes : IsReadable (record plain { room = record { items = 1; bytes = 1048577; uniforms = 0 } }) → ⊥
room_of_too_many_bytes r = unreadable 4 7 (record plain { room = record { items = 1; bytes = 1048577; uniforms = 0 } }) room_of_too_many_bytes_refused r

-- no frame
no_frame_refused : RefusedAt 5 4 (record plain { frames = [] })
unfolding digits after_word after_resource after_encoder_line i32_number word_in hex_value hex_byte skip_piece attribute_piece part_field
no_frame_refused = refl

no_frame : IsReadable (record plain { frames = [] }) → ⊥
no_frame r = unreadable 5 4 (record plain { frames = [] }) no_frame_refused r

-- a block of an encoder that is not there, and blocks that do not ascend
block_past_the_encoders_refused : RefusedAt 6 4 (in_frame [] (block 1 [] ∷ []))
unfolding digits after_word after_resource after_encoder_line i32_number word_in hex_value hex_byte skip_piece attribute_piece part_field
block_past_the_encoders_refused = refl

block_past_the_encoders : IsReadable (in_frame [] (block 1 [] ∷ [])) → ⊥
block_past_the_encoders r = unreadable 6 4 (in_frame [] (block 1 [] ∷ [])) block_past_the_encoders_refused r

blocks_in_another_order_refused : RefusedAt 7 4 (record (in_frame [] (block 1 [] ∷ block 0 [] ∷ [])) { encoders = 2 })
unfolding digits after_word after_resource after_encoder_line i32_number word_in hex_value hex_byte skip_piece attribute_piece part_field
blocks_in_another_order_refused = refl

blocks_in_another_order : IsReadable (record (in_frame [] (block 1 [] ∷ block 0 [] ∷ [])) { encoders = 2 }) → ⊥
blocks_in_another_order r = unreadable 7 4 (record (in_frame [] (block 1 [] ∷ block 0 [] ∷ [])) { encoders = 2 }) blocks_in_another_order_refused r

blocks_of_one_encoder_refused : RefusedAt 7 4 (record (in_frame [] (block 0 [] ∷ block 0 [] ∷ [])) { encoders = 2 })
unfolding digits after_word after_resource after_encoder_line i32_number word_in hex_value hex_byte skip_piece attribute_piece part_field
blocks_of_one_encoder_refused = refl

blocks_of_one_encoder : IsReadable (record (in_frame [] (block 0 [] ∷ block 0 [] ∷ [])) { encoders = 2 }) → ⊥
blocks_of_one_encoder r = unreadable 7 4 (record (in_frame [] (block 0 [] ∷ block 0 [] ∷ [])) { encoders = 2 }) blocks_of_one_encoder_refused r

-- a name that is used before it is bound, and one that is bound twice
name_not_bound_refused : RefusedAt 6 10 (record (in_frame (destroy_line 0 ∷ program_line 0 solid ∷ []) []) { names = codes "a" ∷ [] })
unfolding digits after_word after_resource after_encoder_line i32_number word_in hex_value hex_byte skip_piece attribute_piece part_field
name_not_bound_refused = refl

name_not_bound : IsReadable (record (in_frame (destroy_line 0 ∷ program_line 0 solid ∷ []) []) { names = codes "a" ∷ [] }) → ⊥
name_not_bound r = unreadable 6 10 (record (in_frame (destroy_line 0 ∷ program_line 0 solid ∷ []) []) { names = codes "a" ∷ [] }) name_not_bound_refused r

name_bound_twice_refused : RefusedAt 7 9 (record (in_frame (program_line 0 solid ∷ program_line 0 solid ∷ []) []) { names = codes "a" ∷ [] })
unfolding digits after_word after_resource after_encoder_line i32_number word_in hex_value hex_byte skip_piece attribute_piece part_field
name_bound_twice_refused = refl

name_bound_twice : IsReadable (record (in_frame (program_line 0 solid ∷ program_line 0 solid ∷ []) []) { names = codes "a" ∷ [] }) → ⊥
name_bound_twice r = unreadable 7 9 (record (in_frame (program_line 0 solid ∷ program_line 0 solid ∷ []) []) { names = codes "a" ∷ [] }) name_bound_twice_refused r

name_of_two_kinds_refused : RefusedAt 7 9 (record (in_frame (program_line 0 solid ∷ uniform_line 0 vec4 ∷ []) []) { names = codes "a" ∷ [] })
unfolding digits after_word after_resource after_encoder_line i32_number word_in hex_value hex_byte skip_piece attribute_piece part_field
name_of_two_kinds_refused = refl

name_of_two_kinds : IsReadable (record (in_frame (program_line 0 solid ∷ uniform_line 0 vec4 ∷ []) []) { names = codes "a" ∷ [] }) → ⊥
name_of_two_kinds r = unreadable 7 9 (record (in_frame (program_line 0 solid ∷ uniform_line 0 vec4 ∷ []) []) { names = codes "a" ∷ [] }) name_of_two_kinds_refused r

-- a name that is not in the list, and one that is not spelled as a name
name_past_the_list_refused : RefusedAt 6 5 (in_frame (program_line 0 solid ∷ []) [])
unfolding digits after_word after_resource after_encoder_line i32_number word_in hex_value hex_byte skip_piece attribute_piece part_field
name_past_the_list_refused = refl

name_past_the_list : IsReadable (in_frame (program_line 0 solid ∷ []) []) → ⊥
name_past_the_list r = unreadable 6 5 (in_frame (program_line 0 solid ∷ []) []) name_past_the_list_refused r

name_of_a_capital_refused : RefusedAt 6 8 (record (in_frame (program_line 0 solid ∷ []) []) { names = codes "A" ∷ [] })
unfolding digits after_word after_resource after_encoder_line i32_number word_in hex_value hex_byte skip_piece attribute_piece part_field
name_of_a_capital_refused = refl

name_of_a_capital : IsReadable (record (in_frame (program_line 0 solid ∷ []) []) { names = codes "A" ∷ [] }) → ⊥
name_of_a_capital r = unreadable 6 8 (record (in_frame (program_line 0 solid ∷ []) []) { names = codes "A" ∷ [] }) name_of_a_capital_refused r

name_of_a_newline_refused : RefusedAt 6 5 (record (in_frame (program_line 0 solid ∷ []) []) { names = codes "a\n" ∷ [] })
unfolding digits after_word after_resource after_encoder_line i32_number word_in hex_value hex_byte skip_piece attribute_piece part_field
name_of_a_newline_refused = refl

name_of_a_newline : IsReadable (record (in_frame (program_line 0 solid ∷ []) []) { names = codes "a\n" ∷ [] }) → ⊥
name_of_a_newline r = unreadable 6 5 (record (in_frame (program_line 0 solid ∷ []) []) { names = codes "a\n" ∷ [] }) name_of_a_newline_refused r

-- values past their fields
view_past_two_bytes_refused : RefusedAt 6 7 (in_frame (reset_line 65536 ∷ []) [])
unfolding digits after_word after_resource after_encoder_line i32_number word_in hex_value hex_byte skip_piece attribute_piece part_field
view_past_two_bytes_refused = refl

view_past_two_bytes : IsReadable (in_frame (reset_line 65536 ∷ []) []) → ⊥
view_past_two_bytes r = unreadable 6 7 (in_frame (reset_line 65536 ∷ []) []) view_past_two_bytes_refused r

colour_of_three_bytes_refused : RefusedAt 6 11 (in_frame (clear_line 0 (record { flags = 1; color = 0 ∷ 0 ∷ 0 ∷ []; depth = 0; stencil = 0 }) ∷ []) [])
unfolding digits after_word after_resource after_encoder_line i32_number word_in hex_value hex_byte skip_piece attribute_piece part_field
colour_of_three_bytes_refused = refl

colour_of_three_bytes : IsReadable (in_frame (clear_line 0 (record { flags = 1; color = 0 ∷ 0 ∷ 0 ∷ []; depth = 0; stencil = 0 }) ∷ []) []) → ⊥
colour_of_three_bytes r = unreadable 6 11 (in_frame (clear_line 0 (record { flags = 1; color = 0 ∷ 0 ∷ 0 ∷ []; depth = 0; stencil = 0 }) ∷ []) []) colour_of_three_bytes_refused r

depth_past_three_bytes_refused : RefusedAt 6 7 (in_frame (clear_line 0 (record { flags = 1; color = 0 ∷ 0 ∷ 0 ∷ 0 ∷ []; depth = 16777216; stencil = 0 }) ∷ []) [])
unfolding digits after_word after_resource after_encoder_line i32_number word_in hex_value hex_byte skip_piece attribute_piece part_field
depth_past_three_bytes_refused = refl

depth_past_three_bytes : IsReadable (in_frame (clear_line 0 (record { flags = 1; color = 0 ∷ 0 ∷ 0 ∷ 0 ∷ []; depth = 16777216; stencil = 0 }) ∷ []) []) → ⊥
depth_past_three_bytes r = unreadable 6 7 (in_frame (clear_line 0 (record { flags = 1; color = 0 ∷ 0 ∷ 0 ∷ 0 ∷ []; depth = 16777216; stencil = 0 }) ∷ []) []) depth_past_three_bytes_refused r

transform_of_one_number_refused : RefusedAt 7 5 (in_frame [] (block 0 (transform_line (pos 0 ∷ []) ∷ []) ∷ []))
unfolding digits after_word after_resource after_encoder_line i32_number word_in hex_value hex_byte skip_piece attribute_piece part_field
transform_of_one_number_refused = refl

transform_of_one_number : IsReadable (in_frame [] (block 0 (transform_line (pos 0 ∷ []) ∷ []) ∷ [])) → ⊥
transform_of_one_number r = unreadable 7 5 (in_frame [] (block 0 (transform_line (pos 0 ∷ []) ∷ []) ∷ [])) transform_of_one_number_refused r

transform_past_four_bytes_refused : RefusedAt 7 7 (in_frame [] (block 0 (transform_line (replicate 12 (negsuc 2147483648)) ∷ []) ∷ []))
unfolding digits after_word after_resource after_encoder_line i32_number word_in hex_value hex_byte skip_piece attribute_piece part_field
transform_past_four_bytes_refused = refl

transform_past_four_bytes : IsReadable (in_frame [] (block 0 (transform_line (replicate 12 (negsuc 2147483648)) ∷ []) ∷ [])) → ⊥
transform_past_four_bytes r = unreadable 7 7 (in_frame [] (block 0 (transform_line (replicate 12 (negsuc 2147483648)) ∷ []) ∷ [])) transform_past_four_bytes_refused r

stage_past_a_byte_refused : RefusedAt 7 7 (in_frame [] (block 0 (bind_line 256 None ∷ []) ∷ []))
unfolding digits after_word after_resource after_encoder_line i32_number word_in hex_value hex_byte skip_piece attribute_piece part_field
stage_past_a_byte_refused = refl

stage_past_a_byte : IsReadable (in_frame [] (block 0 (bind_line 256 None ∷ []) ∷ [])) → ⊥
stage_past_a_byte r = unreadable 7 7 (in_frame [] (block 0 (bind_line 256 None ∷ []) ∷ [])) stage_past_a_byte_refused r

vector_of_three_numbers_refused : RefusedAt 8 5 (record (in_frame (uniform_line 0 vec4 ∷ []) (block 0 (set_line 0 (vec4_value (pos 0 ∷ pos 0 ∷ pos 0 ∷ [])) ∷ []) ∷ [])) { names = codes "a" ∷ [] })
unfolding digits after_word after_resource after_encoder_line i32_number word_in hex_value hex_byte skip_piece attribute_piece part_field
vector_of_three_numbers_refused = refl

vector_of_three_numbers : IsReadable (record (in_frame (uniform_line 0 vec4 ∷ []) (block 0 (set_line 0 (vec4_value (pos 0 ∷ pos 0 ∷ pos 0 ∷ [])) ∷ []) ∷ [])) { names = codes "a" ∷ [] }) → ⊥
vector_of_three_numbers r = unreadable 8 5 (record (in_frame (uniform_line 0 vec4 ∷ []) (block 0 (set_line 0 (vec4_value (pos 0 ∷ pos 0 ∷ pos 0 ∷ [])) ∷ []) ∷ [])) { names = codes "a" ∷ [] }) vector_of_three_numbers_refused r

part_of_five_components_refused : RefusedAt 6 11 (record (in_frame (layout_line 0 (attribute_part position_attribute fixed_type 5 ∷ []) ∷ []) []) { names = codes "a" ∷ [] })
unfolding digits after_word after_resource after_encoder_line i32_number word_in hex_value hex_byte skip_piece attribute_piece part_field
part_of_five_components_refused = refl

part_of_five_components : IsReadable (record (in_frame (layout_line 0 (attribute_part position_attribute fixed_type 5 ∷ []) ∷ []) []) { names = codes "a" ∷ [] }) → ⊥
part_of_five_components r = unreadable 6 11 (record (in_frame (layout_line 0 (attribute_part position_attribute fixed_type 5 ∷ []) ∷ []) []) { names = codes "a" ∷ [] }) part_of_five_components_refused r

layout_without_parts_refused : RefusedAt 6 5 (record (in_frame (layout_line 0 [] ∷ []) []) { names = codes "a" ∷ [] })
unfolding digits after_word after_resource after_encoder_line i32_number word_in hex_value hex_byte skip_piece attribute_piece part_field
layout_without_parts_refused = refl

layout_without_parts : IsReadable (record (in_frame (layout_line 0 [] ∷ []) []) { names = codes "a" ∷ [] }) → ⊥
layout_without_parts r = unreadable 6 5 (record (in_frame (layout_line 0 [] ∷ []) []) { names = codes "a" ∷ [] }) layout_without_parts_refused r

order_past_the_views_refused : RefusedAt 6 5 (in_frame (order_line (range_with_len 0 257) ∷ []) [])
unfolding digits after_word after_resource after_encoder_line i32_number word_in hex_value hex_byte skip_piece attribute_piece part_field
order_past_the_views_refused = refl

order_past_the_views : IsReadable (in_frame (order_line (range_with_len 0 257) ∷ []) []) → ⊥
order_past_the_views r = unreadable 6 5 (in_frame (order_line (range_with_len 0 257) ∷ []) []) order_past_the_views_refused r
