-- Fields at which texts fail, by computation: the line, the cause, and the field.
use Rattle.std.specs.Prelude.{◌≡◌, ℕ, List, ◌++◌, Option, Some, None, Result, Ok, Err, refl, codes}
use Rattle.std.specs.Fmt.{digits}
use Rattle.scene_model.specs.Scene.{Scene}
use Rattle.scene_model.specs.Field.{i32_number, word_in, hex_value, hex_byte, skip_piece, attribute_piece, part_field}
use Rattle.scene_model.specs.Grammar.{Fault, scene_of, whole_language, after_word, after_resource, after_encoder_line}
use Rattle.fault_fields.specs.Fields.{fault_field}

abbrev place_in : List ℕ → Result Scene Fault → ℕ × ℕ × Option ℕ
place_in bytes (Ok s) = (0, 0, None)
place_in bytes (Err f) = (f.line, f.cause, fault_field bytes f.line f.cause)

abbrev place_of : List ℕ → ℕ × ℕ × Option ℕ
place_of bytes = place_in bytes (scene_of whole_language bytes)

-- four lines, of which the last is `frame`
abbrev front : List ℕ
front = codes "scene 1\nsize 4 4\nencoders 2\nframe\n"

-- a byte that is no text byte
tab : place_of (front ++ codes "encoder 0\ntouch 0\t\n") ≡ (6, 1, Some 2)
unfolding digits after_word after_resource after_encoder_line i32_number word_in hex_value hex_byte skip_piece attribute_piece part_field
tab = refl

-- the text ends early
early : place_of (front ++ codes "encoder 0\n") ≡ (6, 2, None)
unfolding digits after_word after_resource after_encoder_line i32_number word_in hex_value hex_byte skip_piece attribute_piece part_field
early = refl

-- an unknown word
word : place_of (front ++ codes "progam p solid\n") ≡ (5, 3, Some 1)
unfolding digits after_word after_resource after_encoder_line i32_number word_in hex_value hex_byte skip_piece attribute_piece part_field
word = refl

-- a blank in front
front_blank : place_of (front ++ codes " touch 0\n") ≡ (5, 3, Some 1)
unfolding digits after_word after_resource after_encoder_line i32_number word_in hex_value hex_byte skip_piece attribute_piece part_field
front_blank = refl

-- an encoder that the scene does not have
encoder : place_of (front ++ codes "encoder 2\n") ≡ (5, 4, Some 2)
unfolding digits after_word after_resource after_encoder_line i32_number word_in hex_value hex_byte skip_piece attribute_piece part_field
encoder = refl

-- an encoder that does not follow
encoder_again : place_of (front ++ codes "encoder 1\ntouch 0\nencoder 0\n") ≡ (7, 4, Some 2)
unfolding digits after_word after_resource after_encoder_line i32_number word_in hex_value hex_byte skip_piece attribute_piece part_field
encoder_again = refl

-- an encoder behind `beside`
encoder_behind : place_of (front ++ codes "beside\nencoder 0\n") ≡ (6, 4, Some 1)
unfolding digits after_word after_resource after_encoder_line i32_number word_in hex_value hex_byte skip_piece attribute_piece part_field
encoder_behind = refl

-- an encoder line without a block
no_block : place_of (front ++ codes "touch 0\n") ≡ (5, 4, Some 1)
unfolding digits after_word after_resource after_encoder_line i32_number word_in hex_value hex_byte skip_piece attribute_piece part_field
no_block = refl

-- a field too few
count : place_of (front ++ codes "program p\n") ≡ (5, 5, Some 1)
unfolding digits after_word after_resource after_encoder_line i32_number word_in hex_value hex_byte skip_piece attribute_piece part_field
count = refl

-- two blanks side by side
empty : place_of (front ++ codes "encoder 0\nsubmit 0  0 255\n") ≡ (6, 5, Some 3)
unfolding digits after_word after_resource after_encoder_line i32_number word_in hex_value hex_byte skip_piece attribute_piece part_field
empty = refl

-- a side that is misspelt
side : place_of (codes "scene 1\nsize 02 2\n") ≡ (2, 6, Some 2)
unfolding digits after_word after_resource after_encoder_line i32_number word_in hex_value hex_byte skip_piece attribute_piece part_field
side = refl

-- a side that is too large
large_side : place_of (codes "scene 1\nsize 1 4000\n") ≡ (2, 7, Some 3)
unfolding digits after_word after_resource after_encoder_line i32_number word_in hex_value hex_byte skip_piece attribute_piece part_field
large_side = refl

-- a depth that is too large
depth : place_of (front ++ codes "program p solid\nencoder 0\nsubmit 0 p 4294967296 255\n") ≡ (7, 7, Some 4)
unfolding digits after_word after_resource after_encoder_line i32_number word_in hex_value hex_byte skip_piece attribute_piece part_field
depth = refl

-- a number past 32 bits with a sign
integer : place_of (front ++ codes "encoder 0\ntransform 0 0 0 0 0 0 0 0 0 0 -2147483648 2147483648\n") ≡ (6, 7, Some 13)
unfolding digits after_word after_resource after_encoder_line i32_number word_in hex_value hex_byte skip_piece attribute_piece part_field
integer = refl

-- a name that is misspelt
spelling : place_of (front ++ codes "program 9a solid\n") ≡ (5, 8, Some 2)
unfolding digits after_word after_resource after_encoder_line i32_number word_in hex_value hex_byte skip_piece attribute_piece part_field
spelling = refl

-- a name that is taken
taken : place_of (front ++ codes "program p solid\nprogram p solid\n") ≡ (6, 9, Some 2)
unfolding digits after_word after_resource after_encoder_line i32_number word_in hex_value hex_byte skip_piece attribute_piece part_field
taken = refl

-- a name that a uniform has
taken_by_uniform : place_of (front ++ codes "uniform u vec4\nuniform u int\nprogram u solid\n") ≡ (7, 9, Some 2)
unfolding digits after_word after_resource after_encoder_line i32_number word_in hex_value hex_byte skip_piece attribute_piece part_field
taken_by_uniform = refl

-- a name that no line makes
unbound : place_of (front ++ codes "destroy x\n") ≡ (5, 10, Some 2)
unfolding digits after_word after_resource after_encoder_line i32_number word_in hex_value hex_byte skip_piece attribute_piece part_field
unbound = refl

-- the second of two names
second_name : place_of (front ++ codes "texture a 1 1 rgba8 - fill:00000000\nencoder 0\nblit 0 a 0 0 b 0 0 1 1\n") ≡ (7, 10, Some 6)
unfolding digits after_word after_resource after_encoder_line i32_number word_in hex_value hex_byte skip_piece attribute_piece part_field
second_name = refl

-- a format, in front of another misspelt word
format : place_of (front ++ codes "texture t 1 1 rgba9 dts fill:00000000\n") ≡ (5, 11, Some 5)
unfolding digits after_word after_resource after_encoder_line i32_number word_in hex_value hex_byte skip_piece attribute_piece part_field
format = refl

-- a destination
destination : place_of (front ++ codes "texture t 1 1 rgba8 dts fill:00000000\n") ≡ (5, 11, Some 6)
unfolding digits after_word after_resource after_encoder_line i32_number word_in hex_value hex_byte skip_piece attribute_piece part_field
destination = refl

-- a colour of seven digits
source : place_of (front ++ codes "texture t 1 1 rgba8 dst fill:0000000\n") ≡ (5, 11, Some 7)
unfolding digits after_word after_resource after_encoder_line i32_number word_in hex_value hex_byte skip_piece attribute_piece part_field
source = refl

-- the second part of a layout
part : place_of (front ++ codes "layout l position:u8:1 normal:u8:5\n") ≡ (5, 11, Some 4)
unfolding digits after_word after_resource after_encoder_line i32_number word_in hex_value hex_byte skip_piece attribute_piece part_field
part = refl

-- a clear colour
clear : place_of (front ++ codes "view 0 clear 1 ff0000f 0 0\n") ≡ (5, 11, Some 5)
unfolding digits after_word after_resource after_encoder_line i32_number word_in hex_value hex_byte skip_piece attribute_piece part_field
clear = refl

-- what a view sets
setting : place_of (front ++ codes "view 0 colour 1\n") ≡ (5, 11, Some 3)
unfolding digits after_word after_resource after_encoder_line i32_number word_in hex_value hex_byte skip_piece attribute_piece part_field
setting = refl

-- an odd number of digits
bytes : place_of (front ++ codes "layout l skip:4\nvb v l 000\n") ≡ (6, 11, Some 4)
unfolding digits after_word after_resource after_encoder_line i32_number word_in hex_value hex_byte skip_piece attribute_piece part_field
bytes = refl

-- a version that is not read
version : place_of (codes "scene 3\n") ≡ (1, 12, Some 2)
unfolding digits after_word after_resource after_encoder_line i32_number word_in hex_value hex_byte skip_piece attribute_piece part_field
version = refl
