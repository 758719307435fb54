-- What is written is read again.
use Rattle.std.proofs.Common.{◌≡◌, ℕ, suc, ◌+◌, ◌-◌, ◌*◌, ◌/◌, ◌%◌, ◌<◌, ◌≤◌, Bool, true, false, cond, List, [], ◌∷◌, ◌++◌, length, drop, Option, Some, None, Result, MatchResult, refl, sym, ap, subst, ◌∙◌, arith, append_assoc, length-append}
use Rattle.std.proofs.Math.Seq.{drop-append_seam}
use Rattle.std.specs.Prelude.{option_map, option_and_then, nat_le, ◌&&◌, slice_index}
use Rattle.std.specs.List.{flat_map}
use Rattle.std.proofs.lemmas.Bool.{le-leb}
use Rattle.std.proofs.lemmas.List.{append-nil, get_or-append_right}
use Rattle.std.proofs.lemmas.List.Concat.{flat_map-append}
use Rattle.gfx_model.specs.Number.{u16_at}
use Rattle.gfx_model.specs.Vertex.{Attribute, position_attribute, normal_attribute, tangent_attribute, color0_attribute, color1_attribute, texcoord0_attribute, texcoord1_attribute, ComponentType, u8_type, i16_type, fixed_type, PlacedAttribute, Layout, attribute_number, component_number, has_good_attributes}
use Rattle.gfx_model.specs.Commands.{Command, create_layout_command, create_vertex_buffer_command, create_index_buffer_command, create_texture_command, create_frame_buffer_command, create_program_command, create_uniform_command, update_buffer_command, update_texture_command, destroy_command, u16_bytes, u32_bytes, attribute_bytes, command_bytes, buffer_bytes}
use Rattle.vertex_layout.specs.Placed.{is_addable}
use Rattle.vertex_layout.specs.Layouts.{is_layout}
use Rattle.vertex_layout.proofs.ListLaws.{good_more, at_most_seven}
use Rattle.cmd_buffer.specs.Bytes.{attribute_of_number, component_of_number, placed_of, placed_in, next_attribute, attributes_from, with_stride, layout_in, with_rest, of_length, layout_form, vertex_buffer_form, index_buffer_form, texture_form, frame_buffer_form, program_form, uniform_form, update_buffer_form, update_texture_form, destroy_form, decoded, commands_for, commands_in}
use Rattle.cmd_buffer.specs.Rows.{Fits, FewBytes, AllFit, IsRow, IsBuffer}
use Rattle.cmd_buffer.proofs.Shorter.{commands_some}

-- ---- numbers

two_again : (n : ℕ) → n < 65536 → n % 256 + 256 * (n / 256 % 256) ≡ n
two_again n h = omega (arith, h)

four_again : (n : ℕ) → n < 4294967296 → n % 256 + 256 * (n / 256 % 256) + 65536 * (n / 65536 % 256 + 256 * (n / 16777216 % 256)) ≡ n
four_again n h = omega (arith, h)

attribute_again : (a : Attribute) → attribute_of_number (attribute_number a) ≡ Some a
attribute_again position_attribute = refl
attribute_again normal_attribute = refl
attribute_again tangent_attribute = refl
attribute_again color0_attribute = refl
attribute_again color1_attribute = refl
attribute_again texcoord0_attribute = refl
attribute_again texcoord1_attribute = refl

component_again : (t : ComponentType) → component_of_number (component_number t) ≡ Some t
component_again u8_type = refl
component_again i16_type = refl
component_again fixed_type = refl

-- ---- attributes

placed_again : (p : PlacedAttribute) (rest : List ℕ) → placed_in (attribute_bytes p ++ rest) ≡ Some p
placed_again p rest =
    ap (λ o. placed_of p.count p.offset o (component_of_number (component_number p.component))) (attribute_again p.attribute)
    ∙ ap (placed_of p.count p.offset (Some p.attribute)) (component_again p.component)

first_true : (b r : Bool) → (b && r) ≡ true → b ≡ true
first_true true r e = refl
first_true false r e = cc

last_true : (b r : Bool) → (b && r) ≡ true → r ≡ true
last_true true r e = e
last_true false r e = cc

good_front : (ps qs : List PlacedAttribute) → has_good_attributes (ps ++ qs) ≡ true → has_good_attributes ps ≡ true
good_front ps [] g = ap has_good_attributes (sym (append-nil ps)) ∙ g
good_front ps (q ∷ qs) g =
    first_true (has_good_attributes ps) (is_addable q ps)
    (sym (good_more ps q) ∙ good_front (ps ++ q ∷ []) qs (ap has_good_attributes (append_assoc ps (q ∷ []) qs) ∙ g))

addable : (ps qs : List PlacedAttribute) (q : PlacedAttribute) → has_good_attributes (ps ++ q ∷ qs) ≡ true → is_addable q ps ≡ true
addable ps qs q g =
    last_true (has_good_attributes ps) (is_addable q ps)
    (sym (good_more ps q) ∙ good_front (ps ++ q ∷ []) qs (ap has_good_attributes (append_assoc ps (q ∷ []) qs) ∙ g))

attributes_again : (ps qs : List PlacedAttribute) (rest : List ℕ) → has_good_attributes (ps ++ qs) ≡ true → attributes_from ps (length qs) (flat_map attribute_bytes qs ++ rest) ≡ Some (ps ++ qs)
attributes_again ps [] rest g = ap Some (sym (append-nil ps))
attributes_again ps (q ∷ qs) rest g =
    let more : List ℕ = flat_map attribute_bytes qs ++ rest in
    ap (next_attribute (λ xs. attributes_from xs (length qs) more) ps) (placed_again q more)
    ∙ ap (λ b. cond b (attributes_from (ps ++ q ∷ []) (length qs) more) None) (addable ps qs q g)
    ∙ attributes_again (ps ++ q ∷ []) qs rest (ap has_good_attributes (append_assoc ps (q ∷ []) qs) ∙ g)
    ∙ ap Some (append_assoc ps (q ∷ []) qs)

-- one attribute more is read
pub attribute_read : (n i : ℕ) (ps new : List PlacedAttribute) (b rest : List ℕ) (p : PlacedAttribute) (all : Option (List PlacedAttribute))
    → i < n → attributes_from ps (n - i) b ≡ all → Some p ≡ placed_in b → is_addable p ps ≡ true → new ≡ ps ++ p ∷ [] → rest ≡ drop 4 b
    → attributes_from new (n - (i + 1)) rest ≡ all
attribute_read n i ps new b rest p all lt inv read fits added behind =
    let more : n - i ≡ suc (n - (i + 1)) = omega (arith, lt) in
    ap (λ xs. attributes_from xs (n - (i + 1)) rest) added
    ∙ ap (attributes_from (ps ++ p ∷ []) (n - (i + 1))) behind
    ∙ sym (ap (λ t. cond t (attributes_from (ps ++ p ∷ []) (n - (i + 1)) (drop 4 b)) None) fits)
    ∙ ap (next_attribute (λ xs. attributes_from xs (n - (i + 1)) (drop 4 b)) ps) read
    ∙ sym (ap (λ k. attributes_from ps k b) more)
    ∙ inv

length_attributes : (ps : List PlacedAttribute) → length (flat_map attribute_bytes ps) ≡ 4 * length ps
length_attributes [] = refl
length_attributes (p ∷ ps) = omega (arith, length_attributes ps)

pub length_layout : (ps : List PlacedAttribute) (stride : ℕ) → length (flat_map attribute_bytes ps ++ stride ∷ []) ≡ 4 * length ps + 1
length_layout ps stride = omega (arith, length_attributes ps, length-append (flat_map attribute_bytes ps) (stride ∷ []))

-- ---- layouts

dropped : (xs ys : List ℕ) (n : ℕ) → n ≡ length xs → drop n (xs ++ ys) ≡ ys
dropped xs ys n e = ap (λ k. drop k (xs ++ ys)) e ∙ drop-append_seam xs ys

good_of : (l : Layout) → is_layout l ≡ true → has_good_attributes l.attributes ≡ true
good_of l e = last_true (nat_le 1 l.stride && nat_le l.stride 255) (has_good_attributes l.attributes) (first_true (nat_le 1 l.stride && nat_le l.stride 255 && has_good_attributes l.attributes) _ e)

layout_in_again : (l : Layout) (rest : List ℕ) → is_layout l ≡ true → layout_in (length l.attributes) ((flat_map attribute_bytes l.attributes ++ l.stride ∷ []) ++ rest) ≡ Some l
layout_in_again l rest e =
    let flat : List ℕ = flat_map attribute_bytes l.attributes in
    let none : 4 * length l.attributes - 4 * length l.attributes ≡ 0 = omega arith in
    let stride_there : slice_index (flat ++ l.stride ∷ rest) (4 * length l.attributes) ≡ l.stride =
    get_or-append_right flat (l.stride ∷ rest) (4 * length l.attributes) (4 * length l.attributes) 0 (length_attributes l.attributes) (omega arith)
    ∙ ap (λ k. slice_index (l.stride ∷ rest) k) none in
    ap (layout_in (length l.attributes)) (append_assoc flat (l.stride ∷ []) rest)
    ∙ ap (option_and_then (with_stride (slice_index (flat ++ l.stride ∷ rest) (4 * length l.attributes)))) (attributes_again [] l.attributes (l.stride ∷ rest) (good_of l e))
    ∙ ap (λ stride. with_stride stride l.attributes) stride_there
    ∙ ap (λ b. cond b (Some l) None) e

enough : (n : ℕ) (form : List ℕ → Option Command) (b : List ℕ) → n ≤ length b → of_length n form b ≡ with_rest n b (form b)
enough n form b le = ap (λ t. cond t (with_rest n b (form b)) None) (le-leb n (length b) le)

layout_again : (index : ℕ) (l : Layout) (rest : List ℕ) → index < 65536 → is_layout l ≡ true → decoded (command_bytes (create_layout_command index l) ++ rest) ≡ Some (create_layout_command index l, rest)
layout_again index l rest h e =
    let count : ℕ = length l.attributes in
    let tail : List ℕ = flat_map attribute_bytes l.attributes ++ l.stride ∷ [] in
    let front : List ℕ = index % 256 ∷ index / 256 % 256 ∷ count ∷ tail in
    let b : List ℕ = index % 256 ∷ index / 256 % 256 ∷ count ∷ (tail ++ rest) in
    let size : length front ≡ 4 + 4 * count = omega (arith, length_attributes l.attributes, length-append (flat_map attribute_bytes l.attributes) (l.stride ∷ [])) in
    let long : 4 + 4 * count ≤ length b = omega (arith, size, length-append tail rest) in
    let form_is : layout_form b ≡ Some (create_layout_command index l) =
    ap (option_map (λ x. create_layout_command (u16_at b 0) x)) (layout_in_again l rest e) ∙ ap (λ n. Some (create_layout_command n l)) (two_again index h) in
    ap (λ t. cond t (of_length (4 + 4 * count) layout_form b) None) (le-leb 3 (length b) (omega (arith, long)))
    ∙ enough (4 + 4 * count) layout_form b long
    ∙ ap (with_rest (4 + 4 * count) b) form_is
    ∙ ap (λ r. Some (create_layout_command index l, r)) (dropped front rest (4 + 4 * count) (sym size))

-- ---- commands

pub decoded_again : (c : Command) (rest : List ℕ) → Fits c → decoded (command_bytes c ++ rest) ≡ Some (c, rest)
decoded_again (create_layout_command index l) rest f = layout_again index l rest f.0 f.1
decoded_again (create_vertex_buffer_command index layout payload) rest f =
    enough 8 vertex_buffer_form (u16_bytes index ++ (u16_bytes layout ++ (u32_bytes payload ++ rest))) (omega arith)
    ∙ rw (two_again index f.0, two_again layout f.1, four_again payload f.2) refl
decoded_again (create_index_buffer_command index payload) rest f =
    enough 6 index_buffer_form (u16_bytes index ++ (u32_bytes payload ++ rest)) (omega arith)
    ∙ rw (two_again index f.0, four_again payload f.1) refl
decoded_again (create_texture_command index width height format blit_destination source value) rest f =
    enough 13 texture_form (u16_bytes index ++ (u16_bytes width ++ (u16_bytes height ++ (format ∷ blit_destination ∷ source ∷ (u32_bytes value ++ rest))))) (omega arith)
    ∙ rw (two_again index f.0, two_again width f.1, two_again height f.2, four_again value f.3) refl
decoded_again (create_frame_buffer_command index color depth) rest f =
    enough 6 frame_buffer_form (u16_bytes index ++ (u16_bytes color ++ (u16_bytes depth ++ rest))) (omega arith)
    ∙ rw (two_again index f.0, two_again color f.1, two_again depth f.2) refl
decoded_again (create_program_command index kind) rest f =
    enough 3 program_form (u16_bytes index ++ (kind ∷ rest)) (omega arith)
    ∙ rw (two_again index f) refl
decoded_again (create_uniform_command index serial kind payload) rest f =
    enough 11 uniform_form (u16_bytes index ++ (u32_bytes serial ++ (kind ∷ (u32_bytes payload ++ rest)))) (omega arith)
    ∙ rw (two_again index f.0, four_again serial f.1, four_again payload f.2) refl
decoded_again (update_buffer_command kind index offset payload) rest f =
    enough 11 update_buffer_form (kind ∷ (u16_bytes index ++ (u32_bytes offset ++ (u32_bytes payload ++ rest)))) (omega arith)
    ∙ rw (two_again index f.0, four_again offset f.1, four_again payload f.2) refl
decoded_again (update_texture_command index x y w h payload) rest f =
    enough 14 update_texture_form (u16_bytes index ++ (u16_bytes x ++ (u16_bytes y ++ (u16_bytes w ++ (u16_bytes h ++ (u32_bytes payload ++ rest)))))) (omega arith)
    ∙ rw (two_again index f.0, two_again x f.1, two_again y f.2, two_again w f.3, two_again h f.4, four_again payload f.5) refl
decoded_again (destroy_command kind index) rest f =
    enough 3 destroy_form (kind ∷ (u16_bytes index ++ rest)) (omega arith)
    ∙ rw (two_again index f) refl

-- ---- rows

pub piece_put : {R E : Type 0} (r : Result R E) (old new piece whole : List ℕ) → piece ≡ whole → MatchResult r (λ x. new ≡ old ++ piece) (λ x. new ≡ old) → MatchResult r (λ x. new ≡ old ++ whole) (λ x. new ≡ old)
piece_put r old new piece whole e h = let P : List ℕ → Type 0 = λ bs. MatchResult r (λ x. new ≡ old ++ bs) (λ x. new ≡ old) in subst P e h

pub row_again : (cs : List Command) (rest : List ℕ) → AllFit cs → commands_in (flat_map command_bytes cs ++ rest) ≡ cs ++ commands_in rest
row_again [] rest f = refl
row_again (c ∷ cs) rest f =
    ap commands_in (append_assoc (command_bytes c) (flat_map command_bytes cs) rest)
    ∙ commands_some (command_bytes c ++ (flat_map command_bytes cs ++ rest)) c (flat_map command_bytes cs ++ rest) (decoded_again c (flat_map command_bytes cs ++ rest) f.0)
    ∙ ap (λ xs. c ∷ xs) (row_again cs rest f.1)

row_append : (cs : List Command) (c : Command) → flat_map command_bytes (cs ++ c ∷ []) ≡ flat_map command_bytes cs ++ command_bytes c
row_append cs c = flat_map-append command_bytes cs (c ∷ []) ∙ ap (λ bs. flat_map command_bytes cs ++ bs) (append-nil (command_bytes c))

fit_append : (cs : List Command) (c : Command) → AllFit cs → Fits c → AllFit (cs ++ c ∷ [])
fit_append [] c f g = (g, tt)
fit_append (d ∷ cs) c f g = (f.0, fit_append cs c f.1 g)

pub row_more : (bytes new : List ℕ) (c : Command) → IsRow bytes → Fits c → new ≡ bytes ++ command_bytes c → IsRow new
row_more bytes new c r f e = record {
  commands = r.commands ++ c ∷ [];
  fit = fit_append r.commands c r.fit f;
  is = e ∙ ap (λ bs. bs ++ command_bytes c) r.is ∙ sym (row_append r.commands c);
}

commands_are : (bytes : List ℕ) (r : IsRow bytes) → commands_in bytes ≡ r.commands
unfolding commands_for
commands_are bytes r = ap commands_in (r.is ∙ sym (append-nil (flat_map command_bytes r.commands))) ∙ row_again r.commands [] r.fit ∙ append-nil r.commands

pub commands_more : (bytes new : List ℕ) (c : Command) → IsRow bytes → Fits c → new ≡ bytes ++ command_bytes c → commands_in new ≡ commands_in bytes ++ c ∷ []
unfolding row_more
commands_more bytes new c r f e = commands_are new (row_more bytes new c r f e) ∙ ap (λ cs. cs ++ c ∷ []) (sym (commands_are bytes r))

pub buffer_ended : (bytes new : List ℕ) → IsRow bytes → new ≡ bytes ++ 0 ∷ [] → IsBuffer new
buffer_ended bytes new r e = record { commands = r.commands; fit = r.fit; is = e ∙ ap (λ bs. bs ++ 0 ∷ []) r.is }

pub commands_ended : (bytes new : List ℕ) → IsRow bytes → new ≡ bytes ++ 0 ∷ [] → commands_in new ≡ commands_in bytes
unfolding commands_for
commands_ended bytes new r e = ap commands_in (e ∙ ap (λ bs. bs ++ 0 ∷ []) r.is) ∙ row_again r.commands (0 ∷ []) r.fit ∙ append-nil r.commands ∙ sym (commands_are bytes r)

pub buffer_is : (bytes : List ℕ) → IsBuffer bytes → bytes ≡ buffer_bytes (commands_in bytes)
unfolding commands_for
buffer_is bytes r = r.is ∙ ap buffer_bytes (sym (ap commands_in r.is ∙ row_again r.commands (0 ∷ []) r.fit ∙ append-nil r.commands))

pub no_commands : (bytes : List ℕ) → bytes ≡ [] → commands_in bytes ≡ []
unfolding commands_for
no_commands bytes e = ap commands_in e

pub no_row : (bytes : List ℕ) → bytes ≡ [] → IsRow bytes
no_row bytes e = record { commands = []; fit = tt; is = e }

-- ---- how many bytes there are

pub few_bytes : FewBytes
few_bytes (create_layout_command index l) f = omega (arith, length_layout l.attributes l.stride, at_most_seven l.attributes (good_of l f.1))
few_bytes (create_vertex_buffer_command index layout payload) f = omega arith
few_bytes (create_index_buffer_command index payload) f = omega arith
few_bytes (create_texture_command index width height format blit_destination source value) f = omega arith
few_bytes (create_frame_buffer_command index color depth) f = omega arith
few_bytes (create_program_command index kind) f = omega arith
few_bytes (create_uniform_command index serial kind payload) f = omega arith
few_bytes (update_buffer_command kind index offset payload) f = omega arith
few_bytes (update_texture_command index x y w h payload) f = omega arith
few_bytes (destroy_command kind index) f = omega arith

pub fitting : (bytes : List ℕ) → IsRow bytes → AllFit (commands_in bytes)
fitting bytes r = rw (commands_are bytes r) r.fit

pub fitting_buffer : (bytes : List ℕ) → IsBuffer bytes → AllFit (commands_in bytes)
unfolding commands_for
fitting_buffer bytes r = rw (ap commands_in r.is ∙ row_again r.commands (0 ∷ []) r.fit ∙ append-nil r.commands) r.fit
