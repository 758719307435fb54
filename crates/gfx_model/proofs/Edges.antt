-- Limits and orders of tests by computation: each call at its limit and one past it, and each pair of refusals in its order.
use Rattle.std.specs.Prelude.{◌≡◌, ℕ, pos, false, List, [], ◌∷◌, fold, Option, Some, None, Result, Ok, Err, refl, codes}
use Rattle.gfx_model.specs.Words.{Kind, texture_kind, frame_buffer_kind, program_kind, uniform_kind, Format, rgba8, d24s8, solid, vec4, vec4_value, Info, plain, texture_info, uniform_info, Handle, free_word}
use Rattle.gfx_model.specs.Views.{fewest_views}
use Rattle.gfx_model.specs.World.{texture_content, uniform_content}
use Rattle.gfx_model.specs.Resources as calls
use Rattle.gfx_model.specs.Recorder as encoders
use Rattle.gfx_model.specs.Pixel.{blend}

-- ---- states

abbrev handle_of : Kind → (index serial : ℕ) → Info → Handle
handle_of kind index serial info = record { kind = kind; index = index; serial = serial; info = info }

abbrev after_call : calls.Resources → calls.ResourceCall → calls.Resources
after_call r c = kept (calls.answer r c)
  where
    kept : Result calls.Effect calls.Refusal → calls.Resources
    kept (Ok e) = e.after
    kept (Err x) = r

-- the state after calls, from the first frame of a scene of version 1
abbrev after_calls : List calls.ResourceCall → calls.Resources
after_calls cs = fold after_call (calls.opening fewest_views 1 0 1) cs

-- the refusal of a call, if it is refused
abbrev refusal : calls.Resources → calls.ResourceCall → Option calls.Refusal
refusal r c = calls.refusal_of r c

-- ---- textures

abbrev color : Handle
color = handle_of texture_kind 0 1 (texture_info rgba8 false 1 1)

abbrev depth : Handle
depth = handle_of texture_kind 1 2 (texture_info d24s8 false 1 1)

abbrev framed : Handle
framed = handle_of frame_buffer_kind 0 3 plain

abbrev one_texel : Format → calls.ResourceCall
one_texel f = calls.create_texture 1 1 f false (calls.fill_source (0 ∷ 0 ∷ 0 ∷ 0 ∷ []))

abbrev with_frame_buffer : calls.Resources
with_frame_buffer = after_calls (one_texel rgba8 ∷ one_texel d24s8 ∷ calls.create_frame_buffer color (Some depth) ∷ [])

-- a frame buffer holds its colour and its depth
held_by_both : (refusal with_frame_buffer (calls.destroy color) ≡ Some (calls.attached framed)) × (refusal with_frame_buffer (calls.destroy depth) ≡ Some (calls.attached framed))
held_by_both = (refl, refl)

-- the kind is tested before the word, which is free
wrong_kind_first : refusal (after_calls []) (calls.create_frame_buffer (handle_of program_kind 0 1 plain) None) ≡ Some calls.wrong_kind
wrong_kind_first = refl

stale_next : refusal (after_calls []) (calls.create_frame_buffer color None) ≡ Some (calls.stale free_word)
stale_next = refl

-- the range of an update is tested before its size
range_before_size : refusal (after_calls (one_texel rgba8 ∷ [])) (calls.update_texture color (record { x = 0; y = 0; w = 2; h = 1 }) []) ≡ Some calls.bad_range
range_before_size = refl

size_next : refusal (after_calls (one_texel rgba8 ∷ [])) (calls.update_texture color (record { x = 0; y = 0; w = 1; h = 1 }) []) ≡ Some calls.bad_size
size_next = refl

-- the greatest number of texels, said by the sides alone
abbrev all_texels : calls.Thing
all_texels = record {
  handle = color;
  birth = 0;
  death = None;
  content = texture_content rgba8 (record { width = 16384; height = 2048; texels = [] });
  references = 1;
}

abbrev no_texel_left : calls.Resources
no_texel_left = calls.with_things (all_texels ∷ []) (after_calls [])

no_index_before_texels : refusal (calls.with_book texture_kind (record { free = []; waiting = [] }) no_texel_left) (one_texel rgba8) ≡ Some calls.full
no_index_before_texels = refl

no_texels_next : refusal no_texel_left (one_texel rgba8) ≡ Some calls.texels_full
no_texels_next = refl

-- ---- buffers

index_bytes : (refusal (after_calls []) (calls.create_index_buffer (0 ∷ [])) ≡ Some calls.bad_size)
    × (refusal (after_calls []) (calls.create_index_buffer (0 ∷ 0 ∷ [])) ≡ None)
    × (refusal (after_calls []) (calls.create_index_buffer (0 ∷ 0 ∷ 0 ∷ [])) ≡ Some calls.bad_size)
index_bytes = (refl, refl, refl)

-- ---- references and serials

-- a live uniform that is referred to so often
abbrev referred : ℕ → calls.Resources
referred n = calls.with_things (record {
  handle = handle_of uniform_kind 0 1 (uniform_info vec4);
  birth = 0;
  death = None;
  content = uniform_content (codes "u") (vec4_value (pos 0 ∷ pos 0 ∷ pos 0 ∷ pos 0 ∷ []));
  references = n;
} ∷ []) (after_calls [])

references : (refusal (referred 65534) (calls.create_uniform (codes "u") vec4) ≡ None) × (refusal (referred 65535) (calls.create_uniform (codes "u") vec4) ≡ Some calls.full)
references = (refl, refl)

abbrev from_serial : ℕ → calls.Resources
from_serial n = calls.opening fewest_views 1 0 n

serials : (refusal (from_serial 4294967295) (calls.create_program solid) ≡ None) × (refusal (from_serial 4294967296) (calls.create_program solid) ≡ Some calls.serials_spent)
serials = (refl, refl)

-- ---- an encoder's room

abbrev in_room : encoders.Recorder
in_room = encoders.begun 0 fewest_views (record { items = 1; bytes = 2; uniforms = 0 })

abbrev refused : encoders.Recorder → encoders.EncoderCall → Option calls.Refusal
refused e c = calls.first_refusal (encoders.refusals e [] c)

room_of_bytes : (refused in_room (encoders.set_transient_indices (0 ∷ 0 ∷ [])) ≡ None) × (refused in_room (encoders.set_transient_indices (0 ∷ 0 ∷ 0 ∷ [])) ≡ Some calls.bytes_full)
room_of_bytes = (refl, refl)

-- ---- blending

-- the least and the greatest take no factors: all factors are zero here
without_factors : (blend 7265652751 (200 ∷ 100 ∷ 0 ∷ 128 ∷ []) (100 ∷ 150 ∷ 200 ∷ 64 ∷ []) ≡ 100 ∷ 100 ∷ 0 ∷ 64 ∷ []) × (blend 9681571855 (200 ∷ 100 ∷ 0 ∷ 128 ∷ []) (100 ∷ 150 ∷ 200 ∷ 64 ∷ []) ≡ 200 ∷ 150 ∷ 200 ∷ 128 ∷ [])
without_factors = (refl, refl)
