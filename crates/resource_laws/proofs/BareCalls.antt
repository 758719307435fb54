-- Contents are not read by refusals, and what a call does beside contents does not depend on them.
use Rattle.std.proofs.Common.{◌≡◌, ℕ, ◌+◌, ◌*◌, ◌==◌, nat_lt, nat_le, Bool, true, false, not, ◌&&◌, List, [], ◌∷◌, ◌++◌, map, filter, length, Option, Some, None, refl, ap, ◌∙◌, if◌then◌else◌, option_map, sum_by}
use Rattle.std.proofs.lemmas.List.{length-replicate}
use Rattle.std.specs.List.{find, fold}
use Rattle.gfx_model.specs.Words.{Handle, Kind, Info, UniformKind, vec4, int, UniformValue, vec4_value, int_value, texture_kind, frame_buffer_kind, uniform_kind, is_kind, is_live_in}
use Rattle.gfx_model.specs.World.{Content, layout_content, vertex_content, index_content, texture_content, frame_buffer_content, program_content, uniform_content}
use Rattle.gfx_model.specs.Resources.{Thing, Resources, ResourceCall, full, stale, bad_range, bad_size, wrong_kind, texels_full, word_of, word_of_thing, is_at, is_live, is_not_live, not_live_option, texel_count, byte_count, bytes_of_thing, has_name, holds_texture, uniform_kind_in, layout_of_content, layout_in, named_uniform, uniform_refusals, greatest_references, greatest_bytes, greatest_texels, is_size, source_fits, is_not_kind, lacks_index, lacks_serial, can_attach, is_buffer, passes_side, attached_by, least_index, is_no_view, refusals, create_layout, create_vertex_buffer, create_index_buffer, create_texture, create_frame_buffer, create_program, create_uniform, update_buffer, update_texture, destroy, change_view, set_view_target, set_view_order}
use Rattle.resource_laws.specs.Bare.{bare, bare_content, bare_of}

find_step : (p : Thing → Bool) (t : Thing) (ts : List Thing) (b : Bool) → find p (map bare ts) ≡ option_map bare (find p ts) → (if b then Some (bare t) else find p (map bare ts)) ≡ option_map bare (if b then Some t else find p ts)
find_step p t ts true e = refl
find_step p t ts false e = e

pub find_bare : (p : Thing → Bool) → ((t : Thing) → p (bare t) ≡ p t) → (ts : List Thing) → find p (map bare ts) ≡ option_map bare (find p ts)
find_bare p same [] = refl
find_bare p same (t ∷ ts) = ap (λ c. if c then Some (bare t) else find p (map bare ts)) (same t) ∙ find_step p t ts (p t) (find_bare p same ts)

word_step : (o : Option Thing) → word_of_thing (option_map bare o) ≡ word_of_thing o
word_step None = refl
word_step (Some t) = refl

pub word_bare : (r : Resources) (h : Handle) → word_of (bare_of r) h ≡ word_of r h
word_bare r h = ap word_of_thing (find_bare (is_at h.kind h.index) (λ t. refl) r.things) ∙ word_step (find (is_at h.kind h.index) r.things)

not_live_bare : (r : Resources) (h : Handle) → is_not_live (bare_of r) h ≡ is_not_live r h
not_live_bare r h = λ j. (not (is_live_in (word_bare r h j) h.serial), stale (word_bare r h j))

not_live_option_bare : (r : Resources) (o : Option Handle) → not_live_option (bare_of r) o ≡ not_live_option r o
not_live_option_bare r None = refl
not_live_option_bare r (Some h) = λ j. not_live_bare r h j ∷ []

texels_bare : (c : Content) → texel_count (bare_content c) ≡ texel_count c
texels_bare (layout_content l) = refl
texels_bare (vertex_content l bytes) = refl
texels_bare (index_content bytes) = refl
texels_bare (texture_content f t) = refl
texels_bare (frame_buffer_content color depth) = refl
texels_bare (program_content k) = refl
texels_bare (uniform_content n v) = refl

fold_bare : (a : ℕ) (ts : List Thing) → fold (λ n t. n + texel_count t.content) a (map bare ts) ≡ fold (λ n t. n + texel_count t.content) a ts
fold_bare a [] = refl
fold_bare a (t ∷ ts) = ap (λ n. fold (λ m u. m + texel_count u.content) (a + n) (map bare ts)) (texels_bare t.content) ∙ fold_bare (a + texel_count t.content) ts

sum_bare : (ts : List Thing) → sum_by (λ t. texel_count t.content) (map bare ts) ≡ sum_by (λ t. texel_count t.content) ts
sum_bare ts = fold_bare 0 ts

bytes_bare : (c : Content) → byte_count (bare_content c) ≡ byte_count c
bytes_bare (layout_content l) = refl
bytes_bare (vertex_content l bytes) = length-replicate (length bytes) 0
bytes_bare (index_content bytes) = length-replicate (length bytes) 0
bytes_bare (texture_content f t) = refl
bytes_bare (frame_buffer_content color depth) = refl
bytes_bare (program_content k) = refl
bytes_bare (uniform_content n v) = refl

held_step : (o : Option Thing) → bytes_of_thing (option_map bare o) ≡ bytes_of_thing o
held_step None = refl
held_step (Some t) = bytes_bare t.content

name_bare : (name : List ℕ) (c : Content) → has_name name (bare_content c) ≡ has_name name c
name_bare name (layout_content l) = refl
name_bare name (vertex_content l bytes) = refl
name_bare name (index_content bytes) = refl
name_bare name (texture_content f t) = refl
name_bare name (frame_buffer_content color depth) = refl
name_bare name (program_content k) = refl
name_bare name (uniform_content n v) = refl

holds_bare : (serial : ℕ) (c : Content) → holds_texture serial (bare_content c) ≡ holds_texture serial c
holds_bare serial (layout_content l) = refl
holds_bare serial (vertex_content l bytes) = refl
holds_bare serial (index_content bytes) = refl
holds_bare serial (texture_content f t) = refl
holds_bare serial (frame_buffer_content color None) = refl
holds_bare serial (frame_buffer_content color (Some depth)) = refl
holds_bare serial (program_content k) = refl
holds_bare serial (uniform_content n v) = refl

uniform_kind_bare : (c : Content) → uniform_kind_in (bare_content c) ≡ uniform_kind_in c
uniform_kind_bare (layout_content l) = refl
uniform_kind_bare (vertex_content l bytes) = refl
uniform_kind_bare (index_content bytes) = refl
uniform_kind_bare (texture_content f t) = refl
uniform_kind_bare (frame_buffer_content color depth) = refl
uniform_kind_bare (program_content k) = refl
uniform_kind_bare (uniform_content n (vec4_value v)) = refl
uniform_kind_bare (uniform_content n (int_value v)) = refl

layout_bare : (c : Content) → layout_of_content (bare_content c) ≡ layout_of_content c
layout_bare (layout_content l) = refl
layout_bare (vertex_content l bytes) = refl
layout_bare (index_content bytes) = refl
layout_bare (texture_content f t) = refl
layout_bare (frame_buffer_content color depth) = refl
layout_bare (program_content k) = refl
layout_bare (uniform_content n v) = refl

pub layout_step : (o : Option Thing) → layout_in (option_map bare o) ≡ layout_in o
layout_step None = refl
layout_step (Some t) = layout_bare t.content

pub named_bare : (r : Resources) (name : List ℕ) → named_uniform (bare_of r) name ≡ option_map bare (named_uniform r name)
named_bare r name = find_bare (λ t. is_live t && has_name name t.content) (λ t. ap (λ b. is_live t && b) (name_bare name t.content)) r.things

uniform_step : (r : Resources) (k : UniformKind) (o : Option Thing) → uniform_refusals (bare_of r) k (option_map bare o) ≡ uniform_refusals r k o
uniform_step r k None = refl
uniform_step r k (Some t) = λ j. (not (Rattle.gfx_model.specs.Words.is_uniform_kind k (uniform_kind_bare t.content j)), wrong_kind) ∷ (nat_le greatest_references t.references, full) ∷ []

holder_step : (h : Handle) (t : Thing) (ts : List Thing) (b : Bool) → map (λ u. u.handle) (filter (λ u. is_live u && holds_texture h.serial u.content) (map bare ts)) ≡ map (λ u. u.handle) (filter (λ u. is_live u && holds_texture h.serial u.content) ts)
    → map (λ (u : Thing). u.handle) (if b then bare t ∷ filter (λ u. is_live u && holds_texture h.serial u.content) (map bare ts) else filter (λ u. is_live u && holds_texture h.serial u.content) (map bare ts))
    ≡ map (λ (u : Thing). u.handle) (if b then t ∷ filter (λ u. is_live u && holds_texture h.serial u.content) ts else filter (λ u. is_live u && holds_texture h.serial u.content) ts)
holder_step h t ts true e = ap (λ l. t.handle ∷ l) e
holder_step h t ts false e = e

holders_bare : (h : Handle) (ts : List Thing) → map (λ u. u.handle) (filter (λ u. is_live u && holds_texture h.serial u.content) (map bare ts)) ≡ map (λ u. u.handle) (filter (λ u. is_live u && holds_texture h.serial u.content) ts)
holders_bare h [] = refl
holders_bare h (t ∷ ts) = ap (λ b. map (λ (u : Thing). u.handle) (if b then bare t ∷ filter (λ u. is_live u && holds_texture h.serial u.content) (map bare ts) else filter (λ u. is_live u && holds_texture h.serial u.content) (map bare ts))) (ap (λ b. is_live t && b) (holds_bare h.serial t.content))
    ∙ holder_step h t ts (is_live t && holds_texture h.serial t.content) (holders_bare h ts)

pub refusals_bare : (r : Resources) (c : ResourceCall) → refusals (bare_of r) c ≡ refusals r c
refusals_bare r (create_layout l) = refl
refusals_bare r (create_vertex_buffer l bytes) = λ j. (not (nat_le 1 (length bytes) && nat_le (length bytes) greatest_bytes), bad_size)
    ∷ is_not_kind Rattle.gfx_model.specs.Words.layout_kind l ∷ not_live_bare r l j ∷ lacks_index r Rattle.gfx_model.specs.Words.vertex_buffer_kind ∷ lacks_serial r ∷ []
refusals_bare r (create_index_buffer bytes) = refl
refusals_bare r (create_texture width height f d source) = λ j. (not (is_size width && is_size height && source_fits width height source), bad_size)
    ∷ lacks_index r texture_kind ∷ (nat_lt greatest_texels (sum_bare r.things j + width * height), texels_full) ∷ lacks_serial r ∷ []
refusals_bare r (create_frame_buffer color depth) = λ j. ((not (can_attach color depth), wrong_kind) ∷ not_live_bare r color j ∷ not_live_option_bare r depth j) ++ lacks_index r frame_buffer_kind ∷ lacks_serial r ∷ []
refusals_bare r (create_program k) = refl
refusals_bare r (create_uniform name k) = λ j. (not (nat_le 1 (length name) && nat_le (length name) 32), bad_size) ∷ (ap (uniform_refusals (bare_of r) k) (named_bare r name) ∙ uniform_step r k (named_uniform r name)) j
refusals_bare r (update_buffer h offset bytes) = λ j. (not (is_buffer h), wrong_kind) ∷ not_live_bare r h j
    ∷ (nat_lt ((ap bytes_of_thing (find_bare (is_at h.kind h.index) (λ t. refl) r.things) ∙ held_step (find (is_at h.kind h.index) r.things)) j) (offset + length bytes), bad_range) ∷ []
refusals_bare r (update_texture h rect bytes) = λ j. is_not_kind texture_kind h ∷ not_live_bare r h j ∷ (passes_side rect h.info, bad_range) ∷ (not (length bytes == 4 * (rect.w * rect.h)), bad_size) ∷ []
refusals_bare r (destroy h) = λ j. not_live_bare r h j ∷ (if is_kind h.kind texture_kind then attached_by (least_index (holders_bare h r.things j)) else [])
refusals_bare r (change_view v c) = refl
refusals_bare r (set_view_target v None) = refl
refusals_bare r (set_view_target v (Some h)) = λ j. is_no_view r v ∷ is_not_kind frame_buffer_kind h ∷ not_live_bare r h j ∷ []
refusals_bare r (set_view_order ids) = refl
