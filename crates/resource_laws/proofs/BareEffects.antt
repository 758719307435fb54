-- What an accepted call does depends on contents nowhere but in contents.
use Rattle.std.proofs.Common.{◌≡◌, ℕ, ◌+◌, ◌-◌, ◌==◌, nat_lt, Bool, true, false, List, [], ◌∷◌, ◌++◌, map, length, replicate, Option, Some, None, refl, sym, ap, ◌∙◌, subst, if◌then◌else◌, option_map}
use Rattle.std.proofs.lemmas.List.{map-append, length-replicate}
use Rattle.std.specs.List.{find}
use Rattle.gfx_model.specs.Words.{Handle, Kind, Info, UniformKind, vec4_value, int_value, layout_kind, vertex_buffer_kind, index_buffer_kind, texture_kind, frame_buffer_kind, program_kind, uniform_kind, plain, texture_info, uniform_info}
use Rattle.gfx_model.specs.Views.{Views}
use Rattle.gfx_model.specs.Vertex.{Layout}
use Rattle.gfx_model.specs.World.{Content, layout_content, vertex_content, index_content, texture_content, frame_buffer_content, program_content, uniform_content}
use Rattle.gfx_model.specs.Resources.{Thing, Resources, ResourceCall, effect, make, is_at, change_of_serial, on_thing, with_references, with_death, die, destroy_effect, uniform_effect, named_uniform, references_of, no_change, layout_of_handle, texels_from, serial_option, zero_value, no_layout, top_index, book_of, create_layout, create_vertex_buffer, create_index_buffer, create_texture, create_frame_buffer, create_program, create_uniform, update_buffer, update_texture, destroy, change_view, set_view_target, set_view_order, layout_in}
use Rattle.resource_laws.specs.Bare.{bare, bare_content, bare_of}
use Rattle.resource_laws.specs.Laws.{IsSameEffect}
use Rattle.resource_laws.proofs.BareCalls.{find_bare, named_bare, layout_step}

bare_twice : (c : Content) → bare_content (bare_content c) ≡ bare_content c
bare_twice (layout_content l) = refl
bare_twice (vertex_content l bytes) = ap (λ n. vertex_content no_layout (replicate n 0)) (length-replicate (length bytes) 0)
bare_twice (index_content bytes) = ap (λ n. index_content (replicate n 0)) (length-replicate (length bytes) 0)
bare_twice (texture_content f t) = refl
bare_twice (frame_buffer_content color depth) = refl
bare_twice (program_content k) = refl
bare_twice (uniform_content n (vec4_value v)) = refl
bare_twice (uniform_content n (int_value v)) = refl

things_twice : (ts : List Thing) → map bare (map bare ts) ≡ map bare ts
things_twice [] = refl
things_twice (t ∷ ts) = λ j. (record t { content = bare_twice t.content j }) ∷ things_twice ts j

of_twice : (r : Resources) → bare_of (bare_of r) ≡ bare_of r
of_twice r = λ j. record r { things = things_twice r.things j }

more_twice : (ts : List Thing) (t : Thing) → map bare (map bare ts ++ t ∷ []) ≡ map bare (ts ++ t ∷ [])
more_twice ts t = map-append bare (map bare ts) (t ∷ []) ∙ ap (λ l. l ++ bare t ∷ []) (things_twice ts) ∙ sym (map-append bare ts (t ∷ []))

change_step : (f : Thing → Thing) (s : ℕ) (t : Thing) (ts : List Thing) (b : Bool) → ((u : Thing) → f (bare u) ≡ bare (f u)) → change_of_serial f s (map bare ts) ≡ map bare (change_of_serial f s ts)
    → (if b then f (bare t) ∷ map bare ts else bare t ∷ change_of_serial f s (map bare ts)) ≡ map bare (if b then f t ∷ ts else t ∷ change_of_serial f s ts)
change_step f s t ts true same e = ap (λ u. u ∷ map bare ts) (same t)
change_step f s t ts false same e = ap (λ l. bare t ∷ l) e

change_bare : (f : Thing → Thing) (s : ℕ) (ts : List Thing) → ((u : Thing) → f (bare u) ≡ bare (f u)) → change_of_serial f s (map bare ts) ≡ map bare (change_of_serial f s ts)
change_bare f s [] same = refl
change_bare f s (t ∷ ts) same = change_step f s t ts (t.handle.serial == s) same (change_bare f s ts same)

made_same : (k : Kind) (info : Info) (c : Content) (r : Resources) → IsSameEffect (make k info c (bare_of r)) (make k info c r)
made_same k info c r = record {
  made = refl;
  changes = refl;
  after = λ j. record (bare_of (make k info c r).after) { things = more_twice r.things (record { handle = record { kind = k; index = top_index (book_of r k).free; serial = r.next_serial; info = info }; birth = r.frame; death = None; content = c; references = 1 }) j };
}

changed_twice : (f : Thing → Thing) (s : ℕ) (ts : List Thing) → ((u : Thing) → f (bare u) ≡ bare (f u)) → map bare (change_of_serial f s (map bare ts)) ≡ map bare (change_of_serial f s ts)
changed_twice f s ts same = ap (map bare) (change_bare f s ts same) ∙ things_twice (change_of_serial f s ts)

uniform_same : (r : Resources) (name : List ℕ) (k : UniformKind) (o : Option Thing) → IsSameEffect (uniform_effect (bare_of r) name k (option_map bare o)) (uniform_effect r name k o)
uniform_same r name k None = made_same uniform_kind (uniform_info k) (uniform_content name (zero_value k)) r
uniform_same r name k (Some t) = record { made = refl; changes = refl; after = λ j. record (bare_of r) { things = changed_twice (with_references (λ n. n + 1)) t.handle.serial r.things (λ u. refl) j } }

refs_step : (o : Option Thing) → references_of (option_map bare o) ≡ references_of o
refs_step None = refl
refs_step (Some t) = refl

destroy_same : (h : Handle) (r : Resources) (b : Bool) → IsSameEffect (if b then no_change (on_thing (with_references (λ n. n - 1)) h.serial (bare_of r)) else no_change (die h (bare_of r))) (if b then no_change (on_thing (with_references (λ n. n - 1)) h.serial r) else no_change (die h r))
destroy_same h r true = record { made = refl; changes = refl; after = λ j. record (bare_of r) { things = changed_twice (with_references (λ n. n - 1)) h.serial r.things (λ u. refl) j } }
destroy_same h r false = record { made = refl; changes = refl; after = λ j. record (bare_of (die h r)) { things = changed_twice (with_death r.frame) h.serial r.things (λ u. refl) j } }

view_same : (r : Resources) (vs : Views) → IsSameEffect (no_change (record (bare_of r) { views = vs })) (no_change (record r { views = vs }))
view_same r vs = record { made = refl; changes = refl; after = λ j. record (bare_of r) { things = things_twice r.things j; views = vs } }

pub effect_same : (r : Resources) (c : ResourceCall) → IsSameEffect (effect (bare_of r) c) (effect r c)
effect_same r (create_layout l) = made_same layout_kind plain (layout_content l) r
effect_same r (create_vertex_buffer l bytes) =
    let e : layout_of_handle (bare_of r) l ≡ layout_of_handle r l = ap layout_in (find_bare (is_at l.kind l.index) (λ t. refl) r.things) ∙ layout_step (find (is_at l.kind l.index) r.things) in
    subst (λ (y : Layout). IsSameEffect (make vertex_buffer_kind plain (vertex_content y bytes) (bare_of r)) (effect r (create_vertex_buffer l bytes))) (sym e) (made_same vertex_buffer_kind plain (vertex_content (layout_of_handle r l) bytes) r)
effect_same r (create_index_buffer bytes) = made_same index_buffer_kind plain (index_content bytes) r
effect_same r (create_texture width height f d source) = made_same texture_kind (texture_info f d width height) (texture_content f (texels_from width height source)) r
effect_same r (create_frame_buffer color depth) = made_same frame_buffer_kind plain (frame_buffer_content color.serial (serial_option depth)) r
effect_same r (create_program k) = made_same program_kind plain (program_content k) r
effect_same r (create_uniform name k) = subst (λ (o : Option Thing). IsSameEffect (uniform_effect (bare_of r) name k o) (uniform_effect r name k (named_uniform r name))) (sym (named_bare r name)) (uniform_same r name k (named_uniform r name))
effect_same r (update_buffer h offset bytes) = record { made = refl; changes = refl; after = of_twice r }
effect_same r (update_texture h rect bytes) = record { made = refl; changes = refl; after = of_twice r }
effect_same r (destroy h) =
    let e : references_of (find (is_at h.kind h.index) (map bare r.things)) ≡ references_of (find (is_at h.kind h.index) r.things) = ap references_of (find_bare (is_at h.kind h.index) (λ t. refl) r.things) ∙ refs_step (find (is_at h.kind h.index) r.things) in
    subst (λ (n : ℕ). IsSameEffect (if nat_lt 1 n then no_change (on_thing (with_references (λ n. n - 1)) h.serial (bare_of r)) else no_change (die h (bare_of r))) (destroy_effect r h)) (sym e)
    (destroy_same h r (nat_lt 1 (references_of (find (is_at h.kind h.index) r.things))))
effect_same r (change_view v c) = view_same r _
effect_same r (set_view_target v t) = view_same r _
effect_same r (set_view_order ids) = view_same r _
