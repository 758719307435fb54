-- Each accepted call keeps the state lawful.
use Rattle.std.proofs.Common.{◌≡◌, ℕ, ◌+◌, ◌-◌, ◌<◌, ◌≤◌, ◌==◌, nat_le, nat_lt, Bool, true, false, not, ◌&&◌, ◌⊎◌, inl, inr, if◌then◌else◌, List, [], ◌∷◌, map, filter, Option, Some, None, is_some, refl, sym, ap, ◌∙◌, subst, arith, eq-eqb}
use Rattle.std.specs.List.{AllByRecursion, find}
use Rattle.std.proofs.lemmas.Bool.{eqb-true, both_ways}
use Rattle.std.proofs.lemmas.Option.{none-some}
use Rattle.gfx_model.specs.Words.{layout_kind, vertex_buffer_kind, index_buffer_kind, texture_kind, frame_buffer_kind, program_kind, uniform_kind, kind_number, is_kind, Format, rgba8, d24s8, plain, texture_info, uniform_info, UniformKind, Handle}
use Rattle.gfx_model.specs.Views.{Views}
use Rattle.gfx_model.specs.World.{layout_content, vertex_content, index_content, texture_content, frame_buffer_content, program_content, uniform_content}
use Rattle.gfx_model.specs.Resources.{Refusal, first_refusal, Thing, Resources, ResourceCall, create_layout, create_vertex_buffer, create_index_buffer, create_texture, create_frame_buffer, create_program, create_uniform, update_buffer, update_texture, destroy, change_view, set_view_target, set_view_order, refusals, refusal_of, effect, with_views, is_at, is_live, is_live_handle, texture_sides, sides_in, same_sides, can_attach, layout_of_handle, texels_from, zero_value, named_uniform, has_name, uniform_refusals, uniform_effect, no_change, die, on_thing, with_references, references_of, holders, holds_texture, least_index, lesser_index, attached_by, greatest_references}
use Rattle.resource_laws.specs.Lawful.{outlives, is_texture_until, HasTextureUntil, IsLawful}
use Rattle.resource_laws.proofs.LawfulLaws.{lawful_made}
use Rattle.resource_laws.proofs.DeathLaws.{has_serial, by_serial, found_true, and_parts, IsUnheld, lawful_died, lawful_referred}
use Rattle.resource_laws.proofs.LiveLaws.{all_found, count_found, live_found}

-- ---- tests that are passed

pub all_passed : (cs : List (Bool × Refusal)) → first_refusal cs ≡ None → AllByRecursion (λ c. c.0 ≡ false) cs
all_passed [] e = tt
all_passed (c ∷ cs) e = step c.0 refl (all_passed cs) e
  where
    step : (b : Bool) → c.0 ≡ b → (first_refusal cs ≡ None → AllByRecursion (λ c. c.0 ≡ false) cs) → (if b then Some c.1 else first_refusal cs) ≡ None → (c.0 ≡ false) × AllByRecursion (λ c. c.0 ≡ false) cs
    step true is rest e = absurd (none-some c.1 (sym e))
    step false is rest e = (is, rest e)

not_true : (b : Bool) → not b ≡ false → b ≡ true
not_true true e = refl
not_true false e = absurd cc

-- ---- textures that are attached live

kind_of_sides : (f : Format) (h : Handle) → is_some (texture_sides f h) ≡ true → is_kind h.kind texture_kind ≡ true
kind_of_sides f h e = step (is_kind h.kind texture_kind) e
  where
    step : (b : Bool) → is_some (if b then sides_in f h.info else None) ≡ true → b ≡ true
    step true e = refl
    step false e = absurd cc

both_some : (o p : Option (ℕ × ℕ)) → same_sides o p ≡ true → (is_some o ≡ true) × (is_some p ≡ true)
both_some None p e = absurd cc
both_some (Some a) None e = absurd cc
both_some (Some a) (Some b) e = (refl, refl)

live_texture : (r : Resources) (h : Handle) → IsLawful r → is_kind h.kind texture_kind ≡ true → not (is_live_handle r h) ≡ false → HasTextureUntil r.things None h.serial
live_texture r h l kind live =
    let found = live_found r h l (not_true (is_live_handle r h) live) in
    let t : Thing = found.0 in
    let place = and_parts (kind_number t.handle.kind == kind_number h.kind) (t.handle.index == h.index) (found_true (is_at h.kind h.index) r.things t found.1) in
    let same : kind_number t.handle.kind ≡ kind_number texture_kind = eqb-true (kind_number t.handle.kind) (kind_number h.kind) place.0 ∙ eqb-true (kind_number h.kind) (kind_number texture_kind) kind in
    let q : is_texture_until None h.serial t ≡ true = λ j. outlives None (found.3 j) && eq-eqb (kind_number t.handle.kind) (kind_number texture_kind) same j && eq-eqb t.handle.serial h.serial found.2 j in
    count_found (is_at h.kind h.index) (is_texture_until None h.serial) r.things t q found.1

target_made : (r : Resources) (color : Handle) (depth : Option Handle) → IsLawful r → AllByRecursion (λ c. c.0 ≡ false) (refusals r (create_frame_buffer color depth)) → IsLawful (effect r (create_frame_buffer color depth)).after
target_made r color None l p =
    lawful_made frame_buffer_kind plain (frame_buffer_content color.serial None) r l p.1.1.0 p.1.1.1.0
    (live_texture r color l (kind_of_sides rgba8 color (not_true (can_attach color None) p.0)) p.1.0, tt)
target_made r color (Some depth) l p =
    let some = both_some (texture_sides rgba8 color) (texture_sides d24s8 depth) (not_true (can_attach color (Some depth)) p.0) in
    lawful_made frame_buffer_kind plain (frame_buffer_content color.serial (Some depth.serial)) r l p.1.1.1.0 p.1.1.1.1.0
    (live_texture r color l (kind_of_sides rgba8 color some.0) p.1.0, live_texture r depth l (kind_of_sides d24s8 depth some.1) p.1.1.0)

-- ---- uniforms

uniform_made : (r : Resources) (name : List ℕ) (k : UniformKind) (o : Option Thing) → named_uniform r name ≡ o → IsLawful r → AllByRecursion (λ c. c.0 ≡ false) (uniform_refusals r k o) → IsLawful (uniform_effect r name k o).after
uniform_made r name k None e l p = lawful_made uniform_kind (uniform_info k) (uniform_content name (zero_value k)) r l p.0 p.1.0 tt
uniform_made r name k (Some t) e l p =
    let less : t.references < greatest_references = few greatest_references t.references p.1.0 in
    lawful_referred (λ n. n + 1) t.handle.serial r l t (by_serial 0 (λ t. is_live t && has_name name t.content) r.things t l.rises e) (omega (arith, less))
  where
    few : (m n : ℕ) → nat_le m n ≡ false → n < m
    few m n e = grind (arith, e)

-- ---- destroys

least_none : (hs : List Handle) → least_index hs ≡ None → hs ≡ []
least_none [] e = refl
least_none (h ∷ hs) e = absurd (step (least_index hs) e)
  where
    one : (g : Handle) (b : Bool) → (if b then Some h else Some g) ≡ None → ⊥
    one g true e = none-some h (sym e)
    one g false e = none-some g (sym e)

    step : (o : Option Handle) → lesser_index h o ≡ None → ⊥
    step None e = none-some h (sym e)
    step (Some g) e = one g (nat_le h.index g.index) e

none_held : (p : Thing → Bool) (ts : List Thing) → map (λ (t : Thing). t.handle) (filter p ts) ≡ [] → AllByRecursion (λ t. p t ≡ false) ts
none_held p [] e = tt
none_held p (t ∷ ts) e = step (p t) refl (none_held p ts) e
  where
    step : (b : Bool) → p t ≡ b → (map (λ (t : Thing). t.handle) (filter p ts) ≡ [] → AllByRecursion (λ t. p t ≡ false) ts) → map (λ (t : Thing). t.handle) (if b then t ∷ filter p ts else filter p ts) ≡ [] → (p t ≡ false) × AllByRecursion (λ t. p t ≡ false) ts
    step true is rest e = absurd cc
    step false is rest e = (is, rest e)

unheld_by : (r : Resources) (h : Handle) (o : Option Handle) → least_index (holders r h) ≡ o → AllByRecursion (λ c. c.0 ≡ false) (attached_by o) → IsUnheld r.things h.serial
unheld_by r h None e p = none_held (λ t. is_live t && holds_texture h.serial t.content) r.things (least_none (holders r h) e)
unheld_by r h (Some g) e p = absurd (both_ways true p.0 refl)

unheld : (r : Resources) (h : Handle) (t : Thing) (b : Bool) → is_kind h.kind texture_kind ≡ b → kind_number t.handle.kind ≡ kind_number h.kind
    → AllByRecursion (λ c. c.0 ≡ false) (if b then attached_by (least_index (holders r h)) else []) → IsUnheld r.things h.serial ⊎ ((kind_number t.handle.kind == 3) ≡ false)
unheld r h t true e same p = inl (unheld_by r h (least_index (holders r h)) refl p)
unheld r h t false e same p = inr (ap (λ n. n == 3) same ∙ e)

destroyed : (r : Resources) (h : Handle) (t : Thing) (b : Bool) → IsLawful r → find (is_at h.kind h.index) r.things ≡ Some t → t.handle.serial ≡ h.serial → t.death ≡ None
    → (IsUnheld r.things h.serial ⊎ ((kind_number t.handle.kind == 3) ≡ false))
    → IsLawful (if b then no_change (on_thing (with_references (λ n. n - 1)) h.serial r) else no_change (die h r)).after
destroyed r h t true l is serial live free =
    let few : t.references ≤ greatest_references = all_found (λ t. t.references ≤ greatest_references) (is_at h.kind h.index) r.things t l.few is in
    lawful_referred (λ n. n - 1) h.serial r l t (subst (λ (s : ℕ). find (has_serial s) r.things ≡ Some t) serial (by_serial 0 (is_at h.kind h.index) r.things t l.rises is)) (omega (arith, few))
destroyed r h t false l is serial live free = lawful_died h r l t is serial live free

-- ---- views

viewed : (r : Resources) (vs : Views) → IsLawful r → IsLawful (with_views vs r)
viewed r vs l = record {
  rises = l.rises;
  below = l.below;
  serials = l.serials;
  few = l.few;
  fits = l.fits;
  books = l.books;
  below_free = l.below_free;
  once = l.once;
  waits = l.waits;
  past = l.past;
  attached = l.attached;
}

-- ---- all calls

lawful_by : (r : Resources) (c : ResourceCall) → IsLawful r → AllByRecursion (λ c. c.0 ≡ false) (refusals r c) → IsLawful (effect r c).after
lawful_by r (create_layout x) l p = lawful_made layout_kind plain (layout_content x) r l p.0 p.1.0 tt
lawful_by r (create_vertex_buffer h bytes) l p = lawful_made vertex_buffer_kind plain (vertex_content (layout_of_handle r h) bytes) r l p.1.1.1.0 p.1.1.1.1.0 tt
lawful_by r (create_index_buffer bytes) l p = lawful_made index_buffer_kind plain (index_content bytes) r l p.1.0 p.1.1.0 tt
lawful_by r (create_texture width height f d source) l p = lawful_made texture_kind (texture_info f d width height) (texture_content f (texels_from width height source)) r l p.1.0 p.1.1.1.0 tt
lawful_by r (create_frame_buffer color depth) l p = target_made r color depth l p
lawful_by r (create_program k) l p = lawful_made program_kind plain (program_content k) r l p.0 p.1.0 tt
lawful_by r (create_uniform name k) l p = uniform_made r name k (named_uniform r name) refl l p.1
lawful_by r (update_buffer h offset bytes) l p = l
lawful_by r (update_texture h rect bytes) l p = l
lawful_by r (destroy h) l p =
    let found = live_found r h l (not_true (is_live_handle r h) p.0) in
    let t : Thing = found.0 in
    let place = and_parts (kind_number t.handle.kind == kind_number h.kind) (t.handle.index == h.index) (found_true (is_at h.kind h.index) r.things t found.1) in
    destroyed r h t (nat_lt 1 (references_of (find (is_at h.kind h.index) r.things))) l found.1 found.2 found.3
    (unheld r h t (is_kind h.kind texture_kind) refl (eqb-true (kind_number t.handle.kind) (kind_number h.kind) place.0) p.1)
lawful_by r (change_view v c) l p = viewed r _ l
lawful_by r (set_view_target v t) l p = viewed r _ l
lawful_by r (set_view_order ids) l p = viewed r _ l

pub lawful_call : (r : Resources) (c : ResourceCall) → IsLawful r → refusal_of r c ≡ None → IsLawful (effect r c).after
lawful_call r c l e = lawful_by r c l (all_passed (refusals r c) e)
