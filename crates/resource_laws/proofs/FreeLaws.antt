-- What an accepted call gives stands at a free place.
use Rattle.std.proofs.Common.{◌≡◌, ℕ, ◌+◌, Bool, true, false, if◌then◌else◌, List, [], ◌∷◌, Option, Some, None, MatchOption, refl, sym, subst, arith}
use Rattle.std.specs.List.{AllByRecursion, find}
use Rattle.std.proofs.lemmas.Option.{none-some, same_Some}
use Rattle.gfx_model.specs.Words.{Kind, Handle, Info, UniformKind, layout_kind, vertex_buffer_kind, index_buffer_kind, texture_kind, frame_buffer_kind, program_kind, uniform_kind, plain, solid, texture_info, uniform_info}
use Rattle.gfx_model.specs.World.{program_content}
use Rattle.gfx_model.specs.Resources.{Thing, Resources, ResourceCall, create_layout, create_vertex_buffer, create_index_buffer, create_texture, create_frame_buffer, create_program, create_uniform, update_buffer, update_texture, destroy, change_view, set_view_target, set_view_order, refusals, refusal_of, effect, is_at, book_of, top_index, lacks_index, lacks_serial, named_uniform, uniform_refusals, uniform_effect, no_change}
use Rattle.resource_laws.specs.Lawful.{count_where, IsLawful}
use Rattle.resource_laws.specs.Laws.{IsFree, Gives}
use Rattle.resource_laws.proofs.LawfulLaws.{top_below, none_before}
use Rattle.resource_laws.proofs.CallLaws.{all_passed}

not_found : (p : Thing → Bool) (ts : List Thing) → count_where p ts ≡ 0 → find p ts ≡ None
not_found p [] e = refl
not_found p (t ∷ ts) e = by (p t) (not_found p ts) e
  where
    by : (b : Bool) → (count_where p ts ≡ 0 → find p ts ≡ None) → (if b then 1 else 0) + count_where p ts ≡ 0 → (if b then Some t else find p ts) ≡ None
    by true f e = absurd (omega (arith, e))
    by false f e = f (omega (arith, e))

-- the handle of the top index and the next serial
abbrev pub made_handle : Kind → Info → Resources → Handle
made_handle k info r = record { kind = k; index = top_index (book_of r k).free; serial = r.next_serial; info = info }

pub free_made : (k : Kind) (info : Info) (r : Resources) → IsLawful r → (lacks_index r k).0 ≡ false → (lacks_serial r).0 ≡ false → IsFree r (made_handle k info r)
free_made k info r l some serial =
    (top_below k info (program_content solid) r l some serial tt, not_found (is_at k (top_index (book_of r k).free)) r.things (none_before k info (program_content solid) r l some serial tt))

free_given : (k : Kind) (info : Info) (r : Resources) (h : Handle) → IsLawful r → (lacks_index r k).0 ≡ false → (lacks_serial r).0 ≡ false → Some (made_handle k info r) ≡ Some h → IsFree r h
free_given k info r h l some serial e = subst (IsFree r) (same_Some (made_handle k info r) h e) (free_made k info r l some serial)

uniform_gives : (r : Resources) (name : List ℕ) (k : UniformKind) (o : Option Thing) (h : Handle) → IsLawful r → AllByRecursion (λ c. c.0 ≡ false) (uniform_refusals r k o) → (uniform_effect r name k o).made ≡ Some h → MatchOption o (IsFree r h) (λ t. h ≡ t.handle)
uniform_gives r name k None h l p e = free_given uniform_kind (uniform_info k) r h l p.0 p.1.0 e
uniform_gives r name k (Some t) h l p e = sym (same_Some t.handle h e)

destroy_gives : (b : Bool) (x y : Resources) (h : Handle) → (if b then no_change x else no_change y).made ≡ Some h → ⊥
destroy_gives true x y h e = none-some h e
destroy_gives false x y h e = none-some h e

gives_by : (r : Resources) (c : ResourceCall) (h : Handle) → IsLawful r → AllByRecursion (λ c. c.0 ≡ false) (refusals r c) → (effect r c).made ≡ Some h → Gives r c h
gives_by r (create_layout x) h l p e = free_given layout_kind plain r h l p.0 p.1.0 e
gives_by r (create_vertex_buffer x bytes) h l p e = free_given vertex_buffer_kind plain r h l p.1.1.1.0 p.1.1.1.1.0 e
gives_by r (create_index_buffer bytes) h l p e = free_given index_buffer_kind plain r h l p.1.0 p.1.1.0 e
gives_by r (create_texture width height f d source) h l p e = free_given texture_kind (texture_info f d width height) r h l p.1.0 p.1.1.1.0 e
gives_by r (create_frame_buffer color None) h l p e = free_given frame_buffer_kind plain r h l p.1.1.0 p.1.1.1.0 e
gives_by r (create_frame_buffer color (Some depth)) h l p e = free_given frame_buffer_kind plain r h l p.1.1.1.0 p.1.1.1.1.0 e
gives_by r (create_program k) h l p e = free_given program_kind plain r h l p.0 p.1.0 e
gives_by r (create_uniform name k) h l p e = uniform_gives r name k (named_uniform r name) h l p.1 e
gives_by r (update_buffer b offset bytes) h l p e = absurd (none-some h e)
gives_by r (update_texture t rect bytes) h l p e = absurd (none-some h e)
gives_by r (destroy g) h l p e = absurd (destroy_gives _ _ _ h e)
gives_by r (change_view v c) h l p e = absurd (none-some h e)
gives_by r (set_view_target v None) h l p e = absurd (none-some h e)
gives_by r (set_view_target v (Some g)) h l p e = absurd (none-some h e)
gives_by r (set_view_order ids) h l p e = absurd (none-some h e)

pub gives : (r : Resources) (c : ResourceCall) (h : Handle) → IsLawful r → refusal_of r c ≡ None → (effect r c).made ≡ Some h → Gives r c h
gives r c h l passes e = gives_by r c h l (all_passed (refusals r c) passes) e
