-- What a call makes has a free place in the world that the state stands for.
use Rattle.std.proofs.Common.{◌≡◌, ℕ, ◌<◌, Bool, true, false, if◌then◌else◌, List, [], ◌∷◌, Option, Some, None, refl, sym, ap, ◌∙◌}
use Rattle.std.specs.List.{AllByRecursion, find}
use Rattle.std.proofs.lemmas.Option.{none-some}
use Rattle.gfx_model.specs.Words.{Kind, Handle, Info, UniformKind, layout_kind, vertex_buffer_kind, index_buffer_kind, texture_kind, frame_buffer_kind, program_kind, uniform_kind, plain, texture_info, uniform_info, greatest, place_of_handle}
use Rattle.gfx_model.specs.World.{Content}
use Rattle.gfx_model.specs.Resources.{Thing, Resources, ResourceCall, create_layout, create_vertex_buffer, create_index_buffer, create_texture, create_frame_buffer, create_program, create_uniform, update_buffer, update_texture, destroy, change_view, set_view_target, set_view_order, refusals, refusal_of, is_at, lacks_index, lacks_serial, named_uniform, uniform_refusals, uniform_effect, no_change}
use Rattle.store_laws.specs.Standing.{serials, serial_at}
use Rattle.store_laws.specs.Says.{created}
use Rattle.call_laws.specs.Calls.{Ties, GivesPlace, GivesFree}
use Rattle.call_laws.proofs.FreeLaws.{free_place}
use Rattle.resource_laws.specs.Lawful.{IsLawful}
use Rattle.resource_laws.proofs.CallLaws.{all_passed}
use Rattle.resource_laws.proofs.FreeLaws.{made_handle, free_made}

none_at : (p : Thing → Bool) (ts : List Thing) → find p ts ≡ None → AllByRecursion (λ t. p t ≡ false) ts
none_at p [] e = tt
none_at p (t ∷ ts) e = by (p t) refl (none_at p ts) e
  where
    by : (b : Bool) → p t ≡ b → (find p ts ≡ None → AllByRecursion (λ t. p t ≡ false) ts) → (if b then Some t else find p ts) ≡ None → (p t ≡ false) × AllByRecursion (λ t. p t ≡ false) ts
    by true is f e = absurd (none-some t (sym e))
    by false is f e = (is, f e)

-- a handle that is given has its serial's place
abbrev HasPlace : (ℕ → ℕ) → Option Handle → Type 0
HasPlace place made = (h : Handle) → made ≡ Some h → (place h.serial ≡ place_of_handle h) × (h.index < greatest h.kind)

module _ (place : ℕ → ℕ) (r : Resources) (things : List (ℕ × Content)) (l : IsLawful r) (t : Ties place r things) where
  one_free : (k : Kind) (info : Info) → (lacks_index r k).0 ≡ false → (lacks_serial r).0 ≡ false → HasPlace place (Some (made_handle k info r)) → AllByRecursion (λ n. serial_at place (serials things) (place n) ≡ None) (r.next_serial ∷ [])
  one_free k info some serial g =
      let h : Handle = made_handle k info r in
      let free = free_made k info r l some serial in
      (ap (serial_at place (serials things)) (g h refl).0 ∙ free_place place r things k h.index t free.0 (none_at (is_at k h.index) r.things free.1), tt)

  uniform_free : (name : List ℕ) (k : UniformKind) (o : Option Thing) → AllByRecursion (λ c. c.0 ≡ false) (uniform_refusals r k o) → HasPlace place (uniform_effect r name k o).made
      → AllByRecursion (λ n. serial_at place (serials things) (place n) ≡ None) (created (uniform_effect r name k o).changes)
  uniform_free name k None p g = one_free uniform_kind (uniform_info k) p.0 p.1.0 g
  uniform_free name k (Some u) p g = tt

  destroy_free : (b : Bool) (x y : Resources) → AllByRecursion (λ n. serial_at place (serials things) (place n) ≡ None) (created (if b then no_change x else no_change y).changes)
  destroy_free true x y = tt
  destroy_free false x y = tt

  free_by : (c : ResourceCall) → AllByRecursion (λ c. c.0 ≡ false) (refusals r c) → GivesPlace place r c → GivesFree place r c things
  free_by (create_layout x) p g = one_free layout_kind plain p.0 p.1.0 g
  free_by (create_vertex_buffer x bytes) p g = one_free vertex_buffer_kind plain p.1.1.1.0 p.1.1.1.1.0 g
  free_by (create_index_buffer bytes) p g = one_free index_buffer_kind plain p.1.0 p.1.1.0 g
  free_by (create_texture width height f d source) p g = one_free texture_kind (texture_info f d width height) p.1.0 p.1.1.1.0 g
  free_by (create_frame_buffer color None) p g = one_free frame_buffer_kind plain p.1.1.0 p.1.1.1.0 g
  free_by (create_frame_buffer color (Some depth)) p g = one_free frame_buffer_kind plain p.1.1.1.0 p.1.1.1.1.0 g
  free_by (create_program k) p g = one_free program_kind plain p.0 p.1.0 g
  free_by (create_uniform name k) p g = uniform_free name k (named_uniform r name) p.1 g
  free_by (update_buffer b offset bytes) p g = tt
  free_by (update_texture x rect bytes) p g = tt
  free_by (destroy h) p g = destroy_free _ _ _
  free_by (change_view v c) p g = tt
  free_by (set_view_target v None) p g = tt
  free_by (set_view_target v (Some h)) p g = tt
  free_by (set_view_order ids) p g = tt

  pub gives_free : (c : ResourceCall) → refusal_of r c ≡ None → GivesPlace place r c → GivesFree place r c things
  gives_free c passes g = free_by c (all_passed (refusals r c) passes) g
