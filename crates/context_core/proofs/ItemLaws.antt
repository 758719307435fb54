-- What encoders recorded names things that live or die in the frame.
use Rattle.std.proofs.Common.{◌≡◌, ℕ, ◌≤◌, ◌==◌, ◌&&◌, nat_le, Bool, true, false, if◌then◌else◌, IsTrue, List, [], ◌∷◌, map, Option, Some, None, IfSome, refl, sym, ap, ◌∙◌, subst, arith, eq-eqb}
use Rattle.std.proofs.lemmas.Bool.{leb-true, eqb-true, true≢false}
use Rattle.std.proofs.lemmas.Option.{none-some}
use Rattle.std.specs.List.{AllByRecursion, find}
use Rattle.gfx_words.proofs.NameLaws.{same_kind}
use Rattle.gfx_model.specs.Words.{Kind, vertex_buffer_kind, index_buffer_kind, layout_kind, texture_kind, frame_buffer_kind, uniform_kind, program_kind, kind_number, is_kind, Format, rgba8, d24s8, Handle, place_of_handle}
use Rattle.gfx_model.specs.World.{VertexSet, no_vertices, stored_vertices, transient_vertices, IndexSet, no_indices, stored_indices, transient_indices, UniformSet, Item, draw_item, touch_item, blit_item}
use Rattle.gfx_model.specs.Recorder.{format_of, format_in, is_rgba8_option, same_formats, takes_value}
use Rattle.gfx_model.specs.Resources.{Thing, Resources, is_at}
use Rattle.schedule_model.specs.Machine.{Place, place_at, has_usable}
use Rattle.resource_laws.specs.Bare.{bare}
use Rattle.resource_laws.specs.Lawful.{IsLawful}
use Rattle.resource_laws.proofs.LiveLaws.{all_found}
use Rattle.call_laws.specs.Calls.{is_there}
use Rattle.call_laws.specs.Context.{IsThingThere, HasThere, HasThereOption, HasVertices, HasIndices, HasTexture, HasItem}
use Rattle.draw_encoder.specs.Names.{FitsVertices, FitsIndices, FitsTexture, FitsUniform, FitsItem}
use Rattle.context_core.specs.Places.{place_by, place_of, IsPlaced, IsUsable}
use Rattle.context_core.specs.Kept.{IsTarget, AreTargets}
use Rattle.gfx_model.specs.Views.{View}
use Rattle.context_core.specs.Laws.{IsOwn, OwnTarget, ItemsLaw, TargetsLaw}
use Rattle.context_core.proofs.Tied.{found_bare}

pub both : (b c : Bool) → b && c ≡ true → (b ≡ true) × (c ≡ true)
both true true e = (refl, refl)
both true false e = absurd cc
both false c e = absurd cc

-- the kind that a test tells
kind_is : (h : Handle) (k : Kind) → IsTrue (is_kind h.kind k) → h.kind ≡ k
kind_is h k e = same_kind h.kind k (eqb-true (kind_number h.kind) (kind_number k) e)

-- a handle with a format is a texture's
texture_is : (h : Handle) (f : Format) → format_of h ≡ Some f → h.kind ≡ texture_kind
texture_is h f e = kind_is h texture_kind (by_test (is_kind h.kind texture_kind) refl) where
  by_test : (b : Bool) → is_kind h.kind texture_kind ≡ b → is_kind h.kind texture_kind ≡ true
  by_test true z = z
  by_test false z = absurd (none-some f (sym (ap (λ c. if c then format_in h.info else None) z) ∙ e))

colour_is : (o : Option Format) → IsTrue (is_rgba8_option o) → o ≡ Some rgba8
colour_is None e = absurd cc
colour_is (Some rgba8) e = refl
colour_is (Some d24s8) e = absurd cc

first_some : (o p : Option Format) → IsTrue (same_formats o p) → (f : Format) × (o ≡ Some f)
first_some None p e = absurd cc
first_some (Some f) p e = (f, refl)

second_some : (o p : Option Format) → IsTrue (same_formats o p) → (f : Format) × (p ≡ Some f)
second_some None p e = absurd cc
second_some (Some f) None e = absurd cc
second_some (Some f) (Some g) e = (g, refl)

module _ (r : Resources) (l : IsLawful r) (frame : ℕ) (places : List Place) (is : r.frame ≡ frame) (placed : IsPlaced places (map bare r.things)) where
  there_by : (o death : Option ℕ) (n serial : ℕ) → o ≡ death → IfSome death (λ d. d ≤ r.frame) → IsTrue (has_usable frame serial (place_by n death)) → (n ≡ serial) × (is_there r.frame o ≡ true)
  there_by o None n serial e past u = (eqb-true n serial u, ap (is_there r.frame) e)
  there_by o (Some d) n serial e past u =
      let b = both (n == serial) (nat_le frame d) u in
      let le = leb-true frame d b.1 in
      let same : d ≡ r.frame = omega (arith, le, past, is) in
      (eqb-true n serial b.0, ap (is_there r.frame) e ∙ eq-eqb d r.frame same)

  thing_by : (h : Handle) (o : Option Thing) → find (is_at h.kind h.index) r.things ≡ o → IsOwn r h → IsTrue (has_usable frame h.serial (place_of o)) → (t : Thing) × IsThingThere r h t
  thing_by h None e own u = absurd (true≢false (sym u))
  thing_by h (Some t) e own u =
      let past = all_found (λ t. IfSome t.death (λ d. d ≤ r.frame)) (is_at h.kind h.index) r.things t l.past e in
      let p = there_by t.death t.death t.handle.serial h.serial refl past u in
      (t, record { found = e; own = own.1 t e p.0; there = p.1 })

  pub has_there : (k : Kind) (h : Handle) → IsUsable frame places h → IsOwn r h → h.kind ≡ k → HasThere r k h
  has_there k h u own kind =
      let at : place_at places (place_of_handle h) ≡ place_of (find (is_at h.kind h.index) r.things) = placed h.kind h.index own.0 ∙ found_bare (is_at h.kind h.index) (λ t. refl) r.things in
      (kind, thing_by h (find (is_at h.kind h.index) r.things) refl own (subst (λ (p : Place). IsTrue (has_usable frame h.serial p)) at u))

module _ (r : Resources) (l : IsLawful r) (frame : ℕ) (places : List Place) (is : r.frame ≡ frame) (placed : IsPlaced places (map bare r.things)) where
  there : (k : Kind) (h : Handle) → IsUsable frame places h → IsOwn r h → h.kind ≡ k → HasThere r k h
  there = has_there r l frame places is placed

  values : (ss : List UniformSet) → AllByRecursion (FitsUniform (IsUsable frame places)) ss → AllByRecursion (FitsUniform (IsOwn r)) ss → AllByRecursion (λ s. HasThere r uniform_kind s.uniform) ss
  values [] a b = tt
  values (s ∷ ss) a b = (there uniform_kind s.uniform a.0.0 b.0.0 (kind_is s.uniform uniform_kind (both (is_kind s.uniform.kind uniform_kind) (takes_value s.uniform.info s.value) a.0.1).0), values ss a.1 b.1)

  vertices : (v : VertexSet) → FitsVertices (IsUsable frame places) v → FitsVertices (IsOwn r) v → HasVertices r v
  vertices no_vertices a b = tt
  vertices (stored_vertices h first count) a b = there vertex_buffer_kind h a.0 b.0 (kind_is h vertex_buffer_kind a.1)
  vertices (transient_vertices h bytes) a b = there layout_kind h a.0 b.0 (kind_is h layout_kind a.1)

  indices : (v : IndexSet) → FitsIndices (IsUsable frame places) v → FitsIndices (IsOwn r) v → HasIndices r v
  indices no_indices a b = tt
  indices (stored_indices h first count) a b = there index_buffer_kind h a.0 b.0 (kind_is h index_buffer_kind a.1)
  indices (transient_indices bytes) a b = tt

  texture : (o : Option Handle) → FitsTexture (IsUsable frame places) o → FitsTexture (IsOwn r) o → HasTexture r o
  texture None a b = tt
  texture (Some h) a b = let f = colour_is (format_of h) a.1 in (there texture_kind h a.0 b.0 (texture_is h rgba8 f), f)

  textures : (os : List (Option Handle)) → AllByRecursion (FitsTexture (IsUsable frame places)) os → AllByRecursion (FitsTexture (IsOwn r)) os → AllByRecursion (HasTexture r) os
  textures [] a b = tt
  textures (o ∷ os) a b = (texture o a.0 b.0, textures os a.1 b.1)

  item : (views : ℕ) (i : Item) → FitsItem (IsUsable frame places) views i → FitsItem (IsOwn r) views i → HasItem r i
  item views (draw_item d) a b = (there program_kind d.program a.1.0 b.1.0 (kind_is d.program program_kind a.1.1), values d.values a.5 b.5, vertices d.vertices a.2 b.2, indices d.indices a.3 b.3, textures d.textures a.4 b.4)
  item views (touch_item t) a b = values t.values a.1 b.1
  item views (blit_item c) a b =
      let f = first_some (format_of c.destination) (format_of c.source) a.3 in
      let s = second_some (format_of c.destination) (format_of c.source) a.3 in
      (there texture_kind c.destination a.1 b.1 (texture_is c.destination f.0 f.1), there texture_kind c.source a.2 b.2 (texture_is c.source s.0 s.1))

  pub all_items : (views : ℕ) (items : List Item) → AllByRecursion (FitsItem (IsUsable frame places) views) items → AllByRecursion (FitsItem (IsOwn r) views) items → AllByRecursion (HasItem r) items
  all_items views [] a b = tt
  all_items views (i ∷ items) a b = (item views i a.0 b.0, all_items views items a.1 b.1)

pub items_law : ItemsLaw
items_law views seat r t l items a b = all_items r l seat.frame seat.places t.frame t.placed views items a b

pub targets_law : TargetsLaw
targets_law seat r t l targets own = all r.views.settings targets own where
  one : (o : Option Handle) → IsTarget seat.frame seat.places o → OwnTarget r o → HasThereOption r frame_buffer_kind o
  one None x a = tt
  one (Some h) x a = has_there r l seat.frame seat.places t.frame t.placed frame_buffer_kind h x.1 a (kind_is h frame_buffer_kind x.0)

  all : (vs : List View) → AreTargets seat.frame seat.places vs → AllByRecursion (λ view. OwnTarget r view.target) vs → AllByRecursion (λ view. HasThereOption r frame_buffer_kind view.target) vs
  all [] x a = tt
  all (v ∷ vs) x a = (one v.target x.0 a.0, all vs x.1 a.1)
