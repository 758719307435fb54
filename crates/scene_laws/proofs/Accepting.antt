-- An accepted call whose handles were given in the run meets what the renderer's commands ask of it.
use Rattle.std.proofs.Common.{◌≡◌, ℕ, zero, ◌+◌, ◌-◌, ◌<◌, ◌≤◌, nat_lt, ◌&&◌, Bool, true, false, not, if◌then◌else◌, List, [], ◌∷◌, ◌++◌, Option, Some, None, refl, sym, ap, ◌∙◌, subst, arith}
use Rattle.std.specs.List.{AllByRecursion, find}
use Rattle.std.proofs.lemmas.Option.{same_Some, none-some}
use Rattle.gfx_model.specs.Words.{Kind, layout_kind, vertex_buffer_kind, index_buffer_kind, texture_kind, frame_buffer_kind, program_kind, uniform_kind, greatest, Info, plain, texture_info, uniform_info, UniformKind, Handle, place_of_handle, first_place}
use Rattle.gfx_model.specs.World.{Content, layout_content}
use Rattle.gfx_model.specs.Resources.{Refusal, Thing, Resources, is_at, is_live, has_name, is_live_handle, book_of, top_index, no_layout, named_uniform, lacks_index, lacks_serial, ResourceCall, create_layout, create_vertex_buffer, create_index_buffer, create_texture, create_frame_buffer, create_program, create_uniform, update_buffer, update_texture, destroy, change_view, set_view_target, set_view_order, refusals, refusal_of, uniform_refusals, effect, uniform_effect, destroy_effect, no_change, on_thing, with_references, references_of, die}
use Rattle.store_laws.specs.Standing.{serials, serial_at}
use Rattle.store_laws.specs.Says.{created}
use Rattle.call_laws.specs.Calls.{Ties, IsLiveThing, HasLive, NamesLive, SourceFits, GivesFree, GivesPlace, Written, IsWritten, things_by, IsAccepted}
use Rattle.call_laws.proofs.FreeLaws.{free_place}
use Rattle.resource_laws.specs.Lawful.{count_where, IsLawful}
use Rattle.resource_laws.proofs.LawfulLaws.{top_below, none_before}
use Rattle.resource_laws.proofs.CallLaws.{all_passed}
use Rattle.resource_laws.proofs.LiveLaws.{all_found, live_found}

-- ---- handles that were given

-- a handle is the one that was given with its serial
abbrev pub IsGiven : (ℕ → Handle) → Handle → Type 0
IsGiven given h = given h.serial ≡ h

-- a serial's place is that of the handle that was given with it
abbrev pub place_by : (ℕ → Handle) → ℕ → ℕ
place_by given n = place_of_handle (given n)

-- each thing has the handle that was given with its serial
abbrev pub ThingsGiven : (ℕ → Handle) → List Thing → Type 0
ThingsGiven given ts = AllByRecursion (λ t. IsGiven given t.handle) ts

-- the handles that a call names
abbrev pub named_in : ResourceCall → List Handle
named_in (create_layout l) = []
named_in (create_vertex_buffer l bytes) = l ∷ []
named_in (create_index_buffer bytes) = []
named_in (create_texture width height f d source) = []
named_in (create_frame_buffer color None) = color ∷ []
named_in (create_frame_buffer color (Some depth)) = color ∷ depth ∷ []
named_in (create_program k) = []
named_in (create_uniform name k) = []
named_in (update_buffer h offset bytes) = h ∷ []
named_in (update_texture h rect bytes) = h ∷ []
named_in (destroy h) = h ∷ []
named_in (change_view v c) = []
named_in (set_view_target v None) = []
named_in (set_view_target v (Some h)) = h ∷ []
named_in (set_view_order ids) = []

-- the handle of a new thing
abbrev pub new_handle : Kind → Info → Resources → Handle
new_handle k info r = record { kind = k; index = top_index (book_of r k).free; serial = r.next_serial; info = info }

-- the handle of a new uniform; none where one of that name lives
abbrev pub new_uniform : Resources → UniformKind → Option Thing → List Handle
new_uniform r k None = new_handle uniform_kind (uniform_info k) r ∷ []
new_uniform r k (Some t) = []

-- the handle of what a call makes anew
abbrev pub new_handles : Resources → ResourceCall → List Handle
new_handles r (create_layout l) = new_handle layout_kind plain r ∷ []
new_handles r (create_vertex_buffer l bytes) = new_handle vertex_buffer_kind plain r ∷ []
new_handles r (create_index_buffer bytes) = new_handle index_buffer_kind plain r ∷ []
new_handles r (create_texture width height f d source) = new_handle texture_kind (texture_info f d width height) r ∷ []
new_handles r (create_frame_buffer color depth) = new_handle frame_buffer_kind plain r ∷ []
new_handles r (create_program k) = new_handle program_kind plain r ∷ []
new_handles r (create_uniform name k) = new_uniform r k (named_uniform r name)
new_handles r (update_buffer h offset bytes) = []
new_handles r (update_texture h rect bytes) = []
new_handles r (destroy h) = []
new_handles r (change_view v c) = []
new_handles r (set_view_target v t) = []
new_handles r (set_view_order ids) = []

-- ---- handles of live things

not_true : (b : Bool) → not b ≡ false → b ≡ true
not_true true e = refl
not_true false e = absurd cc

pub live_given : (given : ℕ → Handle) (r : Resources) (h : Handle) → IsLawful r → ThingsGiven given r.things → IsGiven given h → not (is_live_handle r h) ≡ false → HasLive r h
live_given given r h l things own live =
    let f = live_found r h l (not_true (is_live_handle r h) live) in
    let t : Thing = f.0 in
    let is : IsGiven given t.handle = all_found (λ (u : Thing). IsGiven given u.handle) (is_at h.kind h.index) r.things t things f.1 in
    (t, record { found = f.1; own = sym is ∙ ap given f.2 ∙ own; lives = f.3 })

module _ (given : ℕ → Handle) (r : Resources) (l : IsLawful r) (things : ThingsGiven given r.things) where
  names_live : (c : ResourceCall) → AllByRecursion (λ t. t.0 ≡ false) (refusals r c) → AllByRecursion (IsGiven given) (named_in c) → NamesLive r c
  names_live (create_layout x) p n = tt
  names_live (create_vertex_buffer h bytes) p n = live_given given r h l things n.0 p.1.1.0
  names_live (create_index_buffer bytes) p n = tt
  names_live (create_texture width height f d source) p n = tt
  names_live (create_frame_buffer color None) p n = (live_given given r color l things n.0 p.1.0, tt)
  names_live (create_frame_buffer color (Some depth)) p n = (live_given given r color l things n.0 p.1.0, live_given given r depth l things n.1.0 p.1.1.0)
  names_live (create_program k) p n = tt
  names_live (create_uniform name k) p n = tt
  names_live (update_buffer h offset bytes) p n = live_given given r h l things n.0 p.1.0
  names_live (update_texture h rect bytes) p n = live_given given r h l things n.0 p.1.0
  names_live (destroy h) p n = live_given given r h l things n.0 p.0
  names_live (change_view v c) p n = tt
  names_live (set_view_target v t) p n = tt
  names_live (set_view_order ids) p n = tt

  -- ---- the handle that a call gives

  top : (k : Kind) → (lacks_index r k).0 ≡ false → (lacks_serial r).0 ≡ false → top_index (book_of r k).free < greatest k
  top k some serial = top_below k plain (layout_content no_layout) r l some serial tt

  -- a handle is given, and its index is one of its kind
  abbrev IsGivenBelow : Handle → Type 0
  IsGivenBelow h = IsGiven given h × (h.index < greatest h.kind)

  made_new : (k : Kind) (info : Info) (h : Handle) → (lacks_index r k).0 ≡ false → (lacks_serial r).0 ≡ false → IsGiven given (new_handle k info r) → Some (new_handle k info r) ≡ Some h → IsGivenBelow h
  made_new k info h some serial own e = subst IsGivenBelow (same_Some (new_handle k info r) h e) (own, top k some serial)

  made_uniform : (name : List ℕ) (k : UniformKind) (o : Option Thing) (h : Handle) → named_uniform r name ≡ o → AllByRecursion (λ t. t.0 ≡ false) (uniform_refusals r k o) → AllByRecursion (IsGiven given) (new_uniform r k o) → (uniform_effect r name k o).made ≡ Some h → IsGivenBelow h
  made_uniform name k None h is p new e = made_new uniform_kind (uniform_info k) h p.0 p.1.0 new.0 e
  made_uniform name k (Some t) h is p new e =
      let found : find (λ u. is_live u && has_name name u.content) r.things ≡ Some t = is in
      subst IsGivenBelow (same_Some t.handle h e)
      (all_found (λ (u : Thing). IsGiven given u.handle) (λ u. is_live u && has_name name u.content) r.things t things found, all_found (λ (u : Thing). u.handle.index < greatest u.handle.kind) (λ u. is_live u && has_name name u.content) r.things t l.fits found)

  pub made_given : (c : ResourceCall) (h : Handle) → AllByRecursion (λ t. t.0 ≡ false) (refusals r c) → AllByRecursion (IsGiven given) (new_handles r c) → (effect r c).made ≡ Some h → IsGivenBelow h
  made_given (create_layout x) h p new e = made_new layout_kind plain h p.0 p.1.0 new.0 e
  made_given (create_vertex_buffer x bytes) h p new e = made_new vertex_buffer_kind plain h p.1.1.1.0 p.1.1.1.1.0 new.0 e
  made_given (create_index_buffer bytes) h p new e = made_new index_buffer_kind plain h p.1.0 p.1.1.0 new.0 e
  made_given (create_texture width height f d source) h p new e = made_new texture_kind (texture_info f d width height) h p.1.0 p.1.1.1.0 new.0 e
  made_given (create_frame_buffer color None) h p new e = made_new frame_buffer_kind plain h p.1.1.0 p.1.1.1.0 new.0 e
  made_given (create_frame_buffer color (Some depth)) h p new e = made_new frame_buffer_kind plain h p.1.1.1.0 p.1.1.1.1.0 new.0 e
  made_given (create_program k) h p new e = made_new program_kind plain h p.0 p.1.0 new.0 e
  made_given (create_uniform name k) h p new e = made_uniform name k (named_uniform r name) h refl p.1 new e
  made_given (update_buffer x offset bytes) h p new e = absurd (none-some h e)
  made_given (update_texture x rect bytes) h p new e = absurd (none-some h e)
  made_given (destroy x) h p new e = step (nat_lt 1 (references_of (find (is_at x.kind x.index) r.things))) e
    where
      step : (b : Bool) → (if b then no_change (on_thing (with_references (λ n. n - 1)) x.serial r) else no_change (die x r)).made ≡ Some h → IsGivenBelow h
      step true q = absurd (none-some h q)
      step false q = absurd (none-some h q)
  made_given (change_view v c) h p new e = absurd (none-some h e)
  made_given (set_view_target v t) h p new e = absurd (none-some h e)
  made_given (set_view_order ids) h p new e = absurd (none-some h e)

  -- ---- its place is free

  none_at : (p : Thing → Bool) (ts : List Thing) → count_where p ts ≡ 0 → AllByRecursion (λ t. p t ≡ false) ts
  none_at p [] e = tt
  none_at p (t ∷ ts) e = step (p t) refl e (none_at p ts)
    where
      step : (b : Bool) → p t ≡ b → (if b then 1 else 0) + count_where p ts ≡ 0 → (count_where p ts ≡ 0 → AllByRecursion (λ u. p u ≡ false) ts) → (p t ≡ false) × AllByRecursion (λ u. p u ≡ false) ts
      step true is q rest = absurd (omega (arith, q))
      step false is q rest = (is, rest (omega (arith, q)))

  module _ (ts : List (ℕ × Content)) (ties : Ties (place_by given) r ts) where
    free_new : (k : Kind) (info : Info) → (lacks_index r k).0 ≡ false → (lacks_serial r).0 ≡ false → IsGiven given (new_handle k info r) → serial_at (place_by given) (serials ts) (place_by given r.next_serial) ≡ None
    free_new k info some serial own =
        ap (λ (h : Handle). serial_at (place_by given) (serials ts) (place_of_handle h)) own
        ∙ free_place (place_by given) r ts k (top_index (book_of r k).free) ties (top k some serial)
        (none_at (is_at k (top_index (book_of r k).free)) r.things (none_before k plain (layout_content no_layout) r l some serial tt))

    free_uniform : (name : List ℕ) (k : UniformKind) (o : Option Thing) → AllByRecursion (λ t. t.0 ≡ false) (uniform_refusals r k o) → AllByRecursion (IsGiven given) (new_uniform r k o)
        → AllByRecursion (λ n. serial_at (place_by given) (serials ts) (place_by given n) ≡ None) (created (uniform_effect r name k o).changes)
    free_uniform name k None p new = (free_new uniform_kind (uniform_info k) p.0 p.1.0 new.0, tt)
    free_uniform name k (Some t) p new = tt

    gives_free : (c : ResourceCall) → AllByRecursion (λ t. t.0 ≡ false) (refusals r c) → AllByRecursion (IsGiven given) (new_handles r c) → GivesFree (place_by given) r c ts
    gives_free (create_layout x) p new = (free_new layout_kind plain p.0 p.1.0 new.0, tt)
    gives_free (create_vertex_buffer x bytes) p new = (free_new vertex_buffer_kind plain p.1.1.1.0 p.1.1.1.1.0 new.0, tt)
    gives_free (create_index_buffer bytes) p new = (free_new index_buffer_kind plain p.1.0 p.1.1.0 new.0, tt)
    gives_free (create_texture width height f d source) p new = (free_new texture_kind (texture_info f d width height) p.1.0 p.1.1.1.0 new.0, tt)
    gives_free (create_frame_buffer color None) p new = (free_new frame_buffer_kind plain p.1.1.0 p.1.1.1.0 new.0, tt)
    gives_free (create_frame_buffer color (Some depth)) p new = (free_new frame_buffer_kind plain p.1.1.1.0 p.1.1.1.1.0 new.0, tt)
    gives_free (create_program k) p new = (free_new program_kind plain p.0 p.1.0 new.0, tt)
    gives_free (create_uniform name k) p new = free_uniform name k (named_uniform r name) p.1 new
    gives_free (update_buffer x offset bytes) p new = tt
    gives_free (update_texture x rect bytes) p new = tt
    gives_free (destroy x) p new = step (nat_lt 1 (references_of (find (is_at x.kind x.index) r.things)))
      where
        step : (b : Bool) → AllByRecursion (λ n. serial_at (place_by given) (serials ts) (place_by given n) ≡ None) (created (if b then no_change (on_thing (with_references (λ n. n - 1)) x.serial r) else no_change (die x r)).changes)
        step true = tt
        step false = tt
    gives_free (change_view v c) p new = tt
    gives_free (set_view_target v t) p new = tt
    gives_free (set_view_order ids) p new = tt

-- an accepted call whose handles were given, and whose new handle is the one that is given with its serial
pub is_accepted : (given : ℕ → Handle) (first : List (ℕ × Content)) (v : Written) (c : ResourceCall) → IsLawful v.resources → ThingsGiven given v.resources.things → IsWritten (place_by given) first v
    → refusal_of v.resources c ≡ None → AllByRecursion (IsGiven given) (named_in c) → SourceFits c → AllByRecursion (IsGiven given) (new_handles v.resources c) → IsAccepted (place_by given) first v c
is_accepted given first v c l things w passes named source new =
    let p = all_passed (refusals v.resources c) passes in
    record {
      passes = passes;
      live = names_live given v.resources l things c p named;
      source = source;
      gives = λ h e. (let m = made_given given v.resources l things c h p new e in (ap place_of_handle m.0, m.1));
      free = gives_free given v.resources l things (things_by first v) w.ties c p new;
    }
