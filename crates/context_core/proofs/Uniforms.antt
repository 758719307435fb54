-- A create of a uniform makes one, or refers once more to one that lives.
use Rattle.std.proofs.Common.{◌≡◌, ℕ, suc, ◌+◌, ◌<◌, ◌==◌, ◌⊎◌, inl, inr, Bool, true, false, List, [], ◌∷◌, length, Option, Some, None, if◌then◌else◌, nat_lt, refl, sym, ap, ◌∙◌, subst, arith, length-append}
use Rattle.std.specs.Prelude.{⊤}
use Rattle.std.specs.List.{AllByRecursion}
use Rattle.std.proofs.lemmas.List.{length-map}
use Rattle.std.proofs.lemmas.Bool.{ltb-true, lt-ltb, false_from_ne_true}
use Rattle.gfx_model.specs.Words.{uniform_kind, uniform_info, Handle, UniformKind, place_of_handle}
use Rattle.gfx_model.specs.World.{Item, uniform_content}
use Rattle.gfx_model.specs.Resources.{Thing, Resources, Effect, create_uniform, refusals, refusal_of, effect, named_uniform, uniform_effect, uniform_refusals, zero_value, on_thing, with_references, change_of_serial, book_of, top_index}
use Rattle.schedule_model.specs.Machine.{free, place_at}
use Rattle.hold_table.specs.Views.{SeatView, created}
use Rattle.resource_laws.specs.Bare.{bare, bare_of}
use Rattle.resource_laws.specs.Lawful.{IsLawful}
use Rattle.resource_laws.proofs.CallLaws.{all_passed}
use Rattle.resource_book.specs.Written.{BookView, after_in}
use Rattle.context_core.specs.Kept.{IsTied, AreTargets, IsCore, KeepsUsable}
use Rattle.context_core.specs.States.{CoreState, CoreView, own, core_of}
use Rattle.context_core.specs.Calls.{IsPlacedBy, Makes}
use Rattle.context_core.proofs.Moves.{kept_same}
use Rattle.resource_book.proofs.SameLaws.{same_law}
use Rattle.context_core.proofs.Died.{tied_referred}
use Rattle.context_core.proofs.Created.{IsMake, made_by, place_was_free, serial_is_new, kept_after, makes_after, usable_after}
use Rattle.context_core.specs.Places.{Stays}
use Rattle.atomic_table.specs.Seated.{TableId}

-- an effect that gives one reference more
pub record IsReferred (r : Resources) (e : Effect) : Type 0 where
  pub serial : ℕ
  pub after : e.after ≡ on_thing (with_references (λ n. n + 1)) serial r
  pub changes : e.changes ≡ []

pub uniform_by : (r : Resources) (name : List ℕ) (k : UniformKind) (h : Handle) (o : Option Thing) → AllByRecursion (λ c. c.0 ≡ false) (uniform_refusals r k o) → (uniform_effect r name k o).made ≡ Some h
    → IsMake r (uniform_effect r name k o) h ⊎ IsReferred r (uniform_effect r name k o)
uniform_by r name k h None p m = inl (made_by uniform_kind (uniform_info k) (uniform_content name (zero_value k)) r h p.0 p.1.0 m)
uniform_by r name k h (Some t) p m = inr (record { serial = t.handle.serial; after = refl; changes = refl })

same_length : (f : Thing → Thing) (s : ℕ) (ts : List Thing) → length (change_of_serial f s ts) ≡ length ts
same_length f s [] = refl
same_length f s (t ∷ ts) = by_test (t.handle.serial == s) (same_length f s ts) where
  by_test : (b : Bool) → length (change_of_serial f s ts) ≡ length ts → length (if b then f t ∷ ts else t ∷ change_of_serial f s ts) ≡ suc (length ts)
  by_test true e = refl
  by_test false e = ap suc e

made_length : (r : Resources) (e : Effect) (h : Handle) → IsMake r e h → length e.after.things ≡ length r.things + 1
made_length r e h m =
    let t : Thing = record { handle = record { kind = m.kind; index = top_index (book_of r m.kind).free; serial = r.next_serial; info = m.info }; birth = r.frame; death = None; content = m.content; references = 1 } in
    ap (λ (x : Effect). length x.after.things) m.is ∙ length-append r.things (t ∷ [])

module _ {admits : ℕ → ℕ → List Item → ℕ → Type 0} {views : ℕ} {v : CoreState} (k : IsCore admits views ⊤ v) (l : IsLawful v.book.resources) (name : List ℕ) (kind : UniformKind) (h : Handle)
    (accepted : refusal_of v.book.resources (create_uniform name kind) ≡ None) (made : (effect v.book.resources (create_uniform name kind)).made ≡ Some h)
    (b : BookView) (book : b ≡ after_in (create_uniform name kind) (Some h) v.book) (before after : ℕ) (was : before ≡ length v.book.resources.things) (now : after ≡ length b.resources.things) where
  abbrev e : Effect
  e = effect v.book.resources (create_uniform name kind)

  which : IsMake v.book.resources e h ⊎ IsReferred v.book.resources e
  which = uniform_by v.book.resources name kind h (named_uniform v.book.resources name) (all_passed (refusals v.book.resources (create_uniform name kind)) accepted).1 made

  many : after ≡ length e.after.things
  many = now ∙ ap (λ (x : BookView). length x.resources.things) book ∙ length-map e.after.things bare

  grows : IsMake v.book.resources e h → nat_lt before after ≡ true
  grows m = lt-ltb before after (let a = made_length v.book.resources e h m in omega (arith, a, many, was))

  stays : IsReferred v.book.resources e → nat_lt before after ≡ false
  stays m =
      let a = ap (λ (r : Resources). length r.things) m.after in
      let c = same_length (with_references (λ n. n + 1)) m.serial v.book.resources.things in
      false_from_ne_true (nat_lt before after) (λ t. absurd (let lt = ltb-true before after t in omega (arith, a, c, many, was, lt)))

  free_by : IsMake v.book.resources e h ⊎ IsReferred v.book.resources e → nat_lt before after ≡ true → (place_at v.seat.places (place_of_handle h) ≡ free) × (v.seat.greatest < h.serial)
  free_by (inl m) t = (place_was_free m v.seat l k.tied, serial_is_new m v.seat k.tied)
  free_by (inr m) t = absurd (Rattle.std.proofs.lemmas.Bool.true≢false (sym t ∙ stays m))

  pub uniform_free : nat_lt before after ≡ true → (place_at v.seat.places (place_of_handle h) ≡ free) × (v.seat.greatest < h.serial)
  uniform_free = free_by which

  module _ (s : SeatView) (seat : s ≡ (if nat_lt before after then created (place_of_handle h) h.serial v.seat else v.seat)) where
    same_seat : IsReferred v.book.resources e → s ≡ v.seat
    same_seat m = seat ∙ ap (λ (x : Bool). if x then created (place_of_handle h) h.serial v.seat else v.seat) (stays m)

    new_seat : IsMake v.book.resources e h → s ≡ created (place_of_handle h) h.serial v.seat
    new_seat m = seat ∙ ap (λ (x : Bool). if x then created (place_of_handle h) h.serial v.seat else v.seat) (grows m)

    referred : IsReferred v.book.resources e → IsCore admits views ⊤ (record v { book = b; seat = s })
    referred m =
        let same = same_law v.book.resources (create_uniform name kind) in
        subst (λ (p : BookView × SeatView). IsCore admits views ⊤ (record v { book = p.0; seat = p.1 })) (λ j. (sym book j, sym (same_seat m) j))
        (kept_same admits views v k (after_in (create_uniform name kind) (Some h) v.book)
        (subst (λ (r : Resources). IsTied (bare_of r) v.seat) (sym m.after) (tied_referred (λ n. n + 1) m.serial v.book.resources v.seat l k.tied)) (ap (λ (r : Resources). r.next_serial) m.after) same.0 same.1
        (subst (λ (r : Resources). AreTargets v.seat.frame v.seat.places r.views.settings) (sym m.after) k.targets))

    kept_by : IsMake v.book.resources e h ⊎ IsReferred v.book.resources e → IsCore admits views ⊤ (record v { book = b; seat = s })
    kept_by (inl m) = kept_after k l (create_uniform name kind) m b s book (new_seat m)
    kept_by (inr m) = referred m

    pub uniform_kept : IsCore admits views ⊤ (record v { book = b; seat = s })
    uniform_kept = kept_by which

    refers_here : IsReferred v.book.resources e → (tid uid : TableId) → uid ≡ tid → Makes own (create_uniform name kind) h (core_of tid v) (core_of uid (record v { book = b; seat = s }))
    refers_here m tid uid same = record {
      accepted = accepted;
      made = made;
      placed = subst (λ cs. IsPlacedBy cs h v.seat s) (sym m.changes) (same_seat m);
      after = (λ j. core_of (same j) (record v { book = book j; seat = s }));
    }

    makes_by : IsMake v.book.resources e h ⊎ IsReferred v.book.resources e → (tid uid : TableId) → uid ≡ tid → (old : CoreView) → core_of tid v ≡ old
        → Makes own (create_uniform name kind) h old (core_of uid (record v { book = b; seat = s }))
    makes_by (inl m) tid uid same old is = makes_after k l (create_uniform name kind) m b s book (new_seat m) accepted made tid uid same old is
    makes_by (inr m) tid uid same old is = subst (λ (o : CoreView). Makes own (create_uniform name kind) h o (core_of uid (record v { book = b; seat = s }))) is (refers_here m tid uid same)

    pub uniform_makes : (tid uid : TableId) → uid ≡ tid → (old : CoreView) → core_of tid v ≡ old → Makes own (create_uniform name kind) h old (core_of uid (record v { book = b; seat = s }))
    uniform_makes = makes_by which

    usable_by : IsMake v.book.resources e h ⊎ IsReferred v.book.resources e → (tid : TableId) (old : CoreView) → core_of tid v ≡ old → KeepsUsable old.state (record v { book = b; seat = s })
    usable_by (inl m) tid old is = usable_after k l (create_uniform name kind) m b s book (new_seat m) tid old is
    usable_by (inr m) tid old is = subst (λ (o : CoreView). KeepsUsable o.state (record v { book = b; seat = s })) is
        (λ n le. subst (λ (x : SeatView). Stays n v.seat.places x.places) (sym (same_seat m)) (λ g u. u))

    pub uniform_usable : (tid : TableId) (old : CoreView) → core_of tid v ≡ old → KeepsUsable old.state (record v { book = b; seat = s })
    uniform_usable = usable_by which
