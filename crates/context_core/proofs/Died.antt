-- A thing that dies in its place.
use Rattle.std.proofs.Common.{◌≡◌, ◌≢◌, ℕ, ◌+◌, ◌-◌, ◌<◌, ◌≤◌, ◌==◌, Bool, true, false, ◌&&◌, if◌then◌else◌, List, [], ◌∷◌, length, Option, Some, None, refl, sym, ap, ◌∙◌, subst, arith, slice_set, option_map, eq-eqb, ne_eqb, not, nat_lt, map}
use Rattle.std.specs.Prelude.{⊤}
use Rattle.std.specs.List.{find}
use Rattle.std.proofs.lemmas.Bool.{eqb-true}
use Rattle.std.proofs.lemmas.Option.{same_Some}
use mathlib.Core.Logic.{dite}
use native.Mathlib.Decide.{ℕ_discrete}
use Rattle.gfx_model.specs.Words.{Kind, Handle, kind_number, greatest, first_place, place_of_handle}
use Rattle.gfx_model.specs.Resources.{Thing, Resources, is_at, change_of_serial, with_death, with_references, on_thing, no_change, die, destroy, references_of}
use Rattle.schedule_model.specs.Machine.{Place, live, dying, place_at}
use Rattle.hold_table.proofs.PlaceLaws.{place-set, place-else}
use Rattle.resource_laws.specs.Lawful.{Rises}
use Rattle.gfx_model.proofs.Apart.{kind_apart, index_apart, place_below}
use Rattle.resource_laws.proofs.DeathLaws.{found_ge, found_true, by_serial, has_serial}
use Rattle.context_core.specs.Places.{place_by, place_of, IsPlaced, Stays}
use Rattle.atomic_table.specs.Seated.{TableId}
use Rattle.context_core.specs.Kept.{IsTied, IsCore, KeepsUsable}
use Rattle.context_core.specs.States.{CoreState, CoreView, core_of}
use Rattle.context_core.specs.Calls.{destroyed}
use Rattle.context_core.proofs.Stays.{stays_named, dying_named}
use Rattle.context_core.proofs.Moves.{kept_moved, kept_same}
use Rattle.context_core.proofs.Stays.{targets_stay}
use Rattle.resource_book.specs.Written.{BookView, after_in}
use Rattle.resource_book.specs.Answered.{HasLiveThing}
use Rattle.resource_laws.specs.Lawful.{IsLawful}
use Rattle.gfx_model.specs.World.{Item}
use Rattle.hold_table.specs.Views.{SeatView}
use Rattle.hold_table.specs.Views as views
use Rattle.std.proofs.lemmas.List.{length-set}
use Rattle.resource_laws.specs.Bare.{bare, bare_of}
use Rattle.context_core.proofs.Tied.{at_place, placed_bare}

abbrev changed : (Thing → Thing) → ℕ → Thing → Thing
changed f s u = if u.handle.serial == s then f u else u

module _ (f : Thing → Thing) (s : ℕ) (p : Thing → Bool) (same : (u : Thing) → p (f u) ≡ p u) where
  untouched_by : (xs : List Thing) (o : Option Thing) → Rises (s + 1) xs → find p xs ≡ o → option_map (changed f s) o ≡ o
  untouched_by xs None r e = refl
  untouched_by xs (Some u) r e = let le = found_ge (s + 1) p xs u r e in ap (λ b. Some (if b then f u else u)) (ne_eqb u.handle.serial s (λ z. omega (arith, le, z)))

  here_step : (x : Thing) (xs : List Thing) (c : Bool) → x.handle.serial == s ≡ true → Rises (s + 1) xs → (if c then Some (f x) else find p xs) ≡ option_map (changed f s) (if c then Some x else find p xs)
  here_step x xs true e r = ap (λ b. Some (if b then f x else x)) (sym e)
  here_step x xs false e r = sym (untouched_by xs (find p xs) r refl)

  later_step : (x : Thing) (xs : List Thing) (c : Bool) → x.handle.serial == s ≡ false → find p (change_of_serial f s xs) ≡ option_map (changed f s) (find p xs)
      → (if c then Some x else find p (change_of_serial f s xs)) ≡ option_map (changed f s) (if c then Some x else find p xs)
  later_step x xs true e h = ap (λ b. Some (if b then f x else x)) (sym e)
  later_step x xs false e h = h

  turn : (x : Thing) (xs : List Thing) (b : Bool) → x.handle.serial == s ≡ b → Rises (x.handle.serial + 1) xs → find p (change_of_serial f s xs) ≡ option_map (changed f s) (find p xs)
      → find p (if b then f x ∷ xs else x ∷ change_of_serial f s xs) ≡ option_map (changed f s) (find p (x ∷ xs))
  turn x xs true e r h = ap (λ c. if c then Some (f x) else find p xs) (same x) ∙ here_step x xs (p x) e (subst (λ (n : ℕ). Rises (n + 1) xs) (eqb-true x.handle.serial s e) r)
  turn x xs false e r h = later_step x xs (p x) e h

  pub found_changed : (n : ℕ) (ts : List Thing) → Rises n ts → find p (change_of_serial f s ts) ≡ option_map (changed f s) (find p ts)
  found_changed n [] r = refl
  found_changed n (x ∷ xs) r = turn x xs (x.handle.serial == s) refl r.1 (found_changed (x.handle.serial + 1) xs r.1)

module _ (places : List Place) (ts : List Thing) (h : Handle) (t : Thing) (frame : ℕ) (placed : IsPlaced places ts) (many : length places ≡ 3776) (rises : Rises 0 ts) (lt : h.index < greatest h.kind)
    (is : find (is_at h.kind h.index) ts ≡ Some t) (serial : t.handle.serial ≡ h.serial) where
  -- a thing elsewhere is another one
  elsewhere : (m : Kind) (j : ℕ) (o : Option Thing) → first_place m + j ≢ place_of_handle h → find (is_at m j) ts ≡ o → place_of (option_map (changed (with_death frame) h.serial) o) ≡ place_of o
  elsewhere m j None ne e = refl
  elsewhere m j (Some u) ne e = by_test (u.handle.serial == h.serial) refl where
    by_test : (b : Bool) → u.handle.serial == h.serial ≡ b → place_of (Some (if u.handle.serial == h.serial then with_death frame u else u)) ≡ place_of (Some u)
    by_test false z = ap (λ b. place_of (Some (if b then with_death frame u else u))) z
    by_test true z =
        let us : u.handle.serial ≡ t.handle.serial = eqb-true u.handle.serial h.serial z ∙ sym serial in
        let one : u ≡ t = same_Some u t (sym (by_serial 0 (is_at m j) ts u rises e) ∙ ap (λ n. find (has_serial n) ts) us ∙ by_serial 0 (is_at h.kind h.index) ts t rises is) in
        absurd (ne (at_place m j u (found_true (is_at m j) ts u e) ∙ ap (λ (v : Thing). place_of_handle v.handle) one ∙ sym (at_place h.kind h.index t (found_true (is_at h.kind h.index) ts t is))))

  pub placed_died : IsPlaced (slice_set places (place_of_handle h) (dying h.serial frame)) (change_of_serial (with_death frame) h.serial ts)
  placed_died m j l = dite (ℕ_discrete (first_place m + j) (place_of_handle h))
      (λ (e : first_place m + j ≡ place_of_handle h).
      let kinds = kind_apart h.kind m h.index j lt l (sym e) in
      let indices = index_apart h.kind m h.index j lt l (sym e) in
      let found : find (is_at m j) ts ≡ Some t = (λ z. find (λ u. (kind_number u.handle.kind == sym kinds z) && (u.handle.index == sym indices z)) ts) ∙ is in
      ap (place_at (slice_set places (place_of_handle h) (dying h.serial frame))) e ∙ place-set places (place_of_handle h) (dying h.serial frame) (omega (arith, many, place_below h.kind h.index lt))
      ∙ sym (ap place_of (found_changed (with_death frame) h.serial (is_at m j) (λ u. refl) 0 ts rises ∙ ap (option_map (changed (with_death frame) h.serial)) found
      ∙ ap (λ b. Some (if b then with_death frame t else t)) (eq-eqb t.handle.serial h.serial serial)) ∙ ap (λ n. dying n frame) serial))
      (λ (ne : first_place m + j ≢ place_of_handle h).
      place-else places (place_of_handle h) (first_place m + j) (dying h.serial frame) ne ∙ placed m j l
      ∙ sym (ap place_of (found_changed (with_death frame) h.serial (is_at m j) (λ u. refl) 0 ts rises) ∙ elsewhere m j (find (is_at m j) ts) ne refl))

-- ---- other references

refer_place : (g : ℕ → ℕ) (u : Thing) (b : Bool) → place_of (Some (if b then with_references g u else u)) ≡ place_of (Some u)
refer_place g u true = refl
refer_place g u false = refl

same_place : (g : ℕ → ℕ) (s : ℕ) (o : Option Thing) → place_of (option_map (changed (with_references g) s) o) ≡ place_of o
same_place g s None = refl
same_place g s (Some u) = refer_place g u (u.handle.serial == s)

pub placed_referred : (g : ℕ → ℕ) (s : ℕ) (places : List Place) (ts : List Thing) → IsPlaced places ts → Rises 0 ts → IsPlaced places (change_of_serial (with_references g) s ts)
placed_referred g s places ts placed rises m j l = placed m j l ∙ sym (ap place_of (found_changed (with_references g) s (is_at m j) (λ u. refl) 0 ts rises) ∙ same_place g s (find (is_at m j) ts))

pub tied_referred : (g : ℕ → ℕ) (s : ℕ) (r : Resources) (seat : SeatView) → IsLawful r → IsTied r seat → IsTied (bare_of (on_thing (with_references g) s r)) seat
tied_referred g s r seat l t = record {
  placed = placed_bare seat.places (change_of_serial (with_references g) s r.things) (placed_referred g s seat.places r.things t.placed l.rises);
  many = t.many;
  older = t.older;
  frame = t.frame;
  most = t.most;
}

-- ---- a destroy

module _ (r : Resources) (seat : SeatView) (h : Handle) (t : Thing) (l : IsLawful r) (tied : IsTied r seat) (lt : h.index < greatest h.kind) (live : HasLiveThing h r.things t) where
  pub place_is_live : place_at seat.places (place_of_handle h) ≡ Rattle.schedule_model.specs.Machine.live h.serial
  place_is_live = tied.placed h.kind h.index lt ∙ ap place_of live.found ∙ (λ j. place_by (live.serial j) (live.lives j))

  pub tied_died : IsTied (bare_of (die h r)) (views.placed (place_of_handle h) (dying h.serial seat.frame) seat)
  tied_died = record {
    placed = subst (λ (f : ℕ). IsPlaced (slice_set seat.places (place_of_handle h) (dying h.serial f)) (map bare (change_of_serial (with_death r.frame) h.serial r.things))) tied.frame
        (placed_bare (slice_set seat.places (place_of_handle h) (dying h.serial r.frame)) (change_of_serial (with_death r.frame) h.serial r.things) (placed_died seat.places r.things h t r.frame tied.placed tied.many l.rises lt live.found live.serial));
    many = length-set seat.places (place_of_handle h) (dying h.serial seat.frame) ∙ tied.many;
    older = tied.older;
    frame = tied.frame;
    most = tied.most;
  }

abbrev after_death : (b : Bool) (v : CoreState) (h : Handle) → CoreState
after_death b v h = record v {
  book = record (after_in (destroy h) None v.book) { resources = bare_of (if b then no_change (on_thing (with_references (λ n. n - 1)) h.serial v.book.resources) else no_change (die h v.book.resources)).after };
  seat = if not b then views.placed (place_of_handle h) (dying h.serial v.seat.frame) v.seat else v.seat;
}

module _ (admits : ℕ → ℕ → List Item → ℕ → Type 0) (views_count : ℕ) (v : CoreState) (h : Handle) (t : Thing) (k : IsCore admits views_count ⊤ v) (l : IsLawful v.book.resources) (lt : h.index < greatest h.kind)
    (live : HasLiveThing h v.book.resources.things t) where
  -- what can be named where the thing lives can be named where it dies
  pub stays_died : (n : ℕ) → n ≤ v.seat.frame → Stays n v.seat.places (slice_set v.seat.places (place_of_handle h) (dying h.serial v.seat.frame))
  stays_died n le =
      let many : place_of_handle h < length v.seat.places = (let m = k.tied.many in let p = place_below h.kind h.index lt in omega arith) in
      stays_named v.seat.places (place_of_handle h) (dying h.serial v.seat.frame) n many
      (dying_named n v.seat.frame h.serial (place_at v.seat.places (place_of_handle h)) (place_is_live v.book.resources v.seat h t l k.tied lt live) le)

  kept_by : (b : Bool) → IsCore admits views_count ⊤ (after_death b v h)
  kept_by true = kept_same admits views_count v k (after_death true v h).book (tied_referred (λ n. n - 1) h.serial v.book.resources v.seat l k.tied) refl refl refl k.targets
  kept_by false =
      kept_moved admits views_count v k (after_death false v h).book (slice_set v.seat.places (place_of_handle h) (dying h.serial v.seat.frame)) v.seat.greatest
      stays_died
      (tied_died v.book.resources v.seat h t l k.tied lt live) k.newest refl refl
      (targets_stay v.seat.frame v.seat.places (slice_set v.seat.places (place_of_handle h) (dying h.serial v.seat.frame)) (stays_died v.seat.frame (omega arith)) v.book.resources.views.settings k.targets)

  pub kept_destroyed : IsCore admits views_count ⊤ (destroyed h v)
  kept_destroyed = kept_by (nat_lt 1 (references_of (find (is_at h.kind h.index) v.book.resources.things)))

module _ {admits : ℕ → ℕ → List Item → ℕ → Type 0} {views_count : ℕ} {v : CoreState} (k : IsCore admits views_count ⊤ v) (l : IsLawful v.book.resources) (h : Handle) (lt : h.index < greatest h.kind)
    (t : Thing) (live : HasLiveThing h v.book.resources.things t) (b : BookView) (s : SeatView) (died : Bool) (book : b ≡ after_in (destroy h) None v.book)
    (dies : died ≡ not (nat_lt 1 (references_of (find (is_at h.kind h.index) v.book.resources.things)))) (seat : s ≡ (if died then views.placed (place_of_handle h) (dying h.serial v.seat.frame) v.seat else v.seat)) where
  seat_is : s ≡ (destroyed h v).seat
  seat_is = seat ∙ ap (λ (d : Bool). if d then views.placed (place_of_handle h) (dying h.serial v.seat.frame) v.seat else v.seat) dies

  pub kept_after_destroy : IsCore admits views_count ⊤ (record v { book = b; seat = s })
  kept_after_destroy = subst (λ (p : BookView × SeatView). IsCore admits views_count ⊤ (record v { book = p.0; seat = p.1 })) (λ j. (sym book j, sym seat_is j)) (kept_destroyed admits views_count v h t k l lt live)

  pub destroyed_after : (tid uid : TableId) → uid ≡ tid → (old : CoreView) → core_of tid v ≡ old → core_of uid (record v { book = b; seat = s }) ≡ record old { state = destroyed h old.state }
  destroyed_after tid uid same old e = (λ j. core_of (same j) (record v { book = book j; seat = seat_is j })) ∙ ap (λ (o : CoreView). record o { state = destroyed h o.state }) e

  usable_by : (d : Bool) → (n : ℕ) → n ≤ v.seat.frame → Stays n v.seat.places (if d then views.placed (place_of_handle h) (dying h.serial v.seat.frame) v.seat else v.seat).places
  usable_by true n le = stays_died admits views_count v h t k l lt live n le
  usable_by false n le = λ g u. u

  pub usable_after_destroy : (tid : TableId) (old : CoreView) → core_of tid v ≡ old → KeepsUsable old.state (record v { book = b; seat = s })
  usable_after_destroy tid old e = subst (λ (o : CoreView). KeepsUsable o.state (record v { book = b; seat = s })) e
      (λ n le. subst (λ (x : SeatView). Stays n v.seat.places x.places) (sym seat) (usable_by died n le))
