-- Places and things agree, call by call.
use Rattle.std.proofs.Common.{◌≡◌, ◌≢◌, ℕ, zero, suc, ◌+◌, ◌<◌, ◌==◌, Bool, true, false, ◌&&◌, if◌then◌else◌, List, [], ◌∷◌, ◌++◌, map, length, Some, None, refl, sym, ap, ◌∙◌, arith, slice_set, eq-eqb}
use Rattle.std.specs.List.{find}
use Rattle.std.proofs.lemmas.List.{length-set}
use Rattle.std.proofs.lemmas.Bool.{eqb-true}
use mathlib.Core.Logic.{dite}
use native.Mathlib.Decide.{ℕ_discrete}
use Rattle.gfx_model.specs.Words.{Kind, Info, plain, kind_number, greatest, first_place, place_of_handle}
use Rattle.gfx_model.specs.World.{Content, layout_content}
use Rattle.gfx_model.specs.Resources.{Thing, Resources, is_at, book_of, make, lacks_index, lacks_serial, top_index, no_layout}
use Rattle.schedule_model.specs.Machine.{Place, free, live, place_at}
use Rattle.hold_table.specs.Views.{SeatView, created}
use Rattle.hold_table.proofs.PlaceLaws.{place-set, place-else}
use Rattle.resource_laws.specs.Bare.{bare, bare_of}
use Rattle.resource_laws.specs.Lawful.{count_where, IsLawful}
use Rattle.gfx_model.proofs.Apart.{kind_apart, index_apart, first_by_number, place_below}
use Rattle.resource_laws.proofs.LawfulLaws.{top_below, none_before}
use Rattle.context_core.specs.Places.{place_of, IsPlaced}
use Rattle.context_core.specs.Kept.{IsTied}

-- ---- finding

found_step : (p : Thing → Bool) (t : Thing) (ts us : List Thing) (b : Bool) → p t ≡ b → (find p ts ≡ None → find p (ts ++ us) ≡ find p us) → find p (t ∷ ts) ≡ None → find p (t ∷ ts ++ us) ≡ find p us
found_step p t ts us true e f none = absurd (Rattle.std.proofs.lemmas.Option.none-some t (sym none ∙ cc))
found_step p t ts us false e f none = ap (λ c. if c then Some t else find p (ts ++ us)) e ∙ f (sym (ap (λ c. if c then Some t else find p ts) e) ∙ none)

-- what is not in front is found behind
pub found_behind : (p : Thing → Bool) (ts us : List Thing) → find p ts ≡ None → find p (ts ++ us) ≡ find p us
found_behind p [] us none = refl
found_behind p (t ∷ ts) us none = found_step p t ts us (p t) refl (found_behind p ts us) none

other_step : (p : Thing → Bool) (t : Thing) (ts us : List Thing) → find p (ts ++ us) ≡ find p ts → find p (t ∷ ts ++ us) ≡ find p (t ∷ ts)
other_step p t ts us e = ap (λ o. if p t then Some t else o) e

-- what is not behind is found in front
pub found_front : (p : Thing → Bool) (ts us : List Thing) → find p us ≡ None → find p (ts ++ us) ≡ find p ts
found_front p [] us none = none
found_front p (t ∷ ts) us none = other_step p t ts us (found_front p ts us none)

none_step : (p : Thing → Bool) (t : Thing) (ts : List Thing) (b : Bool) → p t ≡ b → (count_where p ts ≡ 0 → find p ts ≡ None) → count_where p (t ∷ ts) ≡ 0 → find p (t ∷ ts) ≡ None
none_step p t ts true e f z = let h : (if p t then 1 else 0) ≡ suc 0 = ap (λ (c : Bool). if c then 1 else 0) e in absurd (omega (arith, h, z))
none_step p t ts false e f z = ap (λ c. if c then Some t else find p ts) e ∙ f (let h : (if p t then 1 else 0) ≡ zero = ap (λ (c : Bool). if c then 1 else 0) e in omega (arith, h, z))

pub none_from_count : (p : Thing → Bool) (ts : List Thing) → count_where p ts ≡ 0 → find p ts ≡ None
none_from_count p [] z = refl
none_from_count p (t ∷ ts) z = none_step p t ts (p t) refl (none_from_count p ts) z

pub found_bare : (p : Thing → Bool) → ((t : Thing) → p (bare t) ≡ p t) → (ts : List Thing) → place_of (find p (map bare ts)) ≡ place_of (find p ts)
found_bare p same [] = refl
found_bare p same (t ∷ ts) = ap (λ c. place_of (if c then Some (bare t) else find p (map bare ts))) (same t) ∙ bare_step p t ts (p t) (found_bare p same ts) where
  bare_step : (p : Thing → Bool) (t : Thing) (ts : List Thing) (b : Bool) → place_of (find p (map bare ts)) ≡ place_of (find p ts) → place_of (if b then Some (bare t) else find p (map bare ts)) ≡ place_of (if b then Some t else find p ts)
  bare_step p t ts true e = refl
  bare_step p t ts false e = e

pub placed_bare : (places : List Place) (ts : List Thing) → IsPlaced places ts → IsPlaced places (map bare ts)
placed_bare places ts h k i lt = h k i lt ∙ sym (found_bare (is_at k i) (λ t. refl) ts)

-- ---- tests

at_number : ℕ → ℕ → Thing → Bool
at_number n i t = (kind_number t.handle.kind == n) && (t.handle.index == i)

pub at_again : (k m : Kind) (i j : ℕ) → kind_number k ≡ kind_number m → i ≡ j → (ts : List Thing) → count_where (is_at k i) ts ≡ count_where (is_at m j) ts
at_again k m i j e f ts = λ z. count_where (λ t. (kind_number t.handle.kind == e z) && (t.handle.index == f z)) ts

and_both : (b c : Bool) → b && c ≡ true → (b ≡ true) × (c ≡ true)
and_both true true e = (refl, refl)
and_both true false e = absurd cc
and_both false c e = absurd cc

pub at_place : (m : Kind) (j : ℕ) (t : Thing) → is_at m j t ≡ true → first_place m + j ≡ place_of_handle t.handle
at_place m j t e =
    let both = and_both (kind_number t.handle.kind == kind_number m) (t.handle.index == j) e in
    λ z. first_by_number m t.handle.kind (sym (eqb-true (kind_number t.handle.kind) (kind_number m) both.0)) z + sym (eqb-true t.handle.index j both.1) z

pub not_true : (b : Bool) → (b ≡ true → ⊥) → b ≡ false
not_true true f = absurd (f refl)
not_true false f = refl

pub itself : (t : Thing) → is_at t.handle.kind t.handle.index t ≡ true
itself t = λ z. eq-eqb (kind_number t.handle.kind) (kind_number t.handle.kind) refl z && eq-eqb t.handle.index t.handle.index refl z

-- ---- a thing more

module _ (places : List Place) (ts : List Thing) (t : Thing) (placed : IsPlaced places ts) (many : length places ≡ 3776) (lt : t.handle.index < greatest t.handle.kind) (alone : count_where (is_at t.handle.kind t.handle.index) ts ≡ 0) where
  is_itself : is_at t.handle.kind t.handle.index t ≡ true
  is_itself = λ z. eq-eqb (kind_number t.handle.kind) (kind_number t.handle.kind) refl z && eq-eqb t.handle.index t.handle.index refl z

  pub placed_snoc : (x : Place) → x ≡ place_of (Some t) → IsPlaced (slice_set places (place_of_handle t.handle) x) (ts ++ t ∷ [])
  placed_snoc x is m j l = dite (ℕ_discrete (first_place m + j) (place_of_handle t.handle))
      (λ (e : first_place m + j ≡ place_of_handle t.handle).
      let kinds = kind_apart t.handle.kind m t.handle.index j lt l (sym e) in
      let indices = index_apart t.handle.kind m t.handle.index j lt l (sym e) in
      let none : find (is_at m j) ts ≡ None = none_from_count (is_at m j) ts (sym (at_again t.handle.kind m t.handle.index j kinds indices ts) ∙ alone) in
      let self : is_at m j t ≡ true = (λ z. (kind_number t.handle.kind == sym kinds z) && (t.handle.index == sym indices z)) ∙ is_itself in
      ap (place_at (slice_set places (place_of_handle t.handle) x)) e ∙ place-set places (place_of_handle t.handle) x (omega (arith, many, place_below t.handle.kind t.handle.index lt)) ∙ is
      ∙ sym (ap place_of (found_behind (is_at m j) ts (t ∷ []) none ∙ ap (λ c. if c then Some t else None) self)))
      (λ (ne : first_place m + j ≢ place_of_handle t.handle).
      let not_here : is_at m j t ≡ false = not_true (is_at m j t) (λ e. ne (at_place m j t e)) in
      place-else places (place_of_handle t.handle) (first_place m + j) x ne ∙ placed m j l
      ∙ sym (ap place_of (found_front (is_at m j) ts (t ∷ []) (ap (λ c. if c then Some t else None) not_here))))

-- ---- a new thing

-- a content that holds nothing
abbrev plain_content : Content
plain_content = layout_content no_layout

module _ (k : Kind) (r : Resources) (l : IsLawful r) (some : (lacks_index r k).0 ≡ false) (serial : (lacks_serial r).0 ≡ false) where
  abbrev top : ℕ
  top = top_index (book_of r k).free

  below_top : top < greatest k
  below_top = top_below k plain plain_content r l some serial tt

  none_there : count_where (is_at k top) r.things ≡ 0
  none_there = none_before k plain plain_content r l some serial tt

  -- the place of the top index is free
  pub free_before : (seat : SeatView) → IsTied r seat → place_at seat.places (first_place k + top) ≡ free
  free_before seat t = t.placed k top below_top ∙ ap place_of (none_from_count (is_at k top) r.things none_there)

  pub tied_made : (seat : SeatView) → IsTied r seat → (info : Info) (c : Content) → IsTied (bare_of (make k info c r).after) (created (first_place k + top) r.next_serial seat)
  tied_made seat t info c =
      let new : Thing = record { handle = record { kind = k; index = top; serial = r.next_serial; info = info }; birth = r.frame; death = None; content = c; references = 1 } in
      record {
        placed = placed_bare (slice_set seat.places (first_place k + top) (live r.next_serial)) (r.things ++ new ∷ [])
            (placed_snoc seat.places r.things new t.placed t.many below_top none_there (live r.next_serial) refl);
        many = length-set seat.places (first_place k + top) (live r.next_serial) ∙ t.many;
        older = omega arith;
        frame = t.frame;
        most = t.most;
      }
