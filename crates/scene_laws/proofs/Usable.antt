-- A handle whose word an encoder finds usable is of a thing that is there.
use Rattle.std.proofs.Common.{◌≡◌, ℕ, ◌<◌, ◌≤◌, ◌==◌, nat_le, Bool, true, false, not, ◌&&◌, ◌||◌, ◌⊎◌, inl, inr, List, Option, Some, None, IfSome, refl, sym, ap, ◌∙◌, subst, arith, eq-eqb}
use Rattle.std.specs.List.{AllByRecursion, find}
use Rattle.std.proofs.lemmas.Bool.{eqb-true, leb-true}
use Rattle.std.proofs.lemmas.Option.{same_Some}
use Rattle.gfx_model.specs.Words.{Kind, layout_kind, vertex_buffer_kind, index_buffer_kind, texture_kind, frame_buffer_kind, program_kind, uniform_kind, kind_number, kind_of_number, is_kind, Handle, live_word, dying_word, place_state, place_serial, place_death, is_usable_in}
use Rattle.gfx_model.specs.Resources.{Thing, Resources, is_at, word_of_thing, word_of_death, word_of, greatest_serial}
use Rattle.call_laws.specs.Calls.{is_there}
use Rattle.call_laws.specs.Context.{HasThere}
use Rattle.resource_laws.specs.Lawful.{IsLawful}
use Rattle.resource_laws.proofs.DeathLaws.{and_parts}
use Rattle.resource_laws.proofs.LiveLaws.{all_found}
use Rattle.scene_laws.proofs.Accepting.{IsGiven, ThingsGiven}

-- ---- kinds by their numbers

again : (k : Kind) → kind_of_number (kind_number k) ≡ Some k
again layout_kind = refl
again vertex_buffer_kind = refl
again index_buffer_kind = refl
again texture_kind = refl
again frame_buffer_kind = refl
again program_kind = refl
again uniform_kind = refl

pub kind_same : (a b : Kind) → is_kind a b ≡ true → a ≡ b
kind_same a b e = same_Some a b (sym (again a) ∙ ap kind_of_number (eqb-true (kind_number a) (kind_number b) e) ∙ again b)

pub not_true : (b : Bool) → not b ≡ false → b ≡ true
not_true true e = refl
not_true false e = absurd cc

or_parts : (b c : Bool) → b || c ≡ true → (b ≡ true) ⊎ (c ≡ true)
or_parts true c e = inl refl
or_parts false c e = inr e

-- ---- words

usable_serial : (frame word n : ℕ) → is_usable_in frame word n ≡ true → place_serial word ≡ n
usable_serial frame word n e = step (or_parts ((place_state word == 1) && (place_serial word == n)) ((place_state word == 2) && (place_serial word == n) && nat_le frame (place_death word)) e)
  where
    step : (((place_state word == 1) && (place_serial word == n)) ≡ true) ⊎ (((place_state word == 2) && (place_serial word == n) && nat_le frame (place_death word)) ≡ true) → place_serial word ≡ n
    step (inl q) = eqb-true (place_serial word) n (and_parts (place_state word == 1) (place_serial word == n) q).1
    step (inr q) = eqb-true (place_serial word) n (and_parts (place_state word == 2) (place_serial word == n) (and_parts ((place_state word == 2) && (place_serial word == n)) (nat_le frame (place_death word)) q).0).1

usable_death : (frame word n : ℕ) → place_state word ≡ 2 → is_usable_in frame word n ≡ true → frame ≤ place_death word
usable_death frame word n state e = step (or_parts ((place_state word == 1) && (place_serial word == n)) ((place_state word == 2) && (place_serial word == n) && nat_le frame (place_death word)) e)
  where
    step : (((place_state word == 1) && (place_serial word == n)) ≡ true) ⊎ (((place_state word == 2) && (place_serial word == n) && nat_le frame (place_death word)) ≡ true) → frame ≤ place_death word
    step (inl q) = let one : place_state word ≡ 1 = eqb-true (place_state word) 1 (and_parts (place_state word == 1) (place_serial word == n) q).0 in absurd (omega (arith, one, state))
    step (inr q) = leb-true frame (place_death word) (and_parts ((place_state word == 2) && (place_serial word == n)) (nat_le frame (place_death word)) q).1

usable_told : (frame s n : ℕ) (o : Option ℕ) → s ≤ greatest_serial → IfSome o (λ d. d ≤ frame) → is_usable_in frame (word_of_death s o) n ≡ true → (s ≡ n) × (is_there frame o ≡ true)
usable_told frame s n None le past e =
    let serial : place_serial (live_word s) ≡ s = omega (arith, le) in
    (sym serial ∙ usable_serial frame (live_word s) n e, refl)
usable_told frame s n (Some d) le past e =
    let serial : place_serial (dying_word s d) ≡ s = omega (arith, le) in
    let state : place_state (dying_word s d) ≡ 2 = omega arith in
    let death : place_death (dying_word s d) ≡ d = omega (arith, le) in
    let late = usable_death frame (dying_word s d) n state e in
    let same : d ≡ frame = omega (arith, past, death, late) in
    (sym serial ∙ usable_serial frame (dying_word s d) n e, eq-eqb d frame same)

-- ---- things

thing_usable : (given : ℕ → Handle) (r : Resources) (k : Kind) (h : Handle) (o : Option Thing) → find (is_at h.kind h.index) r.things ≡ o → IsLawful r → ThingsGiven given r.things → IsGiven given h → h.kind ≡ k → is_usable_in r.frame (word_of_thing o) h.serial ≡ true → HasThere r k h
thing_usable given r k h None found l things own kind e = absurd cc
thing_usable given r k h (Some t) found l things own kind e =
    let below : t.handle.serial < r.next_serial = all_found (λ (u : Thing). u.handle.serial < r.next_serial) (is_at h.kind h.index) r.things t l.below found in
    let past : IfSome t.death (λ d. d ≤ r.frame) = all_found (λ (u : Thing). IfSome u.death (λ d. d ≤ r.frame)) (is_at h.kind h.index) r.things t l.past found in
    let most = l.serials in
    let told = usable_told r.frame t.handle.serial h.serial t.death (omega (arith, below, most)) past e in
    let is : IsGiven given t.handle = all_found (λ (u : Thing). IsGiven given u.handle) (is_at h.kind h.index) r.things t things found in
    (kind, (t, record { found = found; own = sym is ∙ ap given told.0 ∙ own; there = told.1 }))

pub there_by : (given : ℕ → Handle) (r : Resources) (k : Kind) (h : Handle) → IsLawful r → ThingsGiven given r.things → IsGiven given h → not (is_kind h.kind k) ≡ false → not (is_usable_in r.frame (word_of r h) h.serial) ≡ false → HasThere r k h
there_by given r k h l things own kind e =
    thing_usable given r k h (find (is_at h.kind h.index) r.things) refl l things own (kind_same h.kind k (not_true (is_kind h.kind k) kind)) (not_true (is_usable_in r.frame (word_of r h) h.serial) e)
