-- A handle that is accepted as live is of one thing.
use Rattle.std.proofs.Common.{◌≡◌, ℕ, zero, suc, ◌<◌, ◌≤◌, ◌==◌, Bool, true, false, if◌then◌else◌, List, [], ◌∷◌, Option, Some, None, refl, sym, ap, ◌∙◌, arith}
use Rattle.std.specs.List.{find}
use Rattle.std.proofs.lemmas.Bool.{eqb-true}
use Rattle.std.proofs.lemmas.Option.{same_Some, none-some}
use Rattle.gfx_model.specs.Words.{Handle, live_word, dying_word, place_state, place_serial, is_live_in}
use Rattle.gfx_model.specs.Resources.{Thing, Resources, is_at, word_of_thing, word_of_death, is_live_handle, greatest_serial}
use Rattle.resource_laws.specs.Lawful.{count_where, IsLawful}
pub use Rattle.resource_laws.proofs.AttachLaws.{all_found}
use Rattle.resource_laws.proofs.DeathLaws.{and_parts}

count_step : (p q : Thing → Bool) (x : Thing) (xs : List Thing) (t : Thing) (b : Bool) → q t ≡ true → (find p xs ≡ Some t → 1 ≤ count_where q xs) → (if b then Some x else find p xs) ≡ Some t → 1 ≤ count_where q (x ∷ xs)
count_step p q x xs t true h g e = let one : (if q x then 1 else 0) ≡ suc zero = ap (λ b. if b then 1 else 0) (ap q (same_Some x t e) ∙ h) in omega (arith, one)
count_step p q x xs t false h g e = let some = g e in omega (arith, some)

-- what is found is counted
pub count_found : (p q : Thing → Bool) (ts : List Thing) (t : Thing) → q t ≡ true → find p ts ≡ Some t → 1 ≤ count_where q ts
count_found p q [] t h e = absurd (none-some t e)
count_found p q (x ∷ xs) t h e = count_step p q x xs t (p x) h (count_found p q xs t h) e

-- a word of a live serial tells it
live_told : (s n : ℕ) → s ≤ greatest_serial → is_live_in (live_word s) n ≡ true → s ≡ n
live_told s n le e =
    let serial : place_serial (live_word s) ≡ s = omega (arith, le) in
    let p = and_parts (place_state (live_word s) == 1) (place_serial (live_word s) == n) e in
    sym serial ∙ eqb-true (place_serial (live_word s)) n p.1

dying_no : (s d n : ℕ) → is_live_in (dying_word s d) n ≡ true → ⊥
dying_no s d n e =
    let state : place_state (dying_word s d) ≡ 2 = omega arith in
    let p = and_parts (place_state (dying_word s d) == 1) (place_serial (dying_word s d) == n) e in
    let one : place_state (dying_word s d) ≡ 1 = eqb-true (place_state (dying_word s d)) 1 p.0 in
    omega (arith, state, one)

death_told : (o : Option ℕ) (s n : ℕ) → s ≤ greatest_serial → is_live_in (word_of_death s o) n ≡ true → (s ≡ n) × (o ≡ None)
death_told None s n le e = (live_told s n le e, refl)
death_told (Some d) s n le e = absurd (dying_no s d n e)

thing_told : (r : Resources) (h : Handle) (o : Option Thing) → find (is_at h.kind h.index) r.things ≡ o → IsLawful r → is_live_in (word_of_thing o) h.serial ≡ true
    → (t : Thing) × (find (is_at h.kind h.index) r.things ≡ Some t) × (t.handle.serial ≡ h.serial) × (t.death ≡ None)
thing_told r h None e l live = absurd cc
thing_told r h (Some t) e l live =
    let below = all_found (λ t. t.handle.serial < r.next_serial) (is_at h.kind h.index) r.things t l.below e in
    let most = l.serials in
    let told = death_told t.death t.handle.serial h.serial (omega (arith, below, most)) live in
    (t, e, told.0, told.1)

pub live_found : (r : Resources) (h : Handle) → IsLawful r → is_live_handle r h ≡ true → (t : Thing) × (find (is_at h.kind h.index) r.things ≡ Some t) × (t.handle.serial ≡ h.serial) × (t.death ≡ None)
live_found r h l live = thing_told r h (find (is_at h.kind h.index) r.things) refl l live
