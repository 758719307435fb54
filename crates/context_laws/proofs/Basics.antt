-- What an event that is allowed leaves, and what both tables say of it.
use Rattle.std.proofs.Common.{◌≡◌, ℕ, zero, suc, ◌+◌, ◌-◌, ◌<◌, ◌≤◌, ◌==◌, Bool, true, false, ◌&&◌, if◌then◌else◌, List, [], ◌∷◌, ◌++◌, map, length, take, drop, Option, Some, None, option_map, option_and_then, refl, sym, ap, ◌∙◌, subst, arith, eq-eqb, length-append}
use Rattle.std.proofs.lemmas.Option.{none-some, same_Some}
use Rattle.std.proofs.lemmas.List.{length-drop, length-take-le}
use Rattle.schedule_model.specs.Machine.{State, Recorder, when, out, has_no_work}
use Rattle.schedule_model.specs.Held.{count_of}
use Rattle.hold_table.specs.Views.{SeatView}
use Rattle.hold_table.specs.Rule.{IsHeld, recording, total}
use Rattle.hold_table.specs.Events.{Table, Stages, StandsFor, AreOf, seat_at}
use Rattle.frame_swap.specs.Rule as swap_rule
use Rattle.frame_swap.specs.Events as rings
use Rattle.context_core.specs.States.{CoreState}
use Rattle.context_laws.specs.Runs.{StandsForOne}

-- ---- the state after an event

pub when_some : (b : Bool) (s n : State) → when b s ≡ Some n → s ≡ n
when_some true s n e = same_Some s n e
when_some false s n e = absurd (none-some n e)

pub map_some : {A : Type 0} (f : A → State) (o : Option A) (n : State) → option_map f o ≡ Some n → (r : A) × (f r ≡ n)
map_some f (Some r) n e = (r, same_Some (f r) n e)
map_some f None n e = absurd (none-some n e)

pub then_some : {A : Type 0} (f : A → Option State) (o : Option A) (n : State) → option_and_then f o ≡ Some n → (r : A) × (f r ≡ Some n)
then_some f (Some r) n e = (r, e)
then_some f None n e = absurd (none-some n e)

-- ---- the table of the frames

-- it says nothing of recorders and places
pub ring_as : (ring : rings.Table) (m p : State) → p.given ≡ m.given → p.taken ≡ m.taken → p.returned ≡ m.returned → p.back ≡ m.back → rings.StandsFor ring m → rings.StandsFor ring p
ring_as ring m p g t r b st = (
  st.0,
  st.1,
  st.2,
  record {
    given = ap (map (λ f. f.number)) g ∙ st.3.given;
    taken = t ∙ st.3.taken ∙ ap (take (length st.1.taken)) (sym g);
    returned = ap (map (λ x. x.0)) r ∙ st.3.returned ∙ ap (take (length st.1.returned)) (sym g);
    outcomes = ap (map (λ x. x.1)) r ∙ st.3.outcomes;
    back = b ∙ st.3.back ∙ ap (take (length st.0.back)) (sym r);
  },
)

-- both tables and a core stand for a state that is known
pub stands_as : {first : ℕ} {t : Table} (k : IsHeld first t) (x : Stages) (ring : rings.Table) (v : CoreState) (p n : State) → p ≡ n → k.me ≡ v.seat → StandsFor k x n → rings.StandsFor ring p → swap_rule.IsHeld v.book.resources.latency ring
    → p.is_given ≡ v.is_given → p.begun ≡ v.begun → length (out p) ≡ v.out → StandsForOne k x ring v n
stands_as k x ring v p n e seat hold r rule g b o = record {
  seat = seat;
  hold = hold;
  handed = subst (λ (s : State). rings.StandsFor ring s) e r;
  rule = rule;
  given = ap (λ (s : State). s.is_given) (sym e) ∙ g;
  begun = ap (λ (s : State). s.begun) (sym e) ∙ b;
  out = ap (λ (s : State). length (out s)) (sym e) ∙ o;
}

-- ---- where no encoder is off

none_at : (views : List SeatView) (id : ℕ) → total recording views ≡ 0 → recording (seat_at views id) ≡ 0
none_at [] id z = refl
none_at (v ∷ vs) zero z = omega (arith, z)
none_at (v ∷ vs) (suc id) z = none_at vs id (omega (arith, z))

none_in : (xs : List ℕ) → ((id : ℕ) → count_of id xs ≡ 0) → xs ≡ []
none_in [] z = refl
none_in (x ∷ xs) z = absurd (let one : (if x == x then 1 else 0) ≡ suc 0 = ap (λ (b : Bool). if b then 1 else 0) (eq-eqb x x refl) in let none = z x in omega (arith, one, none))

none_of : (views : List SeatView) (ids : List ℕ) (rs : List Recorder) → ids ≡ [] → AreOf views ids rs → rs ≡ []
none_of views [] [] e a = refl
none_of views [] (r ∷ rs) e a = absurd a
none_of views (i ∷ ids) rs e a = absurd cc

module _ {first : ℕ} {s : Table} (h : IsHeld first s) (x : Stages) (m : State) (st : StandsFor h x m) (none : h.me.off ≡ []) where
  none_record : (id : ℕ) → count_of id x.recording + (count_of id x.waiting + count_of id x.collected) ≡ 0
  none_record id = st.once id ∙ none_at s.views id (h.kept.off_count ∙ ap length none)

  pub no_work : has_no_work m ≡ true
  no_work =
      let one : m.recorders ≡ [] = none_of s.views x.recording m.recorders (none_in x.recording (λ id. let n = none_record id in omega (arith, n))) st.recorders in
      let two : m.waiting ≡ [] = none_of s.views x.waiting m.waiting (none_in x.waiting (λ id. let n = none_record id in omega (arith, n))) st.waiting in
      let three : m.collected ≡ [] = none_of s.views x.collected m.collected (none_in x.collected (λ id. let n = none_record id in omega (arith, n))) st.collected in
      λ j. has_no_work (record m { recorders = one j; waiting = two j; collected = three j })

-- ---- how many frames are out

take_most : {A : Type 0} (n : ℕ) (xs : List A) → length (take n xs) ≤ length xs
take_most zero xs = omega arith
take_most (suc n) [] = omega arith
take_most (suc n) (x ∷ xs) = let a = take_most n xs in omega (arith, a)

-- no more came back than were given
pub back_most : (ring : rings.Table) (m : State) → rings.StandsFor ring m → length m.back ≤ length m.given
back_most ring m st =
    let b = ap length st.3.back in
    let a = take_most (length st.0.back) m.returned in
    let r = ap length st.3.returned ∙ refl in
    let c = take_most (length st.1.returned) m.given in
    let d = Rattle.std.proofs.lemmas.List.length-map m.returned (λ x. x.0) in
    omega (arith, b, a, r, c, d)

pub out_more : (m p : State) → length m.back ≤ length m.given → p.back ≡ m.back → length p.given ≡ length m.given + 1 → length (out p) ≡ length (out m) + 1
out_more m p le back given =
    let a = length-drop (length p.back) p.given in
    let c = length-drop (length m.back) m.given in
    let e = ap length back in
    omega (arith, a, c, e, given, le)

pub out_less : (m p : State) → length p.back ≡ length m.back + 1 → p.given ≡ m.given → length (out p) ≡ length (out m) - 1
out_less m p back given =
    let a = length-drop (length p.back) p.given in
    let c = length-drop (length m.back) m.given in
    let e = ap length given in
    omega (arith, a, c, e, back)
