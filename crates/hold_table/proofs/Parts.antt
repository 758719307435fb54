-- What the rule says of a state of the schedule that a table stands for.
use Rattle.std.proofs.Common.{◌≡◌, ◌≢◌, inl, inr, ℕ, zero, suc, ◌+◌, ◌≤◌, ◌&&◌, nat_le, nat_lt, if◌then◌else◌, List, [], ◌∷◌, ◌++◌, set, sym, refl, ap, ◌∙◌, subst, arith, IsTrue, ⊎_elim}
use Rattle.std.specs.List.{AllByRecursion}
use mathlib.Core.Option.{some}
use mathlib.Core.Logic.{dite}
use native.Mathlib.Decide.{ℕ_discrete}
use lib.ListN.{get_elem?}
use Rattle.atomic_table.proofs.Lists.{at_set}
use Rattle.schedule_model.specs.Machine.{Place, place_at, has_usable, Thing, Recorder, State}
use Rattle.schedule_model.specs.Held.{OnOpen, count_of, count_in, count_all, Ascends, Follows, PlacesFollow}
use Rattle.schedule_model.specs.Held.{Stands as ThingStands}
use Rattle.schedule_model.proofs.Lists.{count_of-append}
use Rattle.hold_table.specs.Views.{Role, api, recorder, spent, SeatView, Asked, spent_view, AllThere}
use Rattle.hold_table.specs.Rule.{total, holds_number, recording_as, recording, IsRecorderOf, FitsAs, Kept}
use Rattle.hold_table.specs.Events.{seat_at, AreNames, IsOf, AreOf, Stages, Stands, PartsHold}
use Rattle.hold_table.proofs.Keeps.{recorder_fits}
use Rattle.hold_table.proofs.Seats.{at_seat, seat_here, seat_else}
use Rattle.hold_table.proofs.Events.{recorder_of, most_one}
use Rattle.hold_table.proofs.Totals.{total_set, total_most, count_here, count_other}

-- ---- each recorder and bundle

-- a seat that stands for a recorder is there
there_at : (views : List SeatView) (i : ℕ) → 1 ≤ recording (seat_at views i) → get_elem? views i ≡ some (seat_at views i)
there_at [] i le = absurd (omega arith)
there_at (v ∷ vs) zero le = refl
there_at (v ∷ vs) (suc i) le = there_at vs i le

all_of : (P : Recorder → Type 0) (views : List SeatView) (ids : List ℕ) (rs : List Recorder) → AreOf views ids rs → ((id : ℕ) (r : Recorder) → 1 ≤ count_of id ids → IsOf (seat_at views id) r → P r) → AllByRecursion P rs
all_of P views [] [] o h = tt
all_of P views [] (r ∷ rs) o h = absurd o
all_of P views (j ∷ js) [] o h = tt
all_of P views (j ∷ js) (r ∷ rs) o h = (h j r (let c = count_here j js in omega arith) o.0, all_of P views js rs o.1 (λ id q le is. h id q (omega arith) is))

-- what was named stands
names_stand : (frame : ℕ) (places : List Place) (asked : List Asked) (ts : List Thing) → AreNames frame asked ts → AllThere frame places asked → AllByRecursion (λ (t : Thing). IsTrue (has_usable frame t.serial (place_at places t.place))) ts
names_stand frame places asked [] n a = tt
names_stand frame places [] (t ∷ ts) n a = absurd n
names_stand frame places (b ∷ asked) (t ∷ ts) n a = elim n [
  | inl y ↦ (ap (λ (p : ℕ). has_usable frame t.serial (place_at places p)) (sym y.0.0) ∙ a.0 t.serial y.0.1, names_stand frame places asked ts y.1 a.1)
  | inr y ↦ names_stand frame places asked (t ∷ ts) y a.1
]

-- ---- sums over seats

abbrev sum_at : (SeatView → ℕ) → List SeatView → List ℕ → ℕ
sum_at f views [] = 0
sum_at f views (j ∷ js) = f (seat_at views j) + sum_at f views js

sum_append : (f : SeatView → ℕ) (views : List SeatView) (is js : List ℕ) → sum_at f views (is ++ js) ≡ sum_at f views is + sum_at f views js
sum_append f views [] js = omega arith
sum_append f views (i ∷ is) js = let r = sum_append f views is js in omega arith

sum_else : (f : SeatView → ℕ) (views : List SeatView) (id : ℕ) (w : SeatView) (ids : List ℕ) → count_of id ids ≡ 0 → sum_at f (set views id w) ids ≡ sum_at f views ids
sum_else f views id w [] none = refl
sum_else f views id w (j ∷ js) none =
    let apart : j ≢ id = λ (e : j ≡ id). let here : count_of id (j ∷ js) ≡ suc (count_of id js) = ap (λ (n : ℕ). count_of id (n ∷ js)) e ∙ count_here id js in omega arith in
    let t = count_other id j js apart in
    let r = sum_else f views id w js (omega arith) in
    let s : f (seat_at (set views id w) j) ≡ f (seat_at views j) = ap f (seat_else views id j w apart) in omega arith

-- the sum over all views is that over the first and over the seats that stand for recorders
total_seats : (f : SeatView → ℕ) → f spent_view ≡ 0 → (ids : List ℕ) (views : List SeatView) → ((id : ℕ) → count_of id ids ≡ recording (seat_at views id)) → recording (seat_at views 0) ≡ 0
    → ((i : ℕ) (v : SeatView) → get_elem? views (suc i) ≡ some v → recording v ≡ 0 → f v ≡ 0) → total f views ≡ sum_at f views ids + f (seat_at views 0)
total_seats f fz [] [] once zeroth h = omega arith
total_seats f fz [] (y ∷ ys) once zeroth h =
    let none = total_most f (λ _. 0) 0 ys (λ i v e. let is : recording v ≡ 0 = sym (ap recording (at_seat ys i v e)) ∙ sym (once (suc i)) in let z = h i v e is in omega arith) in omega arith
total_seats f fz (j ∷ js) views once zeroth h =
    let c = count_here j js in
    let o = once j in
    let most = most_one (seat_at views j).role in
    let at : get_elem? views j ≡ some (seat_at views j) = there_at views j (omega arith) in
    let away : j ≢ 0 = λ (z : j ≡ 0). let a : recording (seat_at views j) ≡ 0 = ap (λ (i : ℕ). recording (seat_at views i)) z ∙ zeroth in omega arith in
    let none : count_of j js ≡ 0 = omega arith in
    let vs : List SeatView = set views j spent_view in
    let once' : (id : ℕ) → count_of id js ≡ recording (seat_at vs id) = λ id. dite (ℕ_discrete id j)
    (λ (z : id ≡ j). subst (λ (i : ℕ). count_of i js ≡ recording (seat_at vs i)) (sym z) (none ∙ sym (ap recording (seat_here views j (seat_at views j) spent_view at))))
    (λ (ne : id ≢ j). sym (count_other id j js (λ (z : j ≡ id). ne (sym z))) ∙ once id ∙ sym (ap recording (seat_else views j id spent_view ne))) in
    let first : seat_at vs 0 ≡ seat_at views 0 = seat_else views j 0 spent_view (λ (z : 0 ≡ j). away (sym z)) in
    let h' : (i : ℕ) (v : SeatView) → get_elem? vs (suc i) ≡ some v → recording v ≡ 0 → f v ≡ 0 = λ i v e is. ⊎_elim
    (λ (t : (suc i ≡ j) × (spent_view ≡ v)). ap f (sym t.1) ∙ fz)
    (λ (t : (suc i ≢ j) × (get_elem? views (suc i) ≡ some v)). h i v t.1 is)
    (at_set views j (suc i) spent_view v e) in
    let r = total_seats f fz js vs once' (ap recording first ∙ zeroth) h' in
    let t = total_set f views j (seat_at views j) spent_view at in
    let s = sum_else f views j spent_view js none in
    let g : f (seat_at vs 0) ≡ f (seat_at views 0) = ap f first in omega arith

count_seats : (n : ℕ) (views : List SeatView) (ids : List ℕ) (rs : List Recorder) → AreOf views ids rs → count_in n rs ≡ sum_at (holds_number n) views ids
count_seats n views [] [] o = refl
count_seats n views [] (r ∷ rs) o = absurd o
count_seats n views (j ∷ js) [] o = absurd o
count_seats n views (j ∷ js) (r ∷ rs) o = let t = count_seats n views js rs o.1 in let e : count_of n r.numbers ≡ holds_number n (seat_at views j) = ap (count_of n) o.0.numbers in omega arith

-- ---- the parts

module _ (first : ℕ) (me : SeatView) (counter : ℕ) (views : List SeatView) (k : Kept first me counter views) (x : Stages) (m : State) (st : Stands me counter views x m) where
  abbrev Each : (Recorder → Type 0) → Type 0
  Each P = (v : SeatView) (r : Recorder) → IsRecorderOf me.frame me.places me.greatest v → IsOf v r → P r

  seat_fits : (P : Recorder → Type 0) → Each P → (id : ℕ) (r : Recorder) → 1 ≤ recording (seat_at views id) → IsOf (seat_at views id) r → P r
  seat_fits P h id r le is =
      let v : SeatView = seat_at views id in
      h v r (recorder_fits first me counter views k id v (there_at views id le) (recorder_of v.role le)).1 is

  open_of : (P : Recorder → Type 0) → Each P → OnOpen P m
  open_of P h = (
    all_of P views x.recording m.recorders st.recorders (λ id r le is. seat_fits P h id r (let o = st.once id in omega arith) is),
    all_of P views x.waiting m.waiting st.waiting (λ id r le is. seat_fits P h id r (let o = st.once id in omega arith) is),
    all_of P views x.collected m.collected st.collected (λ id r le is. seat_fits P h id r (let o = st.once id in omega arith) is),
  )

  -- a seat behind the first that records nothing has no numbers
  no_numbers : (n i : ℕ) (v : SeatView) (r : Role) → v.role ≡ r → FitsAs me.frame me.places me.greatest (suc i) v r → recording v ≡ 0 → holds_number n v ≡ 0
  no_numbers n i v api is fit z = absurd (omega arith)
  no_numbers n i v recorder is fit z = let one : recording v ≡ 1 = ap recording_as is in absurd (omega arith)
  no_numbers n i v spent is fit z = ap (count_of n) fit

  all_counted : (n : ℕ) → count_all n m ≡ total (holds_number n) views
  all_counted n =
      let f : SeatView → ℕ = holds_number n in
      let ids : List ℕ = x.recording ++ (x.waiting ++ x.collected) in
      let zeroth : seat_at views 0 ≡ me = at_seat views 0 me k.at_api in
      let once : (id : ℕ) → count_of id ids ≡ recording (seat_at views id) = λ id. let a = count_of-append id x.recording (x.waiting ++ x.collected) in let b = count_of-append id x.waiting x.collected in let o = st.once id in omega arith in
      let all = total_seats f refl ids views once (ap recording zeroth ∙ ap recording_as k.is_api) (λ i v e z. no_numbers n i v v.role refl (k.each (suc i) v e) z) in
      let a = sum_append f views x.recording (x.waiting ++ x.collected) in
      let b = sum_append f views x.waiting x.collected in
      let own : f (seat_at views 0) ≡ count_of n me.numbers = ap f zeroth in
      let gathered : count_of n m.gathered_numbers ≡ count_of n me.numbers = ap (count_of n) st.gathered in
      let r = count_seats n views x.recording m.recorders st.recorders in
      let w = count_seats n views x.waiting m.waiting st.waiting in
      let c = count_seats n views x.collected m.collected st.collected in omega arith

  pub parts : PartsHold m
  parts = record {
    numbers = record {
      once = λ n. all_counted n ∙ k.once n ∙ (λ j. if nat_le (sym st.base j) n && nat_lt n (sym st.next j) then 1 else 0);
      ascend = open_of (λ r. Ascends r.numbers) (λ v r fits is. subst Ascends (sym is.numbers) fits.ascends);
    };
    frames = open_of (λ r. r.frame ≡ m.frame) (λ v r fits is. is.frame ∙ fits.frame_is ∙ sym st.frame);
    places = open_of (PlacesFollow m) (λ v r fits is.
        subst (λ (y : ℕ × ℕ × List Place × List Place). (p : ℕ) → Follows y.0 y.1 (place_at y.2 p) (place_at y.3 p)) (λ j. (sym is.frame j, sym is.greatest j, sym is.places j, sym st.places j)) fits.follows);
    names = open_of (λ r. AllByRecursion (ThingStands m r.frame) r.named) (λ v r fits is.
        let stand = names_stand v.frame me.places v.asked r.named is.names (subst (λ (f : ℕ). AllThere f me.places v.asked) (sym fits.frame_is) fits.there) in
        subst (λ (y : ℕ × List Place). AllByRecursion (λ (t : Thing). IsTrue (has_usable y.0 t.serial (place_at y.1 t.place))) r.named) (λ j. (sym is.frame j, sym st.places j)) stand);
  }
