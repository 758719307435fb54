-- Each table of which the rule holds stands for some state of the schedule: one where all seats record and named nothing.
use Rattle.std.proofs.Common.{◌≡◌, ◌≢◌, ℕ, zero, suc, ◌+◌, ◌<◌, List, [], ◌∷◌, length, sym, refl, ap, ◌∙◌, subst, arith}
use Rattle.schedule_model.specs.Machine.{Recorder, State, opening}
use Rattle.schedule_model.specs.Held.{count_of}
use Rattle.hold_table.specs.Views.{Role, api, recorder, spent, SeatView}
use Rattle.hold_table.specs.Rule.{recording_as, recording, Kept}
use Rattle.hold_table.specs.Events.{seat_at, IsOf, AreOf, Stages, Stands}
use Rattle.hold_table.proofs.Totals.{count_here, count_other}

-- the list with one more, where the role is a recorder's
abbrev with_role : {A : Type 0} → Role → A → List A → List A
with_role api y ys = ys
with_role recorder y ys = y ∷ ys
with_role spent y ys = ys

abbrev recorder_for : SeatView → Recorder
recorder_for v = record { frame = v.frame; places = v.places; greatest = v.greatest; named = []; numbers = v.numbers }

abbrev ids_from : ℕ → List SeatView → List ℕ
ids_from i [] = []
ids_from i (v ∷ vs) = with_role v.role i (ids_from (suc i) vs)

abbrev recorders_for : List SeatView → List Recorder
recorders_for [] = []
recorders_for (v ∷ vs) = with_role v.role (recorder_for v) (recorders_for vs)

is_for : (v : SeatView) → IsOf v (recorder_for v)
is_for v = record { frame = refl; places = refl; greatest = refl; numbers = refl; names = tt }

one_more : (all : List SeatView) (i : ℕ) (v : SeatView) (ids : List ℕ) (rs : List Recorder) (r : Role) → seat_at all i ≡ v → AreOf all ids rs → AreOf all (with_role r i ids) (with_role r (recorder_for v) rs)
one_more all i v ids rs api e o = o
one_more all i v ids rs recorder e o = (subst (λ (u : SeatView). IsOf u (recorder_for v)) (sym e) (is_for v), o)
one_more all i v ids rs spent e o = o

all_from : (all : List SeatView) (i : ℕ) (vs : List SeatView) → ((j : ℕ) → seat_at all (j + i) ≡ seat_at vs j) → AreOf all (ids_from i vs) (recorders_for vs)
all_from all i [] h = tt
all_from all i (v ∷ vs) h =
    let z : i ≡ 0 + i = omega arith in
    one_more all i v (ids_from (suc i) vs) (recorders_for vs) v.role (ap (seat_at all) z ∙ h 0) (all_from all (suc i) vs (λ j. let e : j + suc i ≡ suc j + i = omega arith in ap (seat_at all) e ∙ h (suc j)))

count_role : (r : Role) (i : ℕ) (ids : List ℕ) → count_of i ids ≡ 0 → count_of i (with_role r i ids) ≡ recording_as r
count_role api i ids z = z
count_role recorder i ids z = count_here i ids ∙ ap suc z
count_role spent i ids z = z

count_role_other : (r : Role) (n i : ℕ) (ids : List ℕ) → i ≢ n → count_of n (with_role r i ids) ≡ count_of n ids
count_role_other api n i ids ne = refl
count_role_other recorder n i ids ne = count_other n i ids ne
count_role_other spent n i ids ne = refl

none_below : (n i : ℕ) (vs : List SeatView) → n < i → count_of n (ids_from i vs) ≡ 0
none_below n i [] lt = refl
none_below n i (v ∷ vs) lt = count_role_other v.role n i (ids_from (suc i) vs) (λ (e : i ≡ n). omega arith) ∙ none_below n (suc i) vs (omega arith)

once_from : (i : ℕ) (vs : List SeatView) (j : ℕ) → count_of (j + i) (ids_from i vs) ≡ recording (seat_at vs j)
once_from i [] j = refl
once_from i (v ∷ vs) zero = let z : 0 + i ≡ i = omega arith in ap (λ (n : ℕ). count_of n (ids_from i (v ∷ vs))) z ∙ count_role v.role i (ids_from (suc i) vs) (none_below i (suc i) vs (omega arith))
once_from i (v ∷ vs) (suc j) =
    let e : suc j + i ≡ j + suc i = omega arith in
    count_role_other v.role (suc j + i) i (ids_from (suc i) vs) (λ (z : i ≡ suc j + i). omega arith) ∙ ap (λ (n : ℕ). count_of n (ids_from (suc i) vs)) e ∙ once_from (suc i) vs j

pub each_stands : (first : ℕ) (me : SeatView) (counter : ℕ) (views : List SeatView) → Kept first me counter views → (x : Stages) × (m : State) × Stands me counter views x m
each_stands first me counter views k = (
  record { recording = ids_from 0 views; waiting = []; collected = [] },
  record (opening me.frame) { base = me.base; next = counter; begun = length me.off + me.joined; places = me.places; greatest = me.greatest; recorders = recorders_for views; gathered_numbers = me.numbers },
  record {
    frame = refl;
    base = refl;
    next = refl;
    places = refl;
    greatest = refl;
    gathered = refl;
    begun = omega arith;
    recorders = all_from views 0 views (λ j. let e : j + 0 ≡ j = omega arith in ap (seat_at views) e);
    waiting = tt;
    collected = tt;
    once = λ id. let e : id + 0 ≡ id = omega arith in let o = once_from 0 views id in
        let same : count_of id (ids_from 0 views) ≡ count_of (id + 0) (ids_from 0 views) = ap (λ (n : ℕ). count_of n (ids_from 0 views)) (sym e) in omega arith;
  },
)
