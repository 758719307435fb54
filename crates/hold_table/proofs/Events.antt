-- Each kind of step is its event.
use Rattle.std.proofs.Common.{◌≡◌, ◌≢◌, ℕ, zero, suc, ◌+◌, ◌<◌, ◌≤◌, Bool, true, false, not, ◌&&◌, nat_le, nat_lt, List, [], ◌∷◌, ◌++◌, length, set, slice_get, slice_set, Option, Some, option_and_then, option_map, sym, refl, ap, ◌∙◌, subst, arith, length-append, length-set, append-nil}
use mathlib.Core.Option.{some}
use mathlib.Core.Logic.{dite}
use native.Mathlib.Decide.{ℕ_discrete}
use lib.ListN.{get_elem?}
use Rattle.atomic_table.proofs.Lists.{set_here, set_else}
use Rattle.gfx_model.specs.Words.{is_usable_in}
use Rattle.schedule_model.specs.Machine.{Place, free, live, dying, place_at, has_usable, is_free, is_below, is_over, Thing, Recorder, State, Event, create, destroy, reclaim, begin, cancel, name, draw, end, collect, gather, advance, without, is_empty, when, with_place, with_greatest, death_of, with_begun, without_begun, with_recorder, with_name, with_number, with_next, ended, collected_after, gathered_after, step}
use Rattle.schedule_model.specs.Machine.{fresh as fresh_recorder, advanced as advanced_state}
use Rattle.schedule_model.specs.Held.{count_of}
use Rattle.schedule_model.proofs.Lists.{count_of-append}
use Rattle.hold_table.specs.Words.{word_of, IsUpTo}
use Rattle.hold_table.specs.Views.{Role, api, recorder, spent, SeatView, spent_view, lent, fresh, more, gathered, drawn, learnt, advanced, asks, placed, created}
use Rattle.hold_table.specs.Rule.{total, holds_number, number_count, recording_as, recording, carries, Kept}
use Rattle.hold_table.specs.Events.{seat_at, IsOf, AreOf, Stages, Stands, begun_as, cancelled, ended_as, collected_as, gathered_of}
use Rattle.hold_table.proofs.PlaceLaws.{usable-word, up_to-le}
use Rattle.hold_table.proofs.Keeps.{recorder_fits, length_without, carries_here, gathered_all}
use Rattle.hold_table.proofs.Seats.{at_seat, seat_here, seat_else, seat_end, seat_before, seat_behind, count_at, count_without, of_at, of_else, of_set, of_snoc, of_without, names_skip, names_snoc, names_none}
use Rattle.hold_table.proofs.Totals.{total_set, total_snoc, total_at, count_here, count_other, between_above, between_in, in_range}

-- ---- small facts

pub recorder_of : (r : Role) → 1 ≤ recording_as r → r ≡ recorder
recorder_of api le = absurd (omega arith)
recorder_of recorder le = refl
recorder_of spent le = absurd (omega arith)

pub most_one : (r : Role) → recording_as r ≤ 1
most_one api = omega arith
most_one recorder = omega arith
most_one spent = omega arith

and_then_at : {A B : Type 0} (f : A → Option B) (o : Option A) (y : A) (z : B) → o ≡ Some y → f y ≡ Some z → option_and_then f o ≡ Some z
and_then_at f o y z e g = ap (option_and_then f) e ∙ g

map_at : {A B : Type 0} (f : A → B) (o : Option A) (y : A) → o ≡ Some y → option_map f o ≡ Some (f y)
map_at f o y e = ap (option_map f) e

when_true : (b : Bool) (s : State) → b ≡ true → when b s ≡ Some s
when_true b s e = ap (λ (c : Bool). when c s) e

set_same : (rs : List Recorder) (i : ℕ) (r : Recorder) → slice_get rs i ≡ Some r → slice_set rs i r ≡ rs
set_same [] i r e = refl
set_same (q ∷ rs) zero r e = let same : q ≡ r = cc e in ap (λ (y : Recorder). y ∷ rs) (sym same)
set_same (q ∷ rs) (suc i) r e = ap (λ (l : List Recorder). q ∷ l) (set_same rs i r e)

stands_at : (a b : SeatView) (c d : ℕ) (us vs : List SeatView) (x : Stages) (m : State) → a ≡ b → c ≡ d → us ≡ vs → Stands a c us x m → Stands b d vs x m
stands_at a b c d us vs x m e f g h = subst (λ (y : SeatView × ℕ × List SeatView). Stands y.0 y.1 y.2 x m) (λ j. (e j, f j, g j)) h

-- ---- the seats of the stages

abbrev Once : List SeatView → Stages → Type 0
Once views x = (id : ℕ) → count_of id x.recording + (count_of id x.waiting + count_of id x.collected) ≡ recording (seat_at views id)

abbrev Seated : List SeatView → Stages → List Recorder → List Recorder → List Recorder → Type 0
Seated views x a b c = AreOf views x.recording a × AreOf views x.waiting b × AreOf views x.collected c × Once views x

seated : (me : SeatView) (counter : ℕ) (views : List SeatView) (x : Stages) (m : State) → Stands me counter views x m → Seated views x m.recorders m.waiting m.collected
seated me counter views x m st = (st.recorders, st.waiting, st.collected, st.once)

-- a view changes that stands for no recorder
seated_else : (views : List SeatView) (x : Stages) (a b c : List Recorder) (id : ℕ) (v w : SeatView) → get_elem? views id ≡ some v → recording v ≡ 0 → recording w ≡ 0 → Seated views x a b c → Seated (set views id w) x a b c
seated_else views x a b c id v w at vz wz s =
    let same : (j : ℕ) → j ≢ id → seat_at (set views id w) j ≡ seat_at views j = λ j ne. seat_else views id j w ne in
    let none : count_of id x.recording + (count_of id x.waiting + count_of id x.collected) ≡ 0 = s.3 id ∙ ap recording (at_seat views id v at) ∙ vz in
    let once : Once (set views id w) x = λ j. dite (ℕ_discrete j id)
    (λ (e : j ≡ id). subst (λ (y : ℕ). count_of y x.recording + (count_of y x.waiting + count_of y x.collected) ≡ recording (seat_at (set views id w) y)) (sym e) (none ∙ sym (ap recording (seat_here views id v w at) ∙ wz)))
    (λ (ne : j ≢ id). s.3 j ∙ sym (ap recording (same j ne))) in (
      of_else views (set views id w) id same x.recording a (omega arith) s.0,
      of_else views (set views id w) id same x.waiting b (omega arith) s.1,
      of_else views (set views id w) id same x.collected c (omega arith) s.2,
      once,
    )

-- where a seat that records stands
one_seat : (views : List SeatView) (x : Stages) (i id : ℕ) (v : SeatView) → Once views x → get_elem? views id ≡ some v → slice_get x.recording i ≡ Some id
    → (v.role ≡ recorder) × (count_of id x.recording ≡ 1) × (count_of id x.waiting ≡ 0) × (count_of id x.collected ≡ 0)
one_seat views x i id v o at e =
    let c = count_at x.recording i id e in
    let t : count_of id x.recording + (count_of id x.waiting + count_of id x.collected) ≡ recording v = o id ∙ ap recording (at_seat views id v at) in
    let most = most_one v.role in
    (recorder_of v.role (omega arith), omega arith, omega arith, omega arith)

-- where a seat stands whose bundle is collected
one_bundle : (views : List SeatView) (x : Stages) (i id : ℕ) (v : SeatView) → Once views x → get_elem? views id ≡ some v → slice_get x.collected i ≡ Some id
    → (v.role ≡ recorder) × (count_of id x.recording ≡ 0) × (count_of id x.waiting ≡ 0) × (count_of id x.collected ≡ 1)
one_bundle views x i id v o at e =
    let c = count_at x.collected i id e in
    let t : count_of id x.recording + (count_of id x.waiting + count_of id x.collected) ≡ recording v = o id ∙ ap recording (at_seat views id v at) in
    let most = most_one v.role in
    (recorder_of v.role (omega arith), omega arith, omega arith, omega arith)

-- the view of a seat that records changes, and its recorder with it
seated_set : (views : List SeatView) (x : Stages) (a b c : List Recorder) (i id : ℕ) (v w : SeatView) (r : Recorder) → get_elem? views id ≡ some v → slice_get x.recording i ≡ Some id → recording w ≡ recording v → IsOf w r
    → Seated views x a b c → Seated (set views id w) x (slice_set a i r) b c
seated_set views x a b c i id v w r at e rec is s =
    let same : (j : ℕ) → j ≢ id → seat_at (set views id w) j ≡ seat_at views j = λ j ne. seat_else views id j w ne in
    let one = one_seat views x i id v s.3 at e in
    let once : Once (set views id w) x = λ j. dite (ℕ_discrete j id)
    (λ (z : j ≡ id). subst (λ (y : ℕ). count_of y x.recording + (count_of y x.waiting + count_of y x.collected) ≡ recording (seat_at (set views id w) y)) (sym z) (s.3 id ∙ ap recording (at_seat views id v at) ∙ sym rec ∙ sym (ap recording (seat_here views id v w at))))
    (λ (ne : j ≢ id). s.3 j ∙ sym (ap recording (same j ne))) in (
      of_set views (set views id w) id same x.recording a i r e one.1 (subst (λ (u : SeatView). IsOf u r) (sym (seat_here views id v w at)) is) s.0,
      of_else views (set views id w) id same x.waiting b one.2 s.1,
      of_else views (set views id w) id same x.collected c one.3 s.2,
      once,
    )

-- a seat that records comes behind all
seated_end : (us : List SeatView) (x : Stages) (a b c : List Recorder) (w : SeatView) (r : Recorder) → recording w ≡ 1 → IsOf w r → Seated us x a b c → Seated (us ++ w ∷ []) (begun_as (length us) x) (a ++ r ∷ []) b c
seated_end us x a b c w r one is s =
    let id : ℕ = length us in
    let same : (j : ℕ) → j ≢ id → seat_at (us ++ w ∷ []) j ≡ seat_at us j = λ j ne. seat_before us j w ne in
    let none : count_of id x.recording + (count_of id x.waiting + count_of id x.collected) ≡ 0 = s.3 id ∙ ap recording (seat_behind us) in
    let once : Once (us ++ w ∷ []) (begun_as id x) = λ j. dite (ℕ_discrete j id)
    (λ (e : j ≡ id). subst (λ (y : ℕ). count_of y (x.recording ++ id ∷ []) + (count_of y x.waiting + count_of y x.collected) ≡ recording (seat_at (us ++ w ∷ []) y)) (sym e)
    (let l = count_of-append id x.recording (id ∷ []) in let here = count_here id [] in let sum : count_of id (x.recording ++ id ∷ []) + (count_of id x.waiting + count_of id x.collected) ≡ 1 = omega arith in sum ∙ sym (ap recording (seat_end us w) ∙ one)))
    (λ (ne : j ≢ id). let l = count_of-append j x.recording (id ∷ []) in let other = count_other j id [] (λ (z : id ≡ j). ne (sym z)) in
    let sum : count_of j (x.recording ++ id ∷ []) + (count_of j x.waiting + count_of j x.collected) ≡ count_of j x.recording + (count_of j x.waiting + count_of j x.collected) = omega arith in sum ∙ s.3 j ∙ sym (ap recording (same j ne))) in (
      of_snoc (us ++ w ∷ []) x.recording a id r (of_else us (us ++ w ∷ []) id same x.recording a (omega arith) s.0) (subst (λ (u : SeatView). IsOf u r) (sym (seat_end us w)) is),
      of_else us (us ++ w ∷ []) id same x.waiting b (omega arith) s.1,
      of_else us (us ++ w ∷ []) id same x.collected c (omega arith) s.2,
      once,
    )

-- a count without the one at i, where it is of another number, and where it is of that number
less_other : (ids : List ℕ) (i id j : ℕ) → slice_get ids i ≡ Some id → j ≢ id → count_of j (without ids i) ≡ count_of j ids
less_other ids i id j e ne = let l = count_without j ids i id e in let o = count_other j id [] (λ (z : id ≡ j). ne (sym z)) in omega arith

less_here : (ids : List ℕ) (i id : ℕ) → slice_get ids i ≡ Some id → suc (count_of id (without ids i)) ≡ count_of id ids
less_here ids i id e = let l = count_without id ids i id e in let h = count_here id [] in omega arith

-- a seat whose bundle is collected is spent
seated_gathered : (us : List SeatView) (x : Stages) (a b c : List Recorder) (i id : ℕ) (v : SeatView) → get_elem? us id ≡ some v → slice_get x.collected i ≡ Some id → Seated us x a b c → Seated (set us id spent_view) (gathered_of i x) a b (without c i)
seated_gathered us x a b c i id v at e s =
    let vs : List SeatView = set us id spent_view in
    let same : (j : ℕ) → j ≢ id → seat_at vs j ≡ seat_at us j = λ j ne. seat_else us id j spent_view ne in
    let one = one_bundle us x i id v s.3 at e in
    let less = less_here x.collected i id e in
    let once : Once vs (gathered_of i x) = λ j. dite (ℕ_discrete j id)
    (λ (z : j ≡ id). subst (λ (y : ℕ). count_of y x.recording + (count_of y x.waiting + count_of y (without x.collected i)) ≡ recording (seat_at vs y)) (sym z)
    (let sum : count_of id x.recording + (count_of id x.waiting + count_of id (without x.collected i)) ≡ 0 = (let o1 = one.1 in let o2 = one.2 in let o3 = one.3 in omega arith) in sum ∙ sym (ap recording (seat_here us id v spent_view at))))
    (λ (ne : j ≢ id). let l = less_other x.collected i id j e ne in let o = s.3 j in let sum : count_of j x.recording + (count_of j x.waiting + count_of j (without x.collected i)) ≡ recording (seat_at us j) = omega arith in sum ∙ sym (ap recording (same j ne))) in (
      of_else us vs id same x.recording a one.1 s.0,
      of_else us vs id same x.waiting b one.2 s.1,
      of_else us vs id same (without x.collected i) (without c i) (let o3 = one.3 in omega arith) (of_without us x.collected c i s.2),
      once,
    )

-- a seat that records is spent
seated_cancelled : (us : List SeatView) (x : Stages) (a b c : List Recorder) (i id : ℕ) (v : SeatView) → get_elem? us id ≡ some v → slice_get x.recording i ≡ Some id → Seated us x a b c → Seated (set us id spent_view) (cancelled i x) (without a i) b c
seated_cancelled us x a b c i id v at e s =
    let vs : List SeatView = set us id spent_view in
    let same : (j : ℕ) → j ≢ id → seat_at vs j ≡ seat_at us j = λ j ne. seat_else us id j spent_view ne in
    let one = one_seat us x i id v s.3 at e in
    let less = less_here x.recording i id e in
    let once : Once vs (cancelled i x) = λ j. dite (ℕ_discrete j id)
    (λ (z : j ≡ id). subst (λ (y : ℕ). count_of y (without x.recording i) + (count_of y x.waiting + count_of y x.collected) ≡ recording (seat_at vs y)) (sym z)
    (let sum : count_of id (without x.recording i) + (count_of id x.waiting + count_of id x.collected) ≡ 0 = (let o1 = one.1 in let o2 = one.2 in let o3 = one.3 in omega arith) in sum ∙ sym (ap recording (seat_here us id v spent_view at))))
    (λ (ne : j ≢ id). let l = less_other x.recording i id j e ne in let o = s.3 j in let sum : count_of j (without x.recording i) + (count_of j x.waiting + count_of j x.collected) ≡ recording (seat_at us j) = omega arith in sum ∙ sym (ap recording (same j ne))) in (
      of_else us vs id same (without x.recording i) (without a i) (let o1 = one.1 in omega arith) (of_without us x.recording a i s.0),
      of_else us vs id same x.waiting b one.2 s.1,
      of_else us vs id same x.collected c one.3 s.2,
      once,
    )

-- ---- what the rule says of a table after a step

nat_lt_true : (a b : ℕ) → a < b → nat_lt a b ≡ true
nat_lt_true a b lt = grind (arith, lt)

nat_le_true : (a b : ℕ) → a ≤ b → nat_le a b ≡ true
nat_le_true a b le = grind (arith, le)

more_suc : (xs : List ℕ) (n : ℕ) → more xs n ≤ suc n
more_suc [] n = omega arith
more_suc (x ∷ xs) n = omega arith

module _ (latency first : ℕ) (me me' : SeatView) (counter counter' : ℕ) (views views' : List SeatView) (k : Kept first me counter views) (k' : Kept first me' counter' views') (x : Stages) (m : State) (st : Stands me counter views x m) where
  abbrev Becomes : Event → Stages → Type 0
  Becomes e y = (n : State) × (step latency m e ≡ Some n) × Stands me' counter' views' y n

  seats : Seated views x m.recorders m.waiting m.collected
  seats = seated me counter views x m st

  api_zero : recording me ≡ 0
  api_zero = ap recording_as k.is_api

  -- the API's view after its own step, and how far the counter is then
  own_after : (w : SeatView) → views' ≡ set views 0 w → w ≡ me'
  own_after w e = sym (seat_here views 0 me w k.at_api) ∙ ap (λ (l : List SeatView). seat_at l 0) (sym e) ∙ at_seat views' 0 me' k'.at_api

  own_counter : (w : SeatView) → views' ≡ set views 0 w → counter' + length me.numbers + me.base ≡ counter + length w.numbers + w.base
  own_counter w e =
      let t = total_set number_count views 0 me w k.at_api in
      let same : total number_count views' ≡ total number_count (set views 0 w) = ap (total number_count) e in
      let base : me'.base ≡ w.base = ap (λ (v : SeatView). v.base) (sym (own_after w e)) in
      let c = k.counted in let c' = k'.counted in omega arith

  -- the API's view after the step of another seat, and how far the counter is then
  other_after : (id : ℕ) (w : SeatView) → id ≢ 0 → views' ≡ set views id w → me ≡ me'
  other_after id w ne e = sym (at_seat views 0 me k.at_api) ∙ sym (seat_else views id 0 w (λ (z : 0 ≡ id). ne (sym z))) ∙ ap (λ (l : List SeatView). seat_at l 0) (sym e) ∙ at_seat views' 0 me' k'.at_api

  other_counter : (id : ℕ) (v w : SeatView) → get_elem? views id ≡ some v → id ≢ 0 → views' ≡ set views id w → counter' + length v.numbers ≡ counter + length w.numbers
  other_counter id v w at ne e =
      let t = total_set number_count views id v w at in
      let same : total number_count views' ≡ total number_count (set views id w) = ap (total number_count) e in
      let base : me.base ≡ me'.base = ap (λ (v : SeatView). v.base) (other_after id w ne e) in
      let c = k.counted in let c' = k'.counted in omega arith

  -- ---- the API's own steps

  own_seats : (w : SeatView) → w.role ≡ api → Seated (set views 0 w) x m.recorders m.waiting m.collected
  own_seats w is = seated_else views x m.recorders m.waiting m.collected 0 me w k.at_api api_zero (ap recording_as is) seats

  pub learn_none : views' ≡ set views 0 (learnt me) → Stands me' counter' views' x m
  learn_none e =
      let w : SeatView = learnt me in
      let s = own_seats w k.is_api in
      let c = own_counter w e in
      let same : counter ≡ counter' = omega arith in
      stands_at w me' counter counter' (set views 0 w) views' x m (own_after w e) same (sym e)
      (record { frame = st.frame; base = st.base; next = st.next; places = st.places; greatest = st.greatest; gathered = st.gathered; begun = st.begun; recorders = s.0; waiting = s.1; collected = s.2; once = s.3 })

  pub advance_event : (r : ℕ) → me.off ≡ [] → me.base + length me.numbers ≡ r → m.is_given ≡ true → views' ≡ set views 0 (advanced r me) → Becomes advance x
  advance_event r off told given e =
      let w : SeatView = advanced r me in
      let s = own_seats w k.is_api in
      let c = own_counter w e in
      let all = (gathered_all first me counter views k off).1 in
      let same : counter ≡ counter' = omega arith in
      let none : length me.off ≡ 0 = ap length off in
      let start : m.next ≡ r = st.next ∙ sym all ∙ told in (
        advanced_state m,
        when_true m.is_given (advanced_state m) given,
        stands_at w me' counter counter' (set views 0 w) views' x (advanced_state m) (own_after w e) same (sym e)
            (record { frame = (let f = st.frame in omega arith); base = start; next = st.next; places = st.places; greatest = st.greatest; gathered = refl; begun = omega arith; recorders = s.0; waiting = s.1; collected = s.2; once = s.3 }),
      )

  pub create_event : (p serial : ℕ) → p < length me.places → place_at me.places p ≡ free → me.greatest < serial → m.is_given ≡ false → views' ≡ set views 0 (created p serial me) → Becomes (create p serial) x
  create_event p serial near is_free' new not_given e =
      let w : SeatView = created p serial me in
      let s = own_seats w k.is_api in
      let c = own_counter w e in
      let same : counter ≡ counter' = omega arith in
      let n : State = with_greatest serial (with_place p (live serial) m) in
      let near' : p < length m.places = subst (λ (l : List Place). p < length l) (sym st.places) near in
      let a : is_below p (length m.places) ≡ true = nat_lt_true p (length m.places) near' in
      let b : is_free (place_at m.places p) ≡ true = ap (λ (l : List Place). is_free (place_at l p)) st.places ∙ ap is_free is_free' in
      let new' : m.greatest < serial = subst (λ (g : ℕ). g < serial) (sym st.greatest) new in
      let d : nat_lt m.greatest serial ≡ true = nat_lt_true m.greatest serial new' in
      let f : not m.is_given ≡ true = ap not not_given in (
        n,
        when_true (is_below p (length m.places) && is_free (place_at m.places p) && nat_lt m.greatest serial && not m.is_given) n (λ j. a j && b j && d j && f j),
        stands_at w me' counter counter' (set views 0 w) views' x n (own_after w e) same (sym e)
            (record { frame = st.frame; base = st.base; next = st.next; places = ap (λ (l : List Place). set l p (live serial)) st.places; greatest = refl; gathered = st.gathered; begun = st.begun; recorders = s.0; waiting = s.1; collected = s.2; once = s.3 }),
      )

  pub destroy_event : (p serial : ℕ) → place_at me.places p ≡ live serial → m.is_given ≡ false → views' ≡ set views 0 (placed p (dying serial me.frame) me) → Becomes (destroy p) x
  destroy_event p serial is_live not_given e =
      let w : SeatView = placed p (dying serial me.frame) me in
      let s = own_seats w k.is_api in
      let c = own_counter w e in
      let same : counter ≡ counter' = omega arith in
      let n : State = with_place p (dying serial m.frame) m in
      let at : place_at m.places p ≡ live serial = ap (λ (l : List Place). place_at l p) st.places ∙ is_live in (
        n,
        ap (death_of p m.frame m) at ∙ when_true (not m.is_given) n (ap not not_given),
        stands_at w me' counter counter' (set views 0 w) views' x n (own_after w e) same (sym e)
            (record { frame = st.frame; base = st.base; next = st.next; places = (λ j. set (st.places j) p (dying serial (st.frame j))); greatest = st.greatest; gathered = st.gathered; begun = st.begun; recorders = s.0; waiting = s.1; collected = s.2; once = s.3 }),
      )

  pub reclaim_event : (p serial death : ℕ) → place_at me.places p ≡ dying serial death → death + 1 + latency ≤ me.frame → views' ≡ set views 0 (placed p free me) → Becomes (reclaim p) x
  reclaim_event p serial death is_dying over e =
      let w : SeatView = placed p free me in
      let s = own_seats w k.is_api in
      let c = own_counter w e in
      let same : counter ≡ counter' = omega arith in
      let n : State = with_place p free m in
      let at : place_at m.places p ≡ dying serial death = ap (λ (l : List Place). place_at l p) st.places ∙ is_dying in
      let over' : death + 1 + latency ≤ m.frame = subst (λ (f : ℕ). death + 1 + latency ≤ f) (sym st.frame) over in (
        n,
        when_true (is_over latency m.frame (place_at m.places p)) n (ap (is_over latency m.frame) at ∙ nat_le_true (death + 1 + latency) m.frame over'),
        stands_at w me' counter counter' (set views 0 w) views' x n (own_after w e) same (sym e)
            (record { frame = st.frame; base = st.base; next = st.next; places = ap (λ (l : List Place). set l p free) st.places; greatest = st.greatest; gathered = st.gathered; begun = st.begun; recorders = s.0; waiting = s.1; collected = s.2; once = s.3 }),
      )

  -- ---- a recorder begins

  pub split_event : (num : ℕ) → m.begun < 8 → m.is_given ≡ false → views' ≡ set views 0 (lent num me) ++ fresh num me ∷ [] → Becomes begin (begun_as (length views) x)
  split_event num few not_given e =
      let w : SeatView = lent num me in
      let u : SeatView = fresh num me in
      let us : List SeatView = set views 0 w in
      let n : State = with_begun m in
      let long : length us ≡ length views = length-set views 0 w in
      let is : IsOf u (fresh_recorder m) = record { frame = st.frame; places = st.places; greatest = st.greatest; numbers = refl; names = tt } in
      let s : Seated (us ++ u ∷ []) (begun_as (length views) x) n.recorders n.waiting n.collected =
      subst (λ (l : ℕ). Seated (us ++ u ∷ []) (begun_as l x) n.recorders n.waiting n.collected) long (seated_end us x m.recorders m.waiting m.collected u (fresh_recorder m) refl is (own_seats w k.is_api)) in
      let at : seat_at (us ++ u ∷ []) 0 ≡ w = seat_before us 0 u (λ (z : 0 ≡ length us). let i = in_range views 0 me k.at_api in omega arith) ∙ seat_here views 0 me w k.at_api in
      let own : w ≡ me' = sym at ∙ ap (λ (l : List SeatView). seat_at l 0) (sym e) ∙ at_seat views' 0 me' k'.at_api in
      let same : counter ≡ counter' = (
      let t = total_set number_count views 0 me w k.at_api in
      let a = total_snoc number_count us u in
      let all : total number_count views' ≡ total number_count (us ++ u ∷ []) = ap (total number_count) e in
      let base : me'.base ≡ w.base = ap (λ (v : SeatView). v.base) (sym own) in
      let c = k.counted in let c' = k'.counted in omega arith
      ) in
      let a : nat_lt m.begun 8 ≡ true = nat_lt_true m.begun 8 few in
      let b : not m.is_given ≡ true = ap not not_given in
      let y : Stages = begun_as (length views) x in (
        n,
        when_true (nat_lt m.begun 8 && not m.is_given) n (λ j. a j && b j),
        stands_at w me' counter counter' (us ++ u ∷ []) views' y n own same (sym e)
            (record { frame = st.frame; base = st.base; next = st.next; places = st.places; greatest = st.greatest; gathered = st.gathered; begun = (let o = st.begun in omega arith); recorders = s.0; waiting = s.1; collected = s.2; once = s.3 }),
      )

  -- ---- a recorder is joined

  -- the API's view and the counter after a join
  join_after : (other : ℕ) (w : SeatView) → other ≢ 0 → get_elem? views other ≡ some w → views' ≡ set (set views 0 (gathered me w)) other spent_view → (gathered me w ≡ me') × (counter ≡ counter')
  join_after other w apart at e =
      let both : SeatView = gathered me w in
      let us : List SeatView = set views 0 both in
      let at' : get_elem? us other ≡ some w = set_else views 0 other both apart ∙ at in
      let here : seat_at (set us other spent_view) 0 ≡ both = seat_else us other 0 spent_view (λ (z : 0 ≡ other). apart (sym z)) ∙ seat_here views 0 me both k.at_api in
      let own : both ≡ me' = sym here ∙ ap (λ (l : List SeatView). seat_at l 0) (sym e) ∙ at_seat views' 0 me' k'.at_api in
      let t = total_set number_count views 0 me both k.at_api in
      let a = total_set number_count us other w spent_view at' in
      let l = length-append me.numbers w.numbers in
      let all : total number_count views' ≡ total number_count (set us other spent_view) = ap (total number_count) e in
      let base : me'.base ≡ both.base = ap (λ (v : SeatView). v.base) (sym own) in
      let c = k.counted in let c' = k'.counted in (own, omega arith)

  -- the encoder number of a recorder is off
  number_off : (other : ℕ) (w : SeatView) → get_elem? views other ≡ some w → w.role ≡ recorder → 1 ≤ count_of w.encoder me.off
  number_off other w at is = let t = total_at (carries w.encoder) views other w at in let c = carries_here w is in let o = k.off w.encoder in omega arith

  pub join_event : (i other : ℕ) (w : SeatView) → slice_get x.collected i ≡ Some other → other ≢ 0 → get_elem? views other ≡ some w → views' ≡ set (set views 0 (gathered me w)) other spent_view → Becomes (gather i) (gathered_of i x)
  join_event i other w found apart at e =
      let both : SeatView = gathered me w in
      let us : List SeatView = set views 0 both in
      let at' : get_elem? us other ≡ some w = set_else views 0 other both apart ∙ at in
      let q = of_at views x.collected m.collected st.collected i other found in
      let is : IsOf w q.0 = subst (λ (u : SeatView). IsOf u q.0) (at_seat views other w at) q.2 in
      let one = one_bundle views x i other w st.once at found in
      let s = seated_gathered us x m.recorders m.waiting m.collected i other w at' found (own_seats both k.is_api) in
      let after = join_after other w apart at e in
      let n : State = gathered_after i q.0 m in
      let y : Stages = gathered_of i x in
      let short = length_without w.encoder me.off (number_off other w at one.0) in
      let joined = more_suc w.numbers me.joined in (
        n,
        map_at (λ (r : Recorder). gathered_after i r m) (slice_get m.collected i) q.0 q.1,
        stands_at both me' counter counter' (set us other spent_view) views' y n after.0 after.1 (sym e)
            (record { frame = st.frame; base = st.base; next = st.next; places = st.places; greatest = st.greatest; gathered = (λ j. st.gathered j ++ is.numbers j); begun = (let o = st.begun in omega arith); recorders = s.0; waiting = s.1; collected = s.2; once = s.3 }),
      )

  pub unbegun_event : (i other : ℕ) (w : SeatView) → slice_get x.recording i ≡ Some other → w.numbers ≡ [] → w.asked ≡ [] → other ≢ 0 → get_elem? views other ≡ some w → views' ≡ set (set views 0 (gathered me w)) other spent_view
      → Becomes (cancel i) (cancelled i x)
  unbegun_event i other w found no_numbers no_asked apart at e =
      let both : SeatView = gathered me w in
      let us : List SeatView = set views 0 both in
      let at' : get_elem? us other ≡ some w = set_else views 0 other both apart ∙ at in
      let q = of_at views x.recording m.recorders st.recorders i other found in
      let is : IsOf w q.0 = subst (λ (u : SeatView). IsOf u q.0) (at_seat views other w at) q.2 in
      let one = one_seat views x i other w st.once at found in
      let s = seated_cancelled us x m.recorders m.waiting m.collected i other w at' found (own_seats both k.is_api) in
      let after = join_after other w apart at e in
      let n : State = without_begun i m in
      let y : Stages = cancelled i x in
      let short = length_without w.encoder me.off (number_off other w at one.0) in
      let joined : more w.numbers me.joined ≡ me.joined = ap (λ (l : List ℕ). more l me.joined) no_numbers in
      let gathered_is : m.gathered_numbers ≡ me.numbers ++ w.numbers = st.gathered ∙ sym (append-nil me.numbers) ∙ ap (λ (l : List ℕ). me.numbers ++ l) (sym no_numbers) in
      let a : is_empty q.0.named ≡ true = ap (λ (l : List Thing). is_empty l) (names_none w.frame w.asked q.0.named no_asked is.names) in
      let b : is_empty q.0.numbers ≡ true = ap (λ (l : List ℕ). is_empty l) (is.numbers ∙ no_numbers) in (
        n,
        and_then_at (λ (r : Recorder). when (is_empty r.named && is_empty r.numbers) (without_begun i m)) (slice_get m.recorders i) q.0 n q.1 (when_true (is_empty q.0.named && is_empty q.0.numbers) n (λ j. a j && b j)),
        stands_at both me' counter counter' (set us other spent_view) views' y n after.0 after.1 (sym e)
            (record { frame = st.frame; base = st.base; next = st.next; places = st.places; greatest = st.greatest; gathered = gathered_is; begun = (let o = st.begun in omega arith); recorders = s.0; waiting = s.1; collected = s.2; once = s.3 }),
      )

  -- ---- a recorder's own steps

  -- a number that a seat drew is the counter's
  drawn_is : (id r : ℕ) (v : SeatView) → get_elem? views id ≡ some v → me ≡ me' → counter' ≡ suc counter → views' ≡ set views id (drawn r v) → r ≡ counter
  drawn_is id r v at own next e =
      let w : SeatView = drawn r v in
      let t = total_set (holds_number counter) views id v w at in
      let all : total (holds_number counter) views' ≡ total (holds_number counter) (set views id w) = ap (total (holds_number counter)) e in
      let before : total (holds_number counter) views ≡ 0 = k.once counter ∙ between_above me.base counter counter (omega arith) in
      let base : me.base ≡ me'.base = ap (λ (u : SeatView). u.base) own in
      let low : me'.base ≤ counter = (let c = k.counted in omega arith) in
      let high : counter < counter' = omega arith in
      let after : total (holds_number counter) views' ≡ 1 = k'.once counter ∙ between_in me'.base counter' counter low high in
      let l = count_of-append counter v.numbers (r ∷ []) in
      dite (ℕ_discrete r counter)
      (λ (z : r ≡ counter). z)
      (λ (ne : r ≢ counter). let no = count_other counter r [] ne in absurd (omega arith))

  pub draw_event : (i id r : ℕ) (v : SeatView) → slice_get x.recording i ≡ Some id → get_elem? views id ≡ some v → views' ≡ set views id (drawn r v) → Becomes (draw i) x
  draw_event i id r v found at e =
      let w : SeatView = drawn r v in
      let q = of_at views x.recording m.recorders st.recorders i id found in
      let is : IsOf v q.0 = subst (λ (u : SeatView). IsOf u q.0) (at_seat views id v at) q.2 in
      let one = one_seat views x i id v st.once at found in
      let fits = recorder_fits first me counter views k id v at one.0 in
      let own : me ≡ me' = other_after id w fits.0 e in
      let l = length-append v.numbers (r ∷ []) in
      let c = other_counter id v w at fits.0 e in
      let next : counter' ≡ suc counter = omega arith in
      let r_is : r ≡ counter = drawn_is id r v at own next e in
      let at' : get_elem? views' id ≡ some w = ap (λ (l : List SeatView). get_elem? l id) e ∙ set_here views id w (in_range views id v at) in
      let few = (recorder_fits first me' counter' views' k' id w at' one.0).1.few in
      let long : length q.0.numbers ≡ length v.numbers = ap length is.numbers in
      let p : Recorder = with_number m.next q.0 in
      let n : State = with_next (with_recorder i p m) in
      let next_is : m.next ≡ r = st.next ∙ sym r_is in
      let s = seated_set views x m.recorders m.waiting m.collected i id v w p at found refl (record { frame = is.frame; places = is.places; greatest = is.greatest; numbers = (λ j. is.numbers j ++ next_is j ∷ []); names = is.names }) seats in (
        n,
        and_then_at (λ (r : Recorder). when (nat_lt (length r.numbers) 8191) (with_next (with_recorder i (with_number m.next r) m))) (slice_get m.recorders i) q.0 n q.1 (when_true (nat_lt (length q.0.numbers) 8191) n (nat_lt_true (length q.0.numbers) 8191 (omega arith))),
        stands_at me me' (suc counter) counter' (set views id w) views' x n own (sym next) (sym e)
            (record { frame = st.frame; base = st.base; next = (let o = st.next in omega arith); places = st.places; greatest = st.greatest; gathered = st.gathered; begun = st.begun; recorders = s.0; waiting = s.1; collected = s.2; once = s.3 }),
      )

  -- the API's view and the counter after a place was asked
  ask_after : (id p r : ℕ) (v : SeatView) → id ≢ 0 → get_elem? views id ≡ some v → views' ≡ set views id (asks p r v) → (me ≡ me') × (counter ≡ counter')
  ask_after id p r v ne at e = (other_after id (asks p r v) ne e, let c = other_counter id v (asks p r v) at ne e in omega arith)

  pub ask_none : (i id p r : ℕ) (v : SeatView) → slice_get x.recording i ≡ Some id → get_elem? views id ≡ some v → views' ≡ set views id (asks p r v) → Stands me' counter' views' x m
  ask_none i id p r v found at e =
      let w : SeatView = asks p r v in
      let q = of_at views x.recording m.recorders st.recorders i id found in
      let is : IsOf v q.0 = subst (λ (u : SeatView). IsOf u q.0) (at_seat views id v at) q.2 in
      let one = one_seat views x i id v st.once at found in
      let fits = recorder_fits first me counter views k id v at one.0 in
      let after = ask_after id p r v fits.0 at e in
      let s = seated_set views x m.recorders m.waiting m.collected i id v w q.0 at found refl (record { frame = is.frame; places = is.places; greatest = is.greatest; numbers = is.numbers; names = names_skip v.frame v.asked (record { place = p; word = r }) q.0.named is.names }) seats in
      stands_at me me' counter counter' (set views id w) views' x m after.0 after.1 (sym e)
      (record { frame = st.frame; base = st.base; next = st.next; places = st.places; greatest = st.greatest; gathered = st.gathered; begun = st.begun; recorders = subst (AreOf (set views id w) x.recording) (set_same m.recorders i q.0 q.1) s.0; waiting = s.1; collected = s.2; once = s.3 })

  pub name_event : (i id p r serial : ℕ) (v : SeatView) → slice_get x.recording i ≡ Some id → get_elem? views id ≡ some v → r ≡ word_of (place_at me.places p) → is_usable_in v.frame r serial ≡ true → views' ≡ set views id (asks p r v)
      → Becomes (name i (record { place = p; serial = serial })) x
  name_event i id p r serial v found at word usable e =
      let w : SeatView = asks p r v in
      let t : Thing = record { place = p; serial = serial } in
      let q = of_at views x.recording m.recorders st.recorders i id found in
      let is : IsOf v q.0 = subst (λ (u : SeatView). IsOf u q.0) (at_seat views id v at) q.2 in
      let one = one_seat views x i id v st.once at found in
      let fits = recorder_fits first me counter views k id v at one.0 in
      let after = ask_after id p r v fits.0 at e in
      let z : Recorder = with_name t q.0 in
      let n : State = with_recorder i z m in
      let up_to : IsUpTo 4294967295 (place_at me.places p) = up_to-le me.greatest 4294967295 (place_at me.places p) k.greatest_most (k.placed p) in
      let stands : has_usable q.0.frame serial (place_at m.places p) ≡ true =
      (λ j. has_usable (is.frame j) serial (place_at (st.places j) p)) ∙ sym (usable-word v.frame serial (place_at me.places p) up_to) ∙ ap (λ (y : ℕ). is_usable_in v.frame y serial) (sym word) ∙ usable in
      let s = seated_set views x m.recorders m.waiting m.collected i id v w z at found refl (record { frame = is.frame; places = is.places; greatest = is.greatest; numbers = is.numbers; names = names_snoc v.frame v.asked (record { place = p; word = r }) q.0.named t is.names (refl, usable) }) seats in (
        n,
        and_then_at (λ (r : Recorder). when (has_usable r.frame serial (place_at m.places p)) (with_recorder i (with_name t r) m)) (slice_get m.recorders i) q.0 n q.1 (when_true (has_usable q.0.frame serial (place_at m.places p)) n stands),
        stands_at me me' counter counter' (set views id w) views' x n after.0 after.1 (sym e)
            (record { frame = st.frame; base = st.base; next = st.next; places = st.places; greatest = st.greatest; gathered = st.gathered; begun = st.begun; recorders = s.0; waiting = s.1; collected = s.2; once = s.3 }),
      )

-- ---- the queue's events

module _ (latency : ℕ) (me : SeatView) (counter : ℕ) (views : List SeatView) (x : Stages) (m : State) (st : Stands me counter views x m) where
  pub end_event : (i id : ℕ) → slice_get x.recording i ≡ Some id → (n : State) × (step latency m (end i) ≡ Some n) × Stands me counter views (ended_as i id x) n
  end_event i id found =
      let q = of_at views x.recording m.recorders st.recorders i id found in
      let n : State = ended i q.0 m in (
        n,
        map_at (λ (r : Recorder). ended i r m) (slice_get m.recorders i) q.0 q.1,
        record {
          frame = st.frame;
          base = st.base;
          next = st.next;
          places = st.places;
          greatest = st.greatest;
          gathered = st.gathered;
          begun = st.begun;
          recorders = of_without views x.recording m.recorders i st.recorders;
          waiting = of_snoc views x.waiting m.waiting id q.0 st.waiting q.2;
          collected = st.collected;
          once = λ j. let o = st.once j in let l = count_without j x.recording i id found in let a = count_of-append j x.waiting (id ∷ []) in omega arith;
        },
      )

  pub collect_event : (i id : ℕ) → slice_get x.waiting i ≡ Some id → (n : State) × (step latency m (collect i) ≡ Some n) × Stands me counter views (collected_as i id x) n
  collect_event i id found =
      let q = of_at views x.waiting m.waiting st.waiting i id found in
      let n : State = collected_after i q.0 m in (
        n,
        map_at (λ (r : Recorder). collected_after i r m) (slice_get m.waiting i) q.0 q.1,
        record {
          frame = st.frame;
          base = st.base;
          next = st.next;
          places = st.places;
          greatest = st.greatest;
          gathered = st.gathered;
          begun = st.begun;
          recorders = st.recorders;
          waiting = of_without views x.waiting m.waiting i st.waiting;
          collected = of_snoc views x.collected m.collected id q.0 st.collected q.2;
          once = λ j. let o = st.once j in let l = count_without j x.waiting i id found in let a = count_of-append j x.collected (id ∷ []) in omega arith;
        },
      )
