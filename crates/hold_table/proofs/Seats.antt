-- Seats that stand for recorders, where views change and where lists of seats change.
use Rattle.std.proofs.Common.{◌≡◌, ◌≢◌, inl, inr, ℕ, zero, suc, ◌+◌, ◌≤◌, List, [], ◌∷◌, ◌++◌, length, set, slice_get, slice_set, Some, sym, refl, ap, ◌∙◌, subst, arith}
use mathlib.Core.Option.{some, some-injective, some-ne-none}
use lib.ListN.{get_elem?}
use Rattle.schedule_model.specs.Machine.{Thing, Recorder, without}
use Rattle.schedule_model.specs.Held.{count_of}
use Rattle.hold_table.specs.Views.{SeatView, Asked, spent_view}
use Rattle.hold_table.specs.Events.{seat_at, IsName, AreNames, IsOf, AreOf}
use Rattle.hold_table.proofs.Totals.{count_here, count_other}

-- ---- the view of a seat

pub at_seat : (views : List SeatView) (i : ℕ) (v : SeatView) → get_elem? views i ≡ some v → seat_at views i ≡ v
at_seat [] i v e = absurd (some-ne-none v (sym e))
at_seat (x ∷ xs) zero v e = some-injective x v e
at_seat (x ∷ xs) (suc i) v e = at_seat xs i v e

pub seat_here : (views : List SeatView) (i : ℕ) (v w : SeatView) → get_elem? views i ≡ some v → seat_at (set views i w) i ≡ w
seat_here [] i v w e = absurd (some-ne-none v (sym e))
seat_here (x ∷ xs) zero v w e = refl
seat_here (x ∷ xs) (suc i) v w e = seat_here xs i v w e

pub seat_else : (views : List SeatView) (i j : ℕ) (w : SeatView) → j ≢ i → seat_at (set views i w) j ≡ seat_at views j
seat_else [] i j w ne = refl
seat_else (x ∷ xs) zero zero w ne = absurd (ne refl)
seat_else (x ∷ xs) zero (suc j) w ne = refl
seat_else (x ∷ xs) (suc i) zero w ne = refl
seat_else (x ∷ xs) (suc i) (suc j) w ne = seat_else xs i j w (λ (e : j ≡ i). ne (ap suc e))

pub seat_end : (views : List SeatView) (w : SeatView) → seat_at (views ++ w ∷ []) (length views) ≡ w
seat_end [] w = refl
seat_end (x ∷ xs) w = seat_end xs w

pub seat_before : (views : List SeatView) (j : ℕ) (w : SeatView) → j ≢ length views → seat_at (views ++ w ∷ []) j ≡ seat_at views j
seat_before [] zero w ne = absurd (ne refl)
seat_before [] (suc j) w ne = refl
seat_before (x ∷ xs) zero w ne = refl
seat_before (x ∷ xs) (suc j) w ne = seat_before xs j w (λ (e : j ≡ length xs). ne (ap suc e))

pub seat_behind : (views : List SeatView) → seat_at views (length views) ≡ spent_view
seat_behind [] = refl
seat_behind (x ∷ xs) = seat_behind xs

-- ---- lists of seats

pub count_at : (ids : List ℕ) (i id : ℕ) → slice_get ids i ≡ Some id → 1 ≤ count_of id ids
count_at [] i id e = cc e
count_at (j ∷ js) zero id e = let same : j ≡ id = cc e in let here : count_of id (j ∷ js) ≡ suc (count_of id js) = ap (λ (n : ℕ). count_of id (n ∷ js)) same ∙ count_here id js in omega arith
count_at (j ∷ js) (suc i) id e = let r = count_at js i id e in omega arith

pub count_without : (n : ℕ) (ids : List ℕ) (i id : ℕ) → slice_get ids i ≡ Some id → count_of n (without ids i) + count_of n (id ∷ []) ≡ count_of n ids
count_without n [] i id e = cc e
count_without n (j ∷ js) zero id e = let same : j ≡ id = cc e in let here : count_of n (j ∷ []) ≡ count_of n (id ∷ []) = ap (λ (y : ℕ). count_of n (y ∷ [])) same in omega arith
count_without n (j ∷ js) (suc i) id e = let r = count_without n js i id e in omega arith

-- ---- seats that stand for recorders

pub of_at : (views : List SeatView) (ids : List ℕ) (rs : List Recorder) → AreOf views ids rs → (i id : ℕ) → slice_get ids i ≡ Some id → (r : Recorder) × (slice_get rs i ≡ Some r) × IsOf (seat_at views id) r
of_at views [] rs o i id e = cc e
of_at views (j ∷ js) [] o i id e = absurd o
of_at views (j ∷ js) (r ∷ rs) o zero id e = let same : j ≡ id = cc e in (r, refl, subst (λ (y : ℕ). IsOf (seat_at views y) r) same o.0)
of_at views (j ∷ js) (r ∷ rs) o (suc i) id e = of_at views js rs o.1 i id e

-- one view changes, which is of no seat of the list
pub of_else : (views views' : List SeatView) (id : ℕ) → ((j : ℕ) → j ≢ id → seat_at views' j ≡ seat_at views j) → (ids : List ℕ) (rs : List Recorder) → count_of id ids ≡ 0 → AreOf views ids rs → AreOf views' ids rs
of_else views views' id same [] [] none o = tt
of_else views views' id same [] (r ∷ rs) none o = absurd o
of_else views views' id same (j ∷ js) [] none o = absurd o
of_else views views' id same (j ∷ js) (r ∷ rs) none o =
    let apart : j ≢ id = λ (e : j ≡ id). let here : count_of id (j ∷ js) ≡ suc (count_of id js) = ap (λ (n : ℕ). count_of id (n ∷ js)) e ∙ count_here id js in omega arith in
    (subst (λ (v : SeatView). IsOf v r) (sym (same j apart)) o.0, of_else views views' id same js rs (let t = count_other id j js apart in omega arith) o.1)

-- the view of the seat at i changes, and the recorder with it
pub of_set : (views views' : List SeatView) (id : ℕ) → ((j : ℕ) → j ≢ id → seat_at views' j ≡ seat_at views j) → (ids : List ℕ) (rs : List Recorder) (i : ℕ) (r : Recorder) → slice_get ids i ≡ Some id → count_of id ids ≡ 1 → IsOf (seat_at views' id) r
    → AreOf views ids rs → AreOf views' ids (slice_set rs i r)
of_set views views' id same [] rs i r e one is o = cc e
of_set views views' id same (j ∷ js) [] i r e one is o = absurd o
of_set views views' id same (j ∷ js) (q ∷ rs) zero r e one is o =
    let at : j ≡ id = cc e in
    let here : count_of id (j ∷ js) ≡ suc (count_of id js) = ap (λ (n : ℕ). count_of id (n ∷ js)) at ∙ count_here id js in
    (subst (λ (y : ℕ). IsOf (seat_at views' y) r) (sym at) is, of_else views views' id same js rs (omega arith) o.1)
of_set views views' id same (j ∷ js) (q ∷ rs) (suc i) r e one is o =
    let more = count_at js i id e in
    let apart : j ≢ id = λ (a : j ≡ id). let here : count_of id (j ∷ js) ≡ suc (count_of id js) = ap (λ (n : ℕ). count_of id (n ∷ js)) a ∙ count_here id js in omega arith in
    (subst (λ (v : SeatView). IsOf v q) (sym (same j apart)) o.0, of_set views views' id same js rs i r e (let t = count_other id j js apart in omega arith) is o.1)

pub of_snoc : (views : List SeatView) (ids : List ℕ) (rs : List Recorder) (id : ℕ) (r : Recorder) → AreOf views ids rs → IsOf (seat_at views id) r → AreOf views (ids ++ id ∷ []) (rs ++ r ∷ [])
of_snoc views [] [] id r o is = (is, tt)
of_snoc views [] (q ∷ rs) id r o is = absurd o
of_snoc views (j ∷ js) [] id r o is = absurd o
of_snoc views (j ∷ js) (q ∷ rs) id r o is = (o.0, of_snoc views js rs id r o.1 is)

pub of_without : (views : List SeatView) (ids : List ℕ) (rs : List Recorder) (i : ℕ) → AreOf views ids rs → AreOf views (without ids i) (without rs i)
of_without views [] [] i o = tt
of_without views [] (q ∷ rs) i o = absurd o
of_without views (j ∷ js) [] i o = absurd o
of_without views (j ∷ js) (q ∷ rs) zero o = o.1
of_without views (j ∷ js) (q ∷ rs) (suc i) o = (o.0, of_without views js rs i o.1)

-- ---- names

-- a place that was asked gave no thing
pub names_skip : (frame : ℕ) (asked : List Asked) (a : Asked) (ts : List Thing) → AreNames frame asked ts → AreNames frame (asked ++ a ∷ []) ts
names_skip frame asked a [] n = tt
names_skip frame [] a (t ∷ ts) n = absurd n
names_skip frame (b ∷ asked) a (t ∷ ts) n = elim n [
  | inl y ↦ inl (y.0, names_skip frame asked a ts y.1)
  | inr y ↦ inr (names_skip frame asked a (t ∷ ts) y)
]

-- a place that was asked gave a thing
pub names_snoc : (frame : ℕ) (asked : List Asked) (a : Asked) (ts : List Thing) (t : Thing) → AreNames frame asked ts → IsName frame a t → AreNames frame (asked ++ a ∷ []) (ts ++ t ∷ [])
names_snoc frame [] a [] t n is = inl (is, tt)
names_snoc frame [] a (u ∷ ts) t n is = absurd n
names_snoc frame (b ∷ asked) a [] t n is = inr (names_snoc frame asked a [] t tt is)
names_snoc frame (b ∷ asked) a (u ∷ ts) t n is = elim n [
  | inl y ↦ inl (y.0, names_snoc frame asked a ts t y.1 is)
  | inr y ↦ inr (names_snoc frame asked a (u ∷ ts) t y is)
]

-- who asked for nothing named nothing
pub names_none : (frame : ℕ) (asked : List Asked) (ts : List Thing) → asked ≡ [] → AreNames frame asked ts → ts ≡ []
names_none frame asked [] e n = refl
names_none frame [] (t ∷ ts) e n = absurd n
names_none frame (a ∷ asked) (t ∷ ts) e n = cc e
