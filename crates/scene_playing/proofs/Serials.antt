-- A lawful journal whose entries stand one encoder after another is the journal of one thread.
use Rattle.std.proofs.Common.{◌≡◌, ◌≤◌, ◌<◌, ℕ, ◌+◌, zero, suc, Bool, true, false, cond, ◌==◌, List, [], ◌∷◌, ◌++◌, map, filter, length, take, refl, sym, ap, ◌∙◌, subst, arith}
use Rattle.std.specs.Prelude.{nat_le}
use Rattle.std.proofs.lemmas.Bool.{eqb-true, eqb-false, eq-eqb, ne_eqb, leb-true, le-leb, and_from}
use Rattle.std.specs.List.{AllByRecursion}
use Rattle.scene_model.specs.Fold.{Accepted, FramePlan}
use Rattle.scene_model.specs.Journal.{Entry, Journal, ordinals_of, HasInOrder, AreBelow, IsLawfulFrame, AreLawful, serial_from}
use Rattle.scene_playing.specs.Order.{ascend_from, StandByEncoder}
use Rattle.scene_playing.proofs.Entries.{both_true}

-- an entry by its ordinal
abbrev entry : ℕ → ℕ → Entry
entry e o = record { encoder = e; ordinal = o }

-- an encoder's entries, by their ordinals
abbrev run : ℕ → List Entry → List Entry
run e entries = map (entry e) (ordinals_of e entries)

-- the entries of as many encoders from one on, one encoder after another
abbrev runs : ℕ → ℕ → List Entry → List Entry
runs e zero entries = []
runs e (suc n) entries = run e entries ++ runs (e + 1) n entries

-- ---- one encoder

-- the ordinals with one more at the front, by whether it is the encoder's
abbrev more_if : Bool → ℕ → Entry → List Entry → List ℕ
more_if b e x rest = map (λ (n : Entry). n.ordinal) (cond b (x ∷ filter (λ (n : Entry). n.encoder == e) rest) (filter (λ (n : Entry). n.encoder == e) rest))

ordinals_here : (e : ℕ) (x : Entry) (rest : List Entry) → x.encoder ≡ e → ordinals_of e (x ∷ rest) ≡ x.ordinal ∷ ordinals_of e rest
ordinals_here e x rest is = ap (λ b. more_if b e x rest) (eq-eqb x.encoder e is)

ordinals_beside : (e : ℕ) (x : Entry) (rest : List Entry) → (x.encoder ≡ e → ⊥) → ordinals_of e (x ∷ rest) ≡ ordinals_of e rest
ordinals_beside e x rest other = ap (λ b. more_if b e x rest) (ne_eqb x.encoder e other)

-- entries that ascend from a number have none of an encoder below it
none_below : (k e : ℕ) (xs : List Entry) → e < k → ascend_from k xs ≡ true → ordinals_of e xs ≡ []
none_below k e [] less up = refl
none_below k e (x ∷ rest) less up =
    let p = both_true (nat_le k x.encoder) (ascend_from x.encoder rest) up in
    let at : k ≤ x.encoder = leb-true k x.encoder p.0 in
    ordinals_beside e x rest (λ is. omega (arith, less, at, is)) ∙ none_below x.encoder e rest (omega (arith, less, at)) p.1

lower : (e k : ℕ) (xs : List Entry) → e ≤ k → ascend_from k xs ≡ true → ascend_from e xs ≡ true
lower e k [] le up = refl
lower e k (x ∷ rest) le up =
    let p = both_true (nat_le k x.encoder) (ascend_from x.encoder rest) up in
    let at : k ≤ x.encoder = leb-true k x.encoder p.0 in
    and_from (nat_le e x.encoder) (ascend_from x.encoder rest) (le-leb e x.encoder (omega (arith, le, at))) p.1

-- ---- all encoders

run_here : (e : ℕ) (x : Entry) (rest : List Entry) → x.encoder ≡ e → run e (x ∷ rest) ≡ x ∷ run e rest
run_here e x rest is = ap (map (entry e)) (ordinals_here e x rest is) ∙ ap (λ n. entry n x.ordinal ∷ run e rest) (sym is)

runs_beside : (e n : ℕ) (x : Entry) (rest : List Entry) → x.encoder < e → runs e n (x ∷ rest) ≡ runs e n rest
runs_beside e zero x rest less = refl
runs_beside e (suc n) x rest less =
    let here : run e (x ∷ rest) ≡ run e rest = ap (map (entry e)) (ordinals_beside e x rest (λ is. omega (arith, less, is))) in
    let behind : runs (e + 1) n (x ∷ rest) ≡ runs (e + 1) n rest = runs_beside (e + 1) n x rest (omega (arith, less)) in
    λ i. here i ++ behind i

-- the first entry comes first
runs_first : (e n : ℕ) (x : Entry) (rest : List Entry) → ascend_from e (x ∷ rest) ≡ true → x.encoder < e + n → runs e n (x ∷ rest) ≡ x ∷ runs e n rest
runs_first e zero x rest up less =
    let at : e ≤ x.encoder = leb-true e x.encoder (both_true (nat_le e x.encoder) (ascend_from x.encoder rest) up).0 in
    absurd (omega (arith, less, at))
runs_first e (suc n) x rest up less = by (x.encoder == e) refl (λ later more. runs_first (e + 1) n x rest later more) where
  p : (nat_le e x.encoder ≡ true) × (ascend_from x.encoder rest ≡ true)
  p = both_true (nat_le e x.encoder) (ascend_from x.encoder rest) up

  at : e ≤ x.encoder
  at = leb-true e x.encoder p.0

  by : (b : Bool) → (x.encoder == e) ≡ b → (ascend_from (e + 1) (x ∷ rest) ≡ true → x.encoder < e + 1 + n → runs (e + 1) n (x ∷ rest) ≡ x ∷ runs (e + 1) n rest)
      → runs e (suc n) (x ∷ rest) ≡ x ∷ runs e (suc n) rest
  by true h next =
      let is : x.encoder ≡ e = eqb-true x.encoder e h in
      let here : run e (x ∷ rest) ≡ x ∷ run e rest = run_here e x rest is in
      let behind : runs (e + 1) n (x ∷ rest) ≡ runs (e + 1) n rest = runs_beside (e + 1) n x rest (omega (arith, is)) in
      λ i. here i ++ behind i
  by false h next =
      let other : x.encoder ≡ e → ⊥ = eqb-false x.encoder e h in
      let more : e + 1 ≤ x.encoder = omega (arith, at, other) in
      let later : ascend_from (e + 1) (x ∷ rest) ≡ true = and_from (nat_le (e + 1) x.encoder) (ascend_from x.encoder rest) (le-leb (e + 1) x.encoder more) p.1 in
      let here : run e (x ∷ rest) ≡ [] = ap (map (entry e)) (none_below (e + 1) e (x ∷ rest) (omega arith) later) in
      let none : run e rest ≡ [] = ap (map (entry e)) (none_below x.encoder e rest (omega (arith, more)) p.1) in
      let behind : runs (e + 1) n (x ∷ rest) ≡ x ∷ runs (e + 1) n rest = next later (omega (arith, less)) in
      (λ i. here i ++ behind i) ∙ (λ i. x ∷ (sym none i ++ runs (e + 1) n rest))

runs_none : (e n : ℕ) → runs e n [] ≡ []
runs_none e zero = refl
runs_none e (suc n) = runs_none (e + 1) n

-- entries that ascend are those of their encoders, one encoder after another
in_runs : (e n : ℕ) (entries : List Entry) → ascend_from e entries ≡ true → AreBelow (e + n) entries → entries ≡ runs e n entries
in_runs e n [] up below = sym (runs_none e n)
in_runs e n (x ∷ rest) up below =
    let p = both_true (nat_le e x.encoder) (ascend_from x.encoder rest) up in
    ap (λ ys. x ∷ ys) (in_runs e n rest (lower e x.encoder rest (leb-true e x.encoder p.0) p.1) below.1) ∙ sym (runs_first e n x rest up below.0)

runs_serial : (e : ℕ) (all : List Accepted) (entries : List Entry) → HasInOrder e all entries → runs e (length all) entries ≡ serial_from e all
runs_serial e [] entries h = refl
runs_serial e (a ∷ rest) entries h =
    let here = ap (map (entry e)) h.0 in
    let behind = runs_serial (e + 1) rest entries h.1 in
    λ i. here i ++ behind i

-- ---- frames

serial_frame : (p : FramePlan) (entries : List Entry) → IsLawfulFrame p entries → StandByEncoder entries → entries ≡ serial_from 0 p.encoders
serial_frame p entries lawful up =
    let n : ℕ = length p.encoders in
    let same : n ≡ 0 + n = omega arith in
    in_runs 0 n entries up (subst (λ m. AreBelow m entries) same lawful.no_other) ∙ runs_serial 0 p.encoders entries lawful.in_order

pub serial_front : (ps : List FramePlan) (j : Journal) → AreLawful ps j → AllByRecursion StandByEncoder j → j ≡ take (length j) (map (λ (p : FramePlan). serial_from 0 p.encoders) ps)
serial_front ps [] lawful all = refl
serial_front [] (e ∷ rest) lawful all = absurd lawful
serial_front (p ∷ ps) (e ∷ rest) lawful all =
    let here = serial_frame p e lawful.0 all.0 in
    let behind = serial_front ps rest lawful.1 all.1 in
    λ i. here i ∷ behind i
