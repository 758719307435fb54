-- The runs of a frame: what is read was spelled so, and what is spelled so is read.
use Rattle.std.proofs.Common.{◌≡◌, ℕ, zero, suc, ◌+◌, ◌-◌, ◌<◌, ◌≤◌, Bool, true, false, cond, ltb, leb, eqb, not, ◌&&◌, List, [], ◌∷◌, ◌++◌, length, Option, Some, None, Result, Ok, Err, refl, sym, ap, subst, ◌∙◌, append_assoc, arith}
use Rattle.std.specs.Prelude.{flat_map, ⊤}
use Rattle.std.proofs.lemmas.Bool.{ltb-true, lt-ltb, leb-true, le-leb, eqb-true, eq-eqb, and_parts, and_from, not_from_false, not-true, false_from_ne_true, both_ways}
use Rattle.std.proofs.lemmas.List.{length-append, length-replicate}
use Rattle.std.proofs.lemmas.List.Concat.{flat_map-append}
use Rattle.frame_capture.specs.declared.run.Color.{Color}
use Rattle.frame_capture.specs.declared.run.Run.{Run}
use Rattle.frame_capture.specs.Film.{color_bytes}
use Rattle.frame_capture.specs.Capture.{run_bytes, run_pixels, run_text, MayGoOn, AreRuns}
use Rattle.frame_capture.specs.Fault.{same_color, repeats, can_stand, run_of, run_at, runs_at, behind, cannot_stand}
use Rattle.frame_capture.proofs.FieldLaws.{IsBytes, bind_ok, if_so, ok_is, Takes}

-- ---- colours

pub same-color : (a b : Color) → same_color a b ≡ true → a ≡ b
same-color a b e =
    let first = and_parts (eqb a.red b.red) (eqb a.green b.green && eqb a.blue b.blue) e in
    let others = and_parts (eqb a.green b.green) (eqb a.blue b.blue) first.1 in
    let red = eqb-true a.red b.red first.0 in
    let green = eqb-true a.green b.green others.0 in
    let blue = eqb-true a.blue b.blue others.1 in
    ap (λ (r : ℕ). record { red = r; green = a.green; blue = a.blue }) red ∙ ap (λ (g : ℕ). record { red = b.red; green = g; blue = a.blue }) green ∙ ap (λ (x : ℕ). record { red = b.red; green = b.green; blue = x }) blue

pub color-is : (a : Color) → same_color a a ≡ true
color-is a = and_from (eqb a.red a.red) (eqb a.green a.green && eqb a.blue a.blue) (eq-eqb a.red a.red refl) (and_from (eqb a.green a.green) (eqb a.blue a.blue) (eq-eqb a.green a.green refl) (eq-eqb a.blue a.blue refl))

-- ---- a run that can stand

-- the runs go on behind this one, if there is one
abbrev pub GoOnBehind : Option Run → List Run → Type 0
GoOnBehind None rs = ⊤
GoOnBehind (Some before) rs = MayGoOn before rs

not-repeated : (before : Option Run) (r : Run) (rs : List Run) → repeats before r ≡ false → GoOnBehind before (r ∷ rs)
not-repeated None r rs e = tt
not-repeated (Some before) r rs e = λ few same.
    both_ways (repeats (Some before) r) e (and_from (ltb before.count 255) (same_color before.color r.color) (lt-ltb before.count 255 few) (subst (λ (c : Color). same_color before.color c ≡ true) same (color-is before.color)))

not-one-more : (before : Option Run) (r : Run) (rs : List Run) → GoOnBehind before (r ∷ rs) → repeats before r ≡ false
not-one-more None r rs h = refl
not-one-more (Some before) r rs h = false_from_ne_true (repeats (Some before) r) (λ e.
    let both = and_parts (ltb before.count 255) (same_color before.color r.color) e in
    h (ltb-true before.count 255 both.0) (same-color before.color r.color both.1))

pub record CanStand (before : Option Run) (wanted : ℕ) (r : Run) : Type 0 where
  pub some : 0 < r.count
  pub within : r.count ≤ wanted
  pub apart : repeats before r ≡ false

pub stands : (before : Option Run) (wanted : ℕ) (r : Run) → can_stand before wanted r ≡ true → CanStand before wanted r
stands before wanted r e =
    let first = and_parts (ltb 0 r.count) (leb r.count wanted && not (repeats before r)) e in
    let others = and_parts (leb r.count wanted) (not (repeats before r)) first.1 in
    record { some = ltb-true 0 r.count first.0; within = leb-true r.count wanted others.0; apart = not-true (repeats before r) others.1 }

pub may-stand : (before : Option Run) (wanted : ℕ) (r : Run) → CanStand before wanted r → can_stand before wanted r ≡ true
may-stand before wanted r h =
    and_from (ltb 0 r.count) (leb r.count wanted && not (repeats before r)) (lt-ltb 0 r.count h.some)
    (and_from (leb r.count wanted) (not (repeats before r)) (le-leb r.count wanted h.within) (not_from_false (repeats before r) h.apart))

-- ---- one step

pub runs-step : (before : Option Run) (n : ℕ) (r : Run) (bytes : List ℕ) → 0 < n → can_stand before n r ≡ true
    → runs_at before n (run_bytes r ++ bytes) ≡ behind (run_text r) (runs_at (Some r) (n - r.count) bytes)
unfolding runs_at
runs-step before zero r bytes some test = absurd (omega arith)
runs-step before (suc n) r bytes some test = rw test refl

-- a run that was read
pub record RunIs (before : Option Run) (n : ℕ) (bytes : List ℕ) (r : Run) (after : List ℕ) : Type 0 where
  pub spelled : bytes ≡ run_bytes r ++ after
  pub stands : can_stand before n r ≡ true

pub run-is : (before : Option Run) (n : ℕ) (bytes : List ℕ) (r : Run) (after : List ℕ) → run_at before n bytes ≡ Ok (r, after) → RunIs before n bytes r after
unfolding run_at
run-is before n [] r after e = absurd cc
run-is before n (a ∷ []) r after e = absurd cc
run-is before n (a ∷ b ∷ []) r after e = absurd cc
run-is before n (a ∷ b ∷ c ∷ []) r after e = absurd cc
run-is before n (count ∷ red ∷ green ∷ blue ∷ bytes) r after e =
    let made = run_of count red green blue in
    let g = if_so (can_stand before n made) cannot_stand (Ok (made, bytes)) (r, after) e in
    subst (λ (x : Run × List ℕ). RunIs before n (count ∷ red ∷ green ∷ blue ∷ bytes) x.0 x.1) (ok_is {E = ℕ} (made, bytes) (r, after) g.1) (record { spelled = refl; stands = g.0 })

-- a run that was refused
pub runs-stop : (before : Option Run) (n : ℕ) (bytes : List ℕ) (cause : ℕ) → 0 < n → run_at before n bytes ≡ Err cause → runs_at before n bytes ≡ Err cause
unfolding run_at runs_at
runs-stop before zero bytes cause some e = absurd (omega arith)
runs-stop before (suc n) [] cause some e = cc
runs-stop before (suc n) (a ∷ []) cause some e = cc
runs-stop before (suc n) (a ∷ b ∷ []) cause some e = cc
runs-stop before (suc n) (a ∷ b ∷ c ∷ []) cause some e = cc
runs-stop before (suc n) (count ∷ red ∷ green ∷ blue ∷ bytes) cause some e = refused (can_stand before (suc n) (run_of count red green blue)) e
  where
    refused : (b : Bool) → cond {A = Result (Run × List ℕ) ℕ} b (Ok (run_of count red green blue, bytes)) (Err cannot_stand) ≡ Err cause
        → cond b (behind (run_text (run_of count red green blue)) (runs_at (Some (run_of count red green blue)) (suc n - count) bytes)) (Err cannot_stand) ≡ Err cause
    refused true e = absurd cc
    refused false e = cc

pub runs-end : (before : Option Run) (bytes : List ℕ) → runs_at before 0 bytes ≡ Ok ([], bytes)
unfolding runs_at
runs-end before bytes = refl

-- ---- all runs

-- runs that were read
pub record TakesRuns (before : Option Run) (n : ℕ) (bytes text rest : List ℕ) : Type 0 where
  pub runs : List Run
  pub lawful : AreRuns runs
  pub go_on : GoOnBehind before runs
  pub text_is : text ≡ flat_map color_bytes (flat_map run_pixels runs)
  pub many : length (flat_map run_pixels runs) ≡ n
  pub takes : Takes bytes (flat_map run_bytes runs) rest

no-runs : (before : Option Run) (bytes : List ℕ) → IsBytes bytes → TakesRuns before 0 bytes [] bytes
no-runs None bytes fits = record { runs = []; lawful = tt; go_on = tt; text_is = refl; many = refl; takes = record { parts = refl; rest_fits = fits } }
no-runs (Some b) bytes fits = record { runs = []; lawful = tt; go_on = tt; text_is = refl; many = refl; takes = record { parts = refl; rest_fits = fits } }

one-run : (before : Option Run) (n : ℕ) (r : Run) (bytes text rest : List ℕ) → CanStand before n r → r.count ≤ 255 → TakesRuns (Some r) (n - r.count) bytes text rest
    → TakesRuns before n (run_bytes r ++ bytes) (run_text r ++ text) rest
one-run before n r bytes text rest stand few h =
    let pixels = flat_map run_pixels h.runs in
    record {
      runs = r ∷ h.runs;
      lawful = (stand.some, few, h.go_on, h.lawful);
      go_on = not-repeated before r h.runs stand.apart;
      text_is = ap (λ (t : List ℕ). run_text r ++ t) h.text_is ∙ sym (flat_map-append color_bytes (run_pixels r) pixels);
      many = omega (arith, length-append (run_pixels r) pixels, length-replicate r.count r.color, h.many, stand.within);
      takes = record { parts = ap (λ (t : List ℕ). run_bytes r ++ t) h.takes.parts ∙ sym (append_assoc (run_bytes r) (flat_map run_bytes h.runs) rest); rest_fits = h.takes.rest_fits };
    }

pub runs-take : (before : Option Run) (n : ℕ) (bytes : List ℕ) (x : List ℕ × List ℕ) → IsBytes bytes → runs_at before n bytes ≡ Ok x → TakesRuns before n bytes x.0 x.1
unfolding runs_at
runs-take before zero bytes x fits e = subst (λ (y : List ℕ × List ℕ). TakesRuns before 0 bytes y.0 y.1) (ok_is {E = ℕ} ([], bytes) x e) (no-runs before bytes fits)
runs-take before (suc n) [] x fits e = absurd cc
runs-take before (suc n) (a ∷ []) x fits e = absurd cc
runs-take before (suc n) (a ∷ b ∷ []) x fits e = absurd cc
runs-take before (suc n) (a ∷ b ∷ c ∷ []) x fits e = absurd cc
runs-take before (suc n) (count ∷ red ∷ green ∷ blue ∷ bytes) x fits e =
    let r = run_of count red green blue in
    let g = if_so (can_stand before (suc n) r) cannot_stand (behind (run_text r) (runs_at (Some r) (suc n - count) bytes)) x e in
    let b = bind_ok (runs_at (Some r) (suc n - count) bytes) (λ y. Ok (run_text r ++ y.0, y.1)) x g.1 in
    let bytes_fit : IsBytes bytes = λ i. fits (suc (suc (suc (suc i)))) in
    let few : count ≤ 255 = omega (arith, fits 0) in
    let others = runs-take (Some r) (suc n - count) bytes b.0 bytes_fit b.1 in
    let all = one-run before (suc n) r bytes b.0.0 b.0.1 (stands before (suc n) r g.0) few others in
    subst (λ (y : List ℕ × List ℕ). TakesRuns before (suc n) (count ∷ red ∷ green ∷ blue ∷ bytes) y.0 y.1) (ok_is {E = ℕ} (run_text r ++ b.0.0, b.0.1) x b.2) all

pub runs-again : (rs : List Run) (before : Option Run) (n : ℕ) (rest : List ℕ) → AreRuns rs → GoOnBehind before rs → length (flat_map run_pixels rs) ≡ n
    → runs_at before n (flat_map run_bytes rs ++ rest) ≡ Ok (flat_map color_bytes (flat_map run_pixels rs), rest)
runs-again [] before n rest lawful go many = subst (λ (k : ℕ). runs_at before k rest ≡ Ok ([], rest)) many (runs-end before rest)
runs-again (r ∷ rs) before n rest lawful go many =
    let pixels = flat_map run_pixels rs in
    let bytes = flat_map run_bytes rs in
    let sum : r.count + length pixels ≡ n = omega (arith, length-append (run_pixels r) pixels, length-replicate r.count r.color, many) in
    let stand : CanStand before n r = record { some = lawful.0; within = omega (arith, sum); apart = not-one-more before r rs go } in
    let others = runs-again rs (Some r) (n - r.count) rest lawful.3 lawful.2 (omega (arith, sum)) in
    ap (runs_at before n) (append_assoc (run_bytes r) bytes rest)
    ∙ runs-step before n r (bytes ++ rest) (omega (arith, sum, lawful.0)) (may-stand before n r stand)
    ∙ ap (behind (run_text r)) others
    ∙ ap (λ (t : List ℕ). Ok (t, rest)) (sym (flat_map-append color_bytes (run_pixels r) pixels))
