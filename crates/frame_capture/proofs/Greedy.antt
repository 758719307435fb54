-- The longest runs from the left are lawful, and no other runs are.
use Rattle.std.proofs.Common.{◌≡◌, ◌≢◌, ℕ, zero, suc, ◌+◌, ◌<◌, ◌≤◌, Bool, true, false, cond, ltb, List, [], ◌∷◌, ◌++◌, length, replicate, refl, sym, ap, subst, ◌∙◌, append_assoc, append-nil, arith}
use Rattle.std.specs.Prelude.{flat_map}
use Rattle.std.specs.Int.{w32, to_le_bytes}
use Rattle.std.proofs.lemmas.Bool.{ltb-true, lt-ltb, and_parts, and_from, false_from_ne_true, both_ways}
use Rattle.std.proofs.lemmas.List.{replicate_more}
use Rattle.frame_capture.specs.declared.run.Color.{Color}
use Rattle.frame_capture.specs.declared.run.Run.{Run}
use Rattle.frame_capture.specs.Film.{Film, color_bytes}
use Rattle.frame_capture.specs.Capture.{run_bytes, run_pixels, MayGoOn, AreRuns, AreRunsOf, AreFrames, head_of, IsCapture}
use Rattle.frame_capture.specs.Fault.{same_color}
use Rattle.frame_capture.specs.Spelling.{goes_on, run_with, runs_behind, runs_of}
use Rattle.frame_capture.proofs.Runs.{same-color, color-is}

-- a run so far, and the pixels behind it
abbrev greedy : Run → List Color → List Run
greedy r [] = r ∷ []
greedy r (c ∷ cs) = cond (goes_on r c) (greedy (run_with (r.count + 1) r.color) cs) (r ∷ greedy (run_with 1 c) cs)

abbrev all_greedy : List Color → List Run
all_greedy [] = []
all_greedy (c ∷ cs) = greedy (run_with 1 c) cs

-- ---- how they are spelled

either : (b : Bool) (x y : List ℕ) (xs ys : List Run) → x ≡ flat_map run_bytes xs → y ≡ flat_map run_bytes ys → cond b x y ≡ flat_map run_bytes (cond b xs ys)
either true x y xs ys e f = e
either false x y xs ys e f = f

greedy-spelled : (r : Run) (p : List Color) → runs_behind r (flat_map color_bytes p) ≡ flat_map run_bytes (greedy r p)
unfolding runs_behind
greedy-spelled r [] = sym (append-nil (run_bytes r))
greedy-spelled r (c ∷ cs) =
    let longer = run_with (r.count + 1) r.color in
    let next = run_with 1 c in
    either (goes_on r c) (runs_behind longer (flat_map color_bytes cs)) (run_bytes r ++ runs_behind next (flat_map color_bytes cs)) (greedy longer cs) (r ∷ greedy next cs)
    (greedy-spelled longer cs) (ap (λ (x : List ℕ). run_bytes r ++ x) (greedy-spelled next cs))

all-spelled : (p : List Color) → runs_of (flat_map color_bytes p) ≡ flat_map run_bytes (all_greedy p)
unfolding runs_of
all-spelled [] = refl
all-spelled (c ∷ cs) = greedy-spelled (run_with 1 c) cs

-- ---- they stand for the pixels

stands-either : (b : Bool) (xs ys : List Run) (p : List Color) → (b ≡ true → flat_map run_pixels xs ≡ p) → flat_map run_pixels ys ≡ p → flat_map run_pixels (cond b xs ys) ≡ p
stands-either true xs ys p f e = f refl
stands-either false xs ys p f e = e

greedy-pixels : (r : Run) (p : List Color) → flat_map run_pixels (greedy r p) ≡ run_pixels r ++ p
greedy-pixels r [] = refl
greedy-pixels r (c ∷ cs) =
    let longer = run_with (r.count + 1) r.color in
    let next = run_with 1 c in
    stands-either (goes_on r c) (greedy longer cs) (r ∷ greedy next cs) (run_pixels r ++ c ∷ cs)
    (λ test.
    let same : r.color ≡ c = same-color r.color c (and_parts (ltb r.count 255) (same_color r.color c) test).1 in
    greedy-pixels longer cs ∙ ap (λ (x : List Color). x ++ cs) (sym (replicate_more r.count r.color)) ∙ append_assoc (run_pixels r) (r.color ∷ []) cs ∙ ap (λ (d : Color). run_pixels r ++ d ∷ cs) same)
    (ap (λ (x : List Color). run_pixels r ++ x) (greedy-pixels next cs))

all-pixels : (p : List Color) → flat_map run_pixels (all_greedy p) ≡ p
all-pixels [] = refl
all-pixels (c ∷ cs) = greedy-pixels (run_with 1 c) cs

-- ---- they are lawful

-- the first run is of this colour
abbrev StartsWith : Color → List Run → Type 0
StartsWith c [] = ⊥
StartsWith c (r ∷ rs) = r.color ≡ c

go-on : (r : Run) (c : Color) (rs : List Run) → goes_on r c ≡ false → StartsWith c rs → MayGoOn r rs
go-on r c [] test start = tt
go-on r c (s ∷ rs) test start = λ few same.
    both_ways (goes_on r c) test (and_from (ltb r.count 255) (same_color r.color c) (lt-ltb r.count 255 few) (subst (λ (d : Color). same_color r.color d ≡ true) (same ∙ start) (color-is r.color)))

abbrev IsGood : Color → List Run → Type 0
IsGood c rs = AreRuns rs × StartsWith c rs

good-either : (b : Bool) (c : Color) (xs ys : List Run) → (b ≡ true → IsGood c xs) → (b ≡ false → IsGood c ys) → IsGood c (cond b xs ys)
good-either true c xs ys f g = f refl
good-either false c xs ys f g = g refl

greedy-good : (r : Run) (p : List Color) → 1 ≤ r.count → r.count ≤ 255 → IsGood r.color (greedy r p)
greedy-good r [] some few = ((some, few, tt, tt), refl)
greedy-good r (c ∷ cs) some few =
    let longer = run_with (r.count + 1) r.color in
    let next = run_with 1 c in
    good-either (goes_on r c) r.color (greedy longer cs) (r ∷ greedy next cs)
    (λ test.
    let short : r.count < 255 = ltb-true r.count 255 (and_parts (ltb r.count 255) (same_color r.color c) test).0 in
    greedy-good longer cs (omega arith) (omega arith))
    (λ test.
    let others = greedy-good next cs (omega arith) (omega arith) in
    ((some, few, go-on r c (greedy next cs) test others.1, others.0), refl))

all-good : (p : List Color) → AreRuns (all_greedy p)
all-good [] = tt
all-good (c ∷ cs) = (greedy-good (run_with 1 c) cs (omega arith) (omega arith)).0

pub runs-are : (p : List Color) → AreRunsOf (runs_of (flat_map color_bytes p)) p
runs-are p = record { runs = all_greedy p; lawful = all-good p; stand_for = sym (all-pixels p); spelled = all-spelled p }

-- ---- no others are

one-more : (r : Run) (k : ℕ) (q : List Color) → r.count + k ≤ 255 → greedy r (replicate k r.color ++ q) ≡ greedy (run_with (r.count + k) r.color) q
one-more r zero q few = let none : r.count + 0 ≡ r.count = omega arith in ap (λ (n : ℕ). greedy (run_with n r.color) q) (sym none)
one-more r (suc k) q few =
    let longer = run_with (r.count + 1) r.color in
    let test : goes_on r r.color ≡ true = and_from (ltb r.count 255) (same_color r.color r.color) (lt-ltb r.count 255 (omega (arith, few))) (color-is r.color) in
    let sum : r.count + 1 + k ≡ r.count + suc k = omega arith in
    rw test (one-more longer k q (omega (arith, few)) ∙ ap (λ (n : ℕ). greedy (run_with n r.color) q) sum)

-- the run of a colour that has begun is read whole
whole-run : (r : Run) (q : List Color) → 1 ≤ r.count → r.count ≤ 255 → all_greedy (run_pixels r ++ q) ≡ greedy r q
whole-run r q some few = go r.count refl
  where
    go : (n : ℕ) → n ≡ r.count → all_greedy (replicate n r.color ++ q) ≡ greedy r q
    go zero e = absurd (omega (arith, e, some))
    go (suc n) e =
        let sum : 1 + n ≡ r.count = omega (arith, e) in
        one-more (run_with 1 r.color) n q (omega (arith, e, few)) ∙ ap (λ (k : ℕ). greedy (run_with k r.color) q) sum

-- behind a run that may go on with these runs, another begins
stop-at : (r : Run) (c : Color) (cs : List Color) → goes_on r c ≡ false → greedy r (c ∷ cs) ≡ r ∷ all_greedy (c ∷ cs)
stop-at r c cs test = rw test refl

stops : (r s : Run) (q : List Color) → 1 ≤ s.count → (r.count < 255 → r.color ≢ s.color) → greedy r (run_pixels s ++ q) ≡ r ∷ all_greedy (run_pixels s ++ q)
stops r s q some apart = go s.count refl
  where
    test : goes_on r s.color ≡ false
    test = false_from_ne_true (goes_on r s.color) (λ e.
        let both = and_parts (ltb r.count 255) (same_color r.color s.color) e in
        apart (ltb-true r.count 255 both.0) (same-color r.color s.color both.1))

    go : (n : ℕ) → n ≡ s.count → greedy r (replicate n s.color ++ q) ≡ r ∷ all_greedy (replicate n s.color ++ q)
    go zero e = absurd (omega (arith, e, some))
    go (suc n) e = stop-at r s.color (replicate n s.color ++ q) test

pub only-greedy : (rs : List Run) → AreRuns rs → all_greedy (flat_map run_pixels rs) ≡ rs
only-greedy [] lawful = refl
only-greedy (r ∷ []) lawful = whole-run r [] lawful.0 lawful.1
only-greedy (r ∷ s ∷ rs) lawful =
    let others = only-greedy (s ∷ rs) lawful.3 in
    whole-run r (flat_map run_pixels (s ∷ rs)) lawful.0 lawful.1
    ∙ stops r s (flat_map run_pixels rs) lawful.3.0 lawful.2
    ∙ ap (λ (xs : List Run). r ∷ xs) others

runs-spelled : (bytes : List ℕ) (p : List Color) → AreRunsOf bytes p → bytes ≡ flat_map run_bytes (all_greedy p)
runs-spelled bytes p are = are.spelled ∙ ap (flat_map run_bytes) (sym (only-greedy are.runs are.lawful)) ∙ ap (λ (q : List Color). flat_map run_bytes (all_greedy q)) (sym are.stand_for)

same-runs : (a b : List ℕ) (p : List Color) → AreRunsOf a p → AreRunsOf b p → a ≡ b
same-runs a b p x y = runs-spelled a p x ∙ sym (runs-spelled b p y)

same-frames : (ps : List (List Color)) (k : ℕ) (a b : List ℕ) → AreFrames k a ps → AreFrames k b ps → a ≡ b
same-frames [] k a b x y = x ∙ sym y
same-frames (p ∷ ps) k a b x y =
    x.2 ∙ ap (λ (r : List ℕ). to_le_bytes w32 k ++ (r ++ x.1)) (same-runs x.0 y.0 p x.3 y.3)
    ∙ ap (λ (o : List ℕ). to_le_bytes w32 k ++ (y.0 ++ o)) (same-frames ps (k + 1) x.1 y.1 x.4 y.4) ∙ sym y.2

-- each list of pictures has one capture
pub one-capture : (a b : List ℕ) (f : Film) → IsCapture a f → IsCapture b f → a ≡ b
one-capture a b f x y = x.spelled ∙ ap (λ (r : List ℕ). head_of f.width f.height (length f.pictures) ++ r) (same-frames f.pictures 0 x.frames y.frames x.framed y.framed) ∙ sym y.spelled
