-- Differing places, row by row.
use Rattle.std.proofs.Common.{◌≡◌, ℕ, zero, suc, ◌+◌, ◌*◌, ◌-◌, ◌<◌, ◌≤◌, max, Bool, true, false, cond, ltb, List, [], ◌∷◌, ◌++◌, length, get_or, take, drop, refl, ap, sym, ◌∙◌, arith, inl, inr, append-nil, append_assoc}
use Rattle.std.specs.Prelude.{filter, flat_map, map}
use Rattle.std.specs.Int.{abs_diff}
use Rattle.std.specs.List.{range_with_len}
use Rattle.std.proofs.Math.Nat.{max-le, suc-mul, mul_comm}
use Rattle.std.proofs.lemmas.Bool.{cases_lt, le-ltb}
use Rattle.std.proofs.lemmas.List.{length-append}
use Rattle.std.proofs.lemmas.Nat.{mul-le}
use Rattle.std.proofs.lemmas.List.Concat.{flat_map-append}
use Rattle.std.proofs.lemmas.List.Elements.{filter-append}
use Rattle.std.proofs.lemmas.List.FromFn.{filter_of_map_range_with_len_more}
use Rattle.picture_diff.specs.Difference.{differs_at, most_apart, pixel_at, pixels_apart, place_at, places, row}
use Rattle.picture_diff.specs.Told.{found_of}
use Rattle.picture_diff.specs.declared.difference.Place.{Place}
use Rattle.picture_diff.specs.declared.found.Found.{Found}
use Rattle.picture_diff.proofs.Most.{most-within, part-within}

-- the first places of a row
abbrev pub row_front : (y x : ℕ) → List Place
row_front y x = map (λ c. place_at c y) (range_with_len 0 x)

-- one place of a row more
front-more : (test : Place → Bool) (y x : ℕ) → filter test (row_front y (x + 1)) ≡ filter test (row_front y x) ++ cond (test (place_at x y)) (place_at x y ∷ []) []
front-more test y x = filter_of_map_range_with_len_more test (λ c. place_at c y) 0 x x (omega arith)

pub row-step : (test : Place → Bool) (ps : List Place) (x y : ℕ) (b : Bool) (f : Found) → b ≡ test (place_at x y)
    → f ≡ found_of ((ps ++ filter test (row_front y x)) ++ cond b (place_at x y ∷ []) []) → f ≡ found_of (ps ++ filter test (row_front y (x + 1)))
row-step test ps x y b f is h =
    h ∙ ap found_of (append_assoc ps (filter test (row_front y x)) (cond b (place_at x y ∷ []) [])
    ∙ ap (λ (qs : List Place). ps ++ qs) (ap (λ (t : Bool). filter test (row_front y x) ++ cond t (place_at x y ∷ []) []) is ∙ sym (front-more test y x)))

pub none-found : (ps : List Place) (f : Found) → f ≡ found_of ps → f ≡ found_of (ps ++ [])
none-found ps f h = h ∙ ap found_of (sym (append-nil ps))

-- ---- several rows

range-more : (a n : ℕ) → range_with_len a (n + 1) ≡ range_with_len a n ++ (a + n) ∷ []
range-more a zero = let e : a ≡ a + 0 = omega arith in ap (λ (b : ℕ). b ∷ []) e
range-more a (suc n) =
    let e : a + 1 + n ≡ a + suc n = omega arith in
    let k : suc n + 1 ≡ suc (n + 1) = omega arith in
    ap (range_with_len a) k ∙ ap (λ (xs : List ℕ). a ∷ xs) (range-more (a + 1) n ∙ ap (λ (b : ℕ). range_with_len (a + 1) n ++ b ∷ []) e)

pub rows-more : (test : Place → Bool) (width y : ℕ) → filter test (places width (y + 1)) ≡ filter test (places width y) ++ filter test (row width y)
rows-more test width y =
    let e : 0 + y ≡ y = omega arith in
    ap (λ (ys : List ℕ). filter test (flat_map (row width) ys)) (range-more 0 y ∙ ap (λ (b : ℕ). range_with_len 0 y ++ b ∷ []) e)
    ∙ ap (filter test) (flat_map-append (row width) (range_with_len 0 y) (y ∷ []) ∙ ap (λ (qs : List Place). places width y ++ qs) (append-nil (row width y)))
    ∙ filter-append test (places width y) (row width y)

-- ---- rows without a differing place

none-differ : (test : Place → Bool) (y n : ℕ) → ((x : ℕ) → x < n → test (place_at x y) ≡ false) → filter test (row_front y n) ≡ []
none-differ test y zero h = refl
none-differ test y (suc n) h =
    let e : suc n ≡ n + 1 = omega arith in
    ap (λ (k : ℕ). filter test (row_front y k)) e ∙ front-more test y n ∙ rw (h n (omega arith), none-differ test y n (λ x lt. h x (omega arith))) refl

-- three channels are within `near`
pub near-pixel : (near width : ℕ) (one other : List ℕ) (x y : ℕ) → ((k : ℕ) → k < 3 → abs_diff (get_or one (3 * (y * width + x) + k) 0) (get_or other (3 * (y * width + x) + k) 0) ≤ near)
    → differs_at near width one other (place_at x y) ≡ false
near-pixel near width one other x y h =
    let at = 3 * (y * width + x) in
    let e : at + 0 ≡ at = omega arith in
    let first = h 0 (omega arith) in
    let red : abs_diff (get_or one at 0) (get_or other at 0) ≤ near = rw e at first in
    le-ltb near (pixels_apart one other at) (max-le red (max-le (h 1 (omega arith)) (h 2 (omega arith))))

pub near-row : (near width y start : ℕ) (one other : List ℕ) → start ≡ y * width → 3 * (start + width) ≤ length one → 3 * (start + width) ≤ length other
    → most_apart (take (3 * start + 3 * width - 3 * start) (drop (3 * start) one)) (take (3 * start + 3 * width - 3 * start) (drop (3 * start) other)) ≤ near
    → filter (differs_at near width one other) (row width y) ≡ []
near-row near width y start one other is one-long other-long most =
    let len : 3 * start + 3 * width - 3 * start ≡ 3 * width = omega arith in
    let less : most_apart (take (3 * width) (drop (3 * start) one)) (take (3 * width) (drop (3 * start) other)) ≤ near = rw len at most in
    none-differ (differs_at near width one other) y width (λ x lt.
    near-pixel near width one other x y (λ k few.
    let place : 3 * start + (3 * x + k) ≡ 3 * (y * width + x) + k = omega (arith, is) in
    rw (← place) (part-within near one other (3 * start) (3 * width) (3 * x + k) (omega arith) (omega arith) less (omega arith))))

pub all-near : (near width height : ℕ) (one other : List ℕ) → ((i : ℕ) → abs_diff (get_or one i 0) (get_or other i 0) ≤ near) → filter (differs_at near width one other) (places width height) ≡ []
all-near near width zero one other h = refl
all-near near width (suc y) one other h =
    let e : suc y ≡ y + 1 = omega arith in
    let line : filter (differs_at near width one other) (row width y) ≡ [] = none-differ (differs_at near width one other) y width (λ x lt. near-pixel near width one other x y (λ k few. h (3 * (y * width + x) + k))) in
    ap (λ (k : ℕ). filter (differs_at near width one other) (places width k)) e ∙ rows-more (differs_at near width one other) width y ∙ rw (line, all-near near width y one other h) refl

pub none-apart : (near width height : ℕ) (one other : List ℕ) → length one ≡ length other → most_apart one other ≤ near → filter (differs_at near width one other) (places width height) ≡ []
none-apart near width height one other long most = all-near near width height one other (λ i. omega (arith, most-within one other i long, most))

-- ---- how many pixels stand before a row's end

pub row-fits : (width height y : ℕ) → y < height → y * width + width ≤ width * height
row-fits width height y lt = omega (arith, suc-mul y width, mul-le (suc y) width height width (omega arith) (omega arith), mul_comm width height)

pub next-row : (y width : ℕ) → (y + 1) * width ≡ y * width + width
next-row y width = let e : y + 1 ≡ suc y = omega arith in ap (λ (n : ℕ). n * width) e ∙ suc-mul y width

-- ---- what is not found

absent : (b : Bool) (p : Place) (qs : List Place) → length (qs ++ cond b (p ∷ []) []) ≡ 0 → (b ≡ false) × (length qs ≡ 0)
absent true p qs e = absurd (omega (arith, e, length-append qs (p ∷ [])))
absent false p qs e = (refl, omega (arith, e, length-append qs []))

front-none : (test : Place → Bool) (y n : ℕ) → length (filter test (row_front y n)) ≡ 0 → (x : ℕ) → x < n → test (place_at x y) ≡ false
front-none test y zero e x lt = absurd (omega (arith, lt))
front-none test y (suc n) e x lt =
    let k : suc n ≡ n + 1 = omega arith in
    let parts = absent (test (place_at n y)) (place_at n y) (filter test (row_front y n)) (sym (ap length (ap (λ (m : ℕ). filter test (row_front y m)) k ∙ front-more test y n)) ∙ e) in
    elim (cases_lt x n) [
      | inl less ↦ front-none test y n parts.1 x less
      | inr more ↦ let same : n ≡ x = omega (arith, more, lt) in ap (λ (m : ℕ). test (place_at m y)) (sym same) ∙ parts.0
    ]

pub none-there : (test : Place → Bool) (width height : ℕ) → length (filter test (places width height)) ≡ 0 → (x y : ℕ) → x < width → y < height → test (place_at x y) ≡ false
none-there test width zero e x y x-lt y-lt = absurd (omega (arith, y-lt))
none-there test width (suc h) e x y x-lt y-lt =
    let k : suc h ≡ h + 1 = omega arith in
    let both : length (filter test (places width h) ++ filter test (row width h)) ≡ 0 = sym (ap length (ap (λ (m : ℕ). filter test (places width m)) k ∙ rows-more test width h)) ∙ e in
    let parts = length-append (filter test (places width h)) (filter test (row width h)) in
    elim (cases_lt y h) [
      | inl less ↦ none-there test width h (omega (arith, both, parts)) x y x-lt less
      | inr more ↦
          let same : h ≡ y = omega (arith, more, y-lt) in
          ap (λ (m : ℕ). test (place_at x m)) (sym same) ∙ front-none test h width (omega (arith, both, parts)) x x-lt
    ]
