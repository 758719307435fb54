-- Pixels that are counted one after the other in the order of their places.
use Rattle.std.proofs.Common.{◌≡◌, ℕ, zero, suc, ◌+◌, ◌-◌, ◌*◌, ◌/◌, ◌%◌, ◌^◌, ◌<◌, ◌≤◌, Bool, true, false, ◌&&◌, nat_le, nat_lt, if◌then◌else◌, List, [], ◌∷◌, length, get_or, Some, refl, ap, sym, subst, ◌∙◌, arith}
use Rattle.std.proofs.Math.ListN.{set}
use Rattle.std.proofs.lemmas.List.{map-set, length-map}
use Rattle.std.proofs.lemmas.List as lists
use Rattle.std.proofs.lemmas.List.Sums.{sum_by-set}
use Rattle.std.proofs.lemmas.Nat.{mod-mul-add, div-mul-add, div_below, le-div}
use Rattle.std.proofs.lemmas.Bool.{and_from, and_right, le-leb, lt-ltb, le-ltb, lt-leb}
use Rattle.gfx_model.specs.Number.{map_from}
use Rattle.gfx_model.specs.World.{Facing}
use Rattle.gfx_model.specs.Raster.{covers}
use Rattle.gfx_model.specs.Pixel.{pixel_step}
use Rattle.gfx_model.proofs.PartlyMapped.{partly, partly-set, partly-done, length-partly}
use Rattle.tri_cover.specs.declared.ramps.WideRamp.{WideRamp}
use Rattle.tri_cover.specs.Widened.{wide_at}
use Rattle.pixel_ops.specs.Tests.{passes_tests}
use Rattle.gfx_query.specs.Counting.{Counted, after_fragment, covered_count, triangle_count, white, pixel_of, word_of, words_in, passed_in}
use Rattle.gfx_query.specs.Standing.{Stand, place_change}

-- places that do not change are passed over
pub partly_passed : {A : Type 0} (f : ℕ → A → A) (n from to : ℕ) (xs : List A) → from ≤ to → ((k : ℕ) (v : A) → n + from ≤ k → k < n + to → f k v ≡ v) → partly f n from xs ≡ partly f n to xs
partly_passed f n zero zero xs le same = refl
partly_passed f n zero (suc to) [] le same = refl
partly_passed f n zero (suc to) (x ∷ xs) le same =
    let tail : xs ≡ partly f (n + 1) to xs = partly_passed f (n + 1) zero to xs (omega arith) (λ k v low high. same k v (omega (arith, low)) (omega (arith, high))) in
    (λ i. sym (same n x (omega arith) (omega arith)) i ∷ tail i)
partly_passed f n (suc from) zero xs le same = absurd (omega (arith, le))
partly_passed f n (suc from) (suc to) [] le same = refl
partly_passed f n (suc from) (suc to) (x ∷ xs) le same =
    ap (λ ys. f n x ∷ ys) (partly_passed f (n + 1) from to xs (omega (arith, le)) (λ k v low high. same k v (omega (arith, low)) (omega (arith, high))))

-- the pixels of places that a triangle does not cover
pub passed_over : (width state : ℕ) (f : Facing) (from to : ℕ) (ps : List Counted) → from ≤ to → ((k : ℕ) → from ≤ k → k < to → covers f.triangle (k % width) (k / width) ≡ false)
    → partly (place_change width state f) 0 from ps ≡ partly (place_change width state f) 0 to ps
passed_over width state f from to ps le none =
    partly_passed (place_change width state f) 0 from to ps le
    (λ k v low high. ap (λ b. if b then covered_count state f (k % width) (k / width) v else v) (none k (omega (arith, low)) (omega (arith, high))))

-- a covered pixel of a row
pub change_here : (width state : ℕ) (f : Facing) (x y : ℕ) (p : Counted) → x < width → covers f.triangle x y ≡ true
    → place_change width state f (y * width + x) p ≡ covered_count state f x y p
change_here width state f x y p lt c =
    (λ i. triangle_count state (mod-mul-add y width x lt i) (div-mul-add y width x lt i) p f)
    ∙ ap (λ b. if b then covered_count state f x y p else p) c

-- one pixel more: its word, and one more where its fragment passes
pub count_more : (g : ℕ → Counted → Counted) (k state stencil depth : ℕ) (words : List ℕ) (n : ℕ) (ps : List Counted) (word bit : ℕ)
    → Stand words n (partly g 0 k ps) → k < length words
    → ((p : Counted) → g k p ≡ after_fragment state stencil depth p)
    → word ≡ word_of (pixel_step (pixel_of (get_or words k 0)) (record { color = white; depth = depth }) state stencil)
    → bit ≡ (if passes_tests (Some (get_or words k 0)) depth state stencil then 1 else 0)
    → Stand (set words k word) (n + bit) (partly g 0 (k + 1) ps)
count_more g k state stencil depth words n ps word bit stand lt here is_word is_bit =
    let qs = partly g 0 k ps in
    let nothing : Counted = record { word = 0; passed = 0 } in
    let old : Counted = get_or qs k nothing in
    let new : Counted = after_fragment state stencil depth old in
    let long : length words ≡ length qs = ap length stand.words_are ∙ length-map qs (λ p. p.word) in
    let inside : k < length qs = omega (arith, lt, long) in
    let all : length qs ≡ length ps = length-partly g 0 k ps in
    let before : get_or words k 0 ≡ old.word = ap (λ ws. get_or ws k 0) stand.words_are ∙ lists.get_or-map (λ (p : Counted). p.word) qs k nothing 0 inside in
    let value : word ≡ new.word = is_word ∙ ap (λ w. word_of (pixel_step (pixel_of w) (record { color = white; depth = depth }) state stencil)) before in
    let more : old.passed + bit ≡ new.passed = ap (λ b. old.passed + b) (is_bit ∙ ap (λ w. if passes_tests (Some w) depth state stencil then 1 else 0) before) in
    let stepped : set qs k new ≡ partly g 0 (k + 1) ps = partly-set g k ps qs new nothing refl (sym (here old)) (omega (arith, inside, all)) in
    let total : passed_in (set qs k new) + old.passed ≡ passed_in qs + new.passed = sum_by-set (λ (p : Counted). p.passed) qs k new nothing inside in
    record {
      words_are = (λ i. set (stand.words_are i) k (value i)) ∙ sym (map-set (λ (p : Counted). p.word) qs k new) ∙ ap words_in stepped;
      passed_is = (let e : n + bit ≡ passed_in (set qs k new) = omega (arith, stand.passed_is, total, more) in e) ∙ ap passed_in stepped;
    }

next_wide : (s x r d : ℕ) → ((s + x * r + d) % 2 ^ 128 + r) % 2 ^ 128 ≡ (s + (x + 1) * r + d) % 2 ^ 128
next_wide s x r d = omega arith

-- a ramp one column on
pub wide_more : (r : WideRamp) (x y v : ℕ) → v ≡ wide_at r x y → (v + r.right) % 2 ^ 128 ≡ wide_at r (x + 1) y
wide_more r x y v e = ap (λ n. (n + r.right) % 2 ^ 128) e ∙ next_wide r.start x r.right (y * r.down)

false_unless : (b : Bool) → (b ≡ true → ⊥) → b ≡ false
false_unless true h = absurd (h refl)
false_unless false h = refl

-- places of rows that a triangle does not cover
pub rows_free : (w height from to : ℕ) (f : Facing) → 0 < w → to ≤ height → ((x y : ℕ) → from ≤ y → y < to → covers f.triangle x y ≡ true → ⊥)
    → (k : ℕ) → from * w ≤ k → k < to * w → covers f.triangle (k % w) (k / w) ≡ false
rows_free w height from to f some le none k low high =
    let below : k / w < to = div_below k w to some high in
    let above : from ≤ k / w = le-div from k w some low in
    false_unless (covers f.triangle (k % w) (k / w)) (λ c. none (k % w) (k / w) above below c)

-- places of a row's columns that a triangle does not cover
pub columns_free : (w y from to : ℕ) (f : Facing) → to ≤ w → ((x : ℕ) → from ≤ x → x < to → covers f.triangle x y ≡ false)
    → (k : ℕ) → y * w + from ≤ k → k < y * w + to → covers f.triangle (k % w) (k / w) ≡ false
columns_free w y from to f le none k low high =
    let x = k - y * w in
    let place : y * w + x ≡ k = omega (arith, low) in
    let inside : x < w = omega (arith, low, high, le) in
    ap (λ j. covers f.triangle (j % w) (j / w)) (sym place)
    ∙ (λ i. covers f.triangle (mod-mul-add y w x inside i) (div-mul-add y w x inside i))
    ∙ none x (omega (arith, low)) (omega (arith, low, high))

-- the pixels stand, the places in between left out
pub stand_over : (width state : ℕ) (f : Facing) (words : List ℕ) (n m from to : ℕ) (ps : List Counted) → n ≡ m → from ≤ to → ((k : ℕ) → from ≤ k → k < to → covers f.triangle (k % width) (k / width) ≡ false)
    → Stand words n (partly (place_change width state f) 0 from ps) → Stand words m (partly (place_change width state f) 0 to ps)
stand_over width state f words n m from to ps same le none stand =
    subst (λ j. Stand words j (partly (place_change width state f) 0 to ps)) same
    (subst (Stand words n) (passed_over width state f from to ps le none) stand)

-- all pixels are counted
pub stand_done : (g : ℕ → Counted → Counted) (old words : List ℕ) (start n i : ℕ) (ps : List Counted) → Stand old start ps → i ≡ length old → Stand words n (partly g 0 i ps) → Stand words n (map_from g 0 ps)
stand_done g old words start n i ps first long stand =
    let all : i ≡ length ps = long ∙ ap length first.words_are ∙ length-map ps (λ p. p.word) in
    subst (Stand words n) (partly-done g i ps (partly g 0 i ps) refl all) stand

-- a column outside the ends of a row is not covered
pub outside_left : (c : Bool) (first after x : ℕ) → c ≡ (nat_le first x && nat_lt x after) → x < first → c ≡ false
outside_left c first after x e lt = e ∙ ap (λ b. b && nat_lt x after) (lt-leb first x lt)

pub outside_right : (c : Bool) (first after x : ℕ) → c ≡ (nat_le first x && nat_lt x after) → after ≤ x → c ≡ false
outside_right c first after x e le = e ∙ and_right (nat_le first x) (nat_lt x after) (le-ltb x after le)

-- a column between the ends is
pub between : (c : Bool) (first after x : ℕ) → c ≡ (nat_le first x && nat_lt x after) → first ≤ x → x < after → c ≡ true
between c first after x e a b = e ∙ and_from (nat_le first x) (nat_lt x after) (le-leb first x a) (lt-ltb x after b)
