-- Bands of which rectangles are cleared.
use Rattle.std.proofs.Common.{◌≡◌, ℕ, ◌+◌, ◌*◌, ◌/◌, ◌%◌, ◌^◌, ◌<◌, ◌≤◌, Bool, true, false, if◌then◌else◌, List, [], ◌∷◌, map, length, slice_index_or, slice_set, bit_and, Some, refl, ap, sym, ◌∙◌, arith}
use Rattle.std.proofs.lemmas.List.{length-map, map-set}
use Rattle.std.proofs.Math.ListN.{get_or-map}
use Rattle.std.proofs.lemmas.Nat.{and_mask}
use Rattle.std.proofs.lemmas.Nat.Bits.{and_high_mask}
use Rattle.gfx_model.specs.Number.{map_from, is_bit_set}
use Rattle.gfx_model.specs.Vertex.{Color}
use Rattle.gfx_model.specs.Views.{Clear}
use Rattle.gfx_model.specs.Raster.{contains}
use Rattle.gfx_model.specs.World.{cleared, cleared_color, cleared_word}
use Rattle.int_raster.specs.Places.{flat_pixel, flat_pixels, deep_pixel, deep_pixels, by_place, below, in_row, spanned}
use Rattle.int_raster.specs.Wiping.{Wiping, wiped_step, wiped_color, wiped_word, word_in}
use Rattle.int_raster.proofs.Changes.{map_from-none, span_more}
use Rattle.int_raster.proofs.Along.{at_place}

if_same : {A : Type 0} (b : Bool) (u v : A) → u ≡ v → (if b then u else v) ≡ v
if_same true u v e = e
if_same false u v e = refl

-- a clear that takes no colours
color_stays : (c : Clear) (old : Color) → is_bit_set c.flags 0 ≡ false → cleared_color c old ≡ old
color_stays c old e = rw e refl

pub colors_stay : (wi : Wiping) (w top : ℕ) (cs : List Color) → is_bit_set wi.clear.flags 0 ≡ false → cs ≡ map_from (by_place w (below top (wiped_color wi))) 0 cs
colors_stay wi w top cs e =
    sym (map_from-none (by_place w (below top (wiped_color wi))) 0 cs (λ k c b. if_same (contains wi.cut ((0 + k) % w) (top + (0 + k) / w)) (cleared_color wi.clear c) c (color_stays wi.clear c e)))

-- a clear that takes neither depths nor stencils
word_stays : (c : Clear) (word : ℕ) → is_bit_set c.flags 1 ≡ false → is_bit_set c.flags 2 ≡ false → cleared_word c word ≡ word
word_stays c word e f = rw (e, f) (omega arith)

pub words_stay : (wi : Wiping) (w top : ℕ) (words : List ℕ) → is_bit_set wi.clear.flags 1 ≡ false → is_bit_set wi.clear.flags 2 ≡ false → words ≡ map_from (by_place w (below top (wiped_word wi))) 0 words
words_stay wi w top words e f =
    sym (map_from-none (by_place w (below top (wiped_word wi))) 0 words (λ k v b. if_same (contains wi.cut ((0 + k) % w) (top + (0 + k) / w)) (cleared_word wi.clear v) v (word_stays wi.clear v e f)))

-- ---- what a mask leaves of a depth word, and a number that comes to it

-- depth and stencil are set
pub set_both : (c : Clear) (w : ℕ) → is_bit_set c.flags 1 ≡ true → is_bit_set c.flags 2 ≡ true → bit_and w 0 + (c.depth + c.stencil * 16777216) ≡ cleared_word c w
set_both c w e f =
    let none : bit_and w 0 ≡ w % 1 = and_mask w 0 in
    rw (e, f) (omega (arith, none))

-- the depth is set, the stencil stays
pub set_depth : (c : Clear) (w : ℕ) → w < 2 ^ 32 → is_bit_set c.flags 1 ≡ true → is_bit_set c.flags 2 ≡ false → bit_and w 4278190080 + c.depth ≡ cleared_word c w
set_depth c w h e f =
    let high : bit_and w 4278190080 ≡ w / 16777216 * 16777216 = and_high_mask 32 24 (omega arith) w h in
    rw (e, f) (omega (arith, high))

-- the stencil is set, the depth stays
pub set_stencil : (c : Clear) (w : ℕ) → is_bit_set c.flags 1 ≡ false → is_bit_set c.flags 2 ≡ true → bit_and w 16777215 + c.stencil * 16777216 ≡ cleared_word c w
set_stencil c w e f =
    let low : bit_and w 16777215 ≡ w % 16777216 = and_mask w 24 in
    rw (e, f) (omega (arith, low))

-- both stay
pub set_none : (c : Clear) (w : ℕ) → w < 2 ^ 32 → is_bit_set c.flags 1 ≡ false → is_bit_set c.flags 2 ≡ false → bit_and w 4294967295 + 0 ≡ cleared_word c w
set_none c w h e f =
    let all : bit_and w 4294967295 ≡ w % 4294967296 = and_mask w 32 in
    rw (e, f) (omega (arith, all, h))

if_below : (b : Bool) (u v most : ℕ) → u ≤ most → v ≤ most → (if b then u else v) ≤ most
if_below true u v most p q = p
if_below false u v most p q = q

-- a cleared word is a word
pub cleared_fits : (c : Clear) (w n : ℕ) → n ≡ cleared_word c w → w < 2 ^ 32 → c.depth ≤ 16777215 → c.stencil ≤ 255 → n < 2 ^ 32
cleared_fits c w n is h few small =
    let depth = if_below (is_bit_set c.flags 1) c.depth (w % 2 ^ 24) 16777215 few (omega arith) in
    let stencil = if_below (is_bit_set c.flags 2) c.stencil (w / 2 ^ 24) 255 small (omega (arith, h)) in
    omega (arith, is, depth, stencil)

-- one depth word more
pub word_more : (f : ℕ → ℕ → ℕ → ℕ) (start y first x : ℕ) (old now : List Color) (z : Color) →
    map word_in now ≡ map_from (spanned (in_row start y f) (start + first) (start + x)) 0 (map word_in old) →
    first ≤ x → start + x < length old →
    word_in z ≡ f x y (word_in (slice_index_or now (start + x) [])) →
    map word_in (slice_set now (start + x) z) ≡ map_from (spanned (in_row start y f) (start + first) (start + (x + 1))) 0 (map word_in old)
word_more f start y first x old now z e a b h =
    let next : start + x + 1 ≡ start + (x + 1) = omega arith in
    let inside : start + x < length (map word_in old) = rw (length-map old word_in) b in
    map-set word_in now (start + x) z
    ∙ span_more (in_row start y f) (start + first) (start + x) (map word_in old) (map word_in now) (word_in z) (word_in []) e (omega arith) inside
    (h ∙ at_place f start y x (word_in (slice_index_or now (start + x) [])) ∙ ap (in_row start y f (start + x)) (sym (get_or-map word_in now (start + x) [])))
    ∙ ap (λ n. map_from (spanned (in_row start y f) (start + first) n) 0 (map word_in old)) next

-- the pixels of cleared colours
flat_one : (c : Clear) (b : Bool) (o : Color) → flat_pixel (if b then cleared_color c o else o) ≡ (if b then cleared c (flat_pixel o) else flat_pixel o)
flat_one c true o = refl
flat_one c false o = refl

pub flat_wiped_pixels : (wi : Wiping) (w top n : ℕ) (cs : List Color) → flat_pixels (map_from (by_place w (below top (wiped_color wi))) n cs) ≡ map_from (by_place w (below top (wiped_step wi))) n (flat_pixels cs)
flat_wiped_pixels wi w top n [] = refl
flat_wiped_pixels wi w top n (c ∷ cs) = (λ i. flat_one wi.clear (contains wi.cut (n % w) (top + n / w)) c i ∷ flat_wiped_pixels wi w top (n + 1) cs i)

-- the pixels of cleared colours with cleared depth words
deep_one : (c : Clear) (b : Bool) (o z d : Color) → word_in d ≡ (if b then cleared_word c (word_in z) else word_in z)
    → deep_pixel (if b then cleared_color c o else o) d ≡ (if b then cleared c (deep_pixel o z) else deep_pixel o z)
deep_one c true o z d e = λ i. record { color = cleared_color c o; depth = Some (e i) }
deep_one c false o z d e = λ i. record { color = o; depth = Some (e i) }

pub deep_wiped_pixels : (wi : Wiping) (w top n : ℕ) (cs before after : List Color) → map word_in after ≡ map_from (by_place w (below top (wiped_word wi))) n (map word_in before)
    → deep_pixels (map_from (by_place w (below top (wiped_color wi))) n cs) after ≡ map_from (by_place w (below top (wiped_step wi))) n (deep_pixels cs before)
deep_wiped_pixels wi w top n [] before after e = refl
deep_wiped_pixels wi w top n (o ∷ cs) [] [] e = refl
deep_wiped_pixels wi w top n (o ∷ cs) [] (d ∷ after) e = cc e
deep_wiped_pixels wi w top n (o ∷ cs) (b ∷ before) [] e = cc e
deep_wiped_pixels wi w top n (o ∷ cs) (b ∷ before) (d ∷ after) e =
    let head : word_in d ≡ by_place w (below top (wiped_word wi)) n (word_in b) = cc e in
    let rest : map word_in after ≡ map_from (by_place w (below top (wiped_word wi))) (n + 1) (map word_in before) = cc e in
    (λ i. deep_one wi.clear (contains wi.cut (n % w) (top + n / w)) o b d head i ∷ deep_wiped_pixels wi w top (n + 1) cs before after rest i)
