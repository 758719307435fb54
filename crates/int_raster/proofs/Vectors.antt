-- Four words at a time.
use Rattle.std.proofs.Common.{◌≡◌, ◌≤◌, ℕ, zero, suc, ◌<◌, ◌+◌, ◌-◌, ◌*◌, ◌/◌, ◌%◌, ◌^◌, List, [], ◌∷◌, map, length, slice_index, Bool, true, false, cond, ◌&&◌, nat_lt, nat_le, if◌then◌else◌, bit_and, refl, sym, ap, ◌∙◌, arith}
use Rattle.std.proofs.lemmas.Nat.{and_mask}
use Rattle.std.proofs.lemmas.Nat.Bits.{and_high_mask}
use Rattle.std.proofs.lemmas.Bool.{cases_lt, lt-leb}
use Rattle.std.proofs.lemmas.Bool.Decides.{nat_tests}
use Rattle.int_raster.specs.Tiled.{deep_word, is_among, deep_of, is_within}
use lib.Lanes.{zip2, sel_l, top}
use mathlib.Core.Logic.{inl, inr}

-- what holds of each of the four lanes
pub below_four : (P : ℕ → Type 0) → P 0 → P 1 → P 2 → P 3 → (j : ℕ) → j < 4 → P j
below_four P p0 p1 p2 p3 zero h = p0
below_four P p0 p1 p2 p3 (suc zero) h = p1
below_four P p0 p1 p2 p3 (suc (suc zero)) h = p2
below_four P p0 p1 p2 p3 (suc (suc (suc zero))) h = p3
below_four P p0 p1 p2 p3 (suc (suc (suc (suc n)))) h = absurd (omega arith)

-- what holds of each list of four elements
pub four_lanes : (P : List ℕ → Type 0) → ((a b c d : ℕ) → P (a ∷ b ∷ c ∷ d ∷ [])) → (xs : List ℕ) → length xs ≡ 4 → P xs
four_lanes P p (a ∷ b ∷ c ∷ d ∷ []) h = p a b c d
four_lanes P p [] h = absurd (omega arith)
four_lanes P p (a ∷ []) h = absurd (omega arith)
four_lanes P p (a ∷ b ∷ []) h = absurd (omega arith)
four_lanes P p (a ∷ b ∷ c ∷ []) h = absurd (omega arith)
four_lanes P p (a ∷ b ∷ c ∷ d ∷ e ∷ xs) h = absurd (omega arith)

-- what holds of each of two lanes
pub below_two : (P : ℕ → Type 0) → P 0 → P 1 → (j : ℕ) → j < 2 → P j
below_two P p0 p1 zero h = p0
below_two P p0 p1 (suc zero) h = p1
below_two P p0 p1 (suc (suc n)) h = absurd (omega arith)

-- each lane of one number
pub splat_two : (n j : ℕ) → j < 2 → slice_index (n ∷ n ∷ []) j ≡ n
splat_two n = below_two (λ j. slice_index (n ∷ n ∷ []) j ≡ n) refl refl

-- each lane of words that are shifted down
pub shifted : (n : ℕ) (words : List ℕ) → length words ≡ 4 → (j : ℕ) → j < 4 → slice_index (zip2 (λ x y. x / 2 ^ y) words (n ∷ n ∷ n ∷ n ∷ [])) j ≡ slice_index words j / 2 ^ n
shifted n = four_lanes (λ words. (j : ℕ) → j < 4 → slice_index (zip2 (λ x y. x / 2 ^ y) words (n ∷ n ∷ n ∷ n ∷ [])) j ≡ slice_index words j / 2 ^ n) (λ a b c d. below_four _ refl refl refl refl)

-- a lane of a mask
abbrev pub masked : Bool → ℕ
masked b = cond b 4294967295 0

-- how far a word's depth lies behind the least, around 2^32
abbrev behind : (least w : ℕ) → ℕ
behind least w = (bit_and w 16777215 + (4294967296 - least)) % 4294967296

-- a distance around 2^32 is small where the depth is one of those from the least on
around : (least more s : ℕ) → s < 16777216 → least ≤ 16777216 → more ≤ 16777215 → nat_le ((s + (4294967296 - least)) % 4294967296) more ≡ is_among least more s
around least more s small low few = elim (cases_lt s least) [
  | inl less ↦
      let far : (s + (4294967296 - least)) % 4294967296 ≡ s + 4294967296 - least = omega (arith, less, low) in
      ap (λ n. nat_le n more) far ∙ lt-leb (s + 4294967296 - least) more (omega (arith, less, low, few)) ∙ ap (λ b. b && nat_le s (least + more)) (sym (lt-leb least s less))
  | inr more_than ↦
      let near : (s + (4294967296 - least)) % 4294967296 ≡ s - least = omega (arith, more_than, low, small) in
      ap (λ n. nat_le n more) near ∙ grind (arith, nat_tests)
]

-- the distance of a word's depth
distance : (least more w : ℕ) → least ≤ 16777216 → more ≤ 16777215 → nat_le (behind least w) more ≡ is_among least more (w % 16777216)
distance least more w low few =
    ap (λ n. nat_le ((n + (4294967296 - least)) % 4294967296) more) (and_mask w 24) ∙ around least more (w % 16777216) (omega arith) low few

-- a lane where two masks hold is the first's, and else the second's
lane_of : (a b : Bool) (x y : ℕ) → cond (top 31 (bit_and (masked a) (masked b))) x y ≡ (if a && b then x else y)
lane_of true true x y = refl
lane_of true false x y = refl
lane_of false true x y = refl
lane_of false false x y = refl

lane : (a : Bool) (least more w x y : ℕ) → least ≤ 16777216 → more ≤ 16777215
    → cond (top 31 (bit_and (masked a) (masked (nat_le (behind least w) more)))) x y ≡ (if a && is_among least more (w % 16777216) then x else y)
lane a least more w x y low few = lane_of a (nat_le (behind least w) more) x y ∙ ap (λ b. if a && b then x else y) (distance least more w low few)

abbrev pub Keeps : ℕ → ℕ → ℕ → List ℕ → List ℕ → List ℕ → Type 0
Keeps left least more old new words = (j : ℕ) → j < 4
    → slice_index (sel_l (map (top 31) (zip2 bit_and (masked (nat_lt 0 left) ∷ masked (nat_lt 1 left) ∷ masked (nat_lt 2 left) ∷ masked (nat_lt 3 left) ∷ [])
    (zip2 (λ a b. masked (nat_le a b)) (zip2 (λ x y. (x + (4294967296 - y)) % 4294967296) (zip2 bit_and words (16777215 ∷ 16777215 ∷ 16777215 ∷ 16777215 ∷ [])) (least ∷ least ∷ least ∷ least ∷ []))
    (more ∷ more ∷ more ∷ more ∷ [])))) new old) j
    ≡ (if nat_lt j left && is_among least more (slice_index words j % 16777216) then slice_index new j else slice_index old j)

pub keeps : (left least more : ℕ) → least ≤ 16777216 → more ≤ 16777215
    → (old : List ℕ) → length old ≡ 4 → (new : List ℕ) → length new ≡ 4 → (words : List ℕ) → length words ≡ 4 → Keeps left least more old new words
keeps left least more low few =
    four_lanes (λ old. (new : List ℕ) → length new ≡ 4 → (words : List ℕ) → length words ≡ 4 → Keeps left least more old new words) (λ a0 a1 a2 a3.
    four_lanes (λ new. (words : List ℕ) → length words ≡ 4 → Keeps left least more (a0 ∷ a1 ∷ a2 ∷ a3 ∷ []) new words) (λ b0 b1 b2 b3.
    four_lanes (λ words. Keeps left least more (a0 ∷ a1 ∷ a2 ∷ a3 ∷ []) (b0 ∷ b1 ∷ b2 ∷ b3 ∷ []) words) (λ w0 w1 w2 w3.
    below_four _
    (lane (nat_lt 0 left) least more w0 b0 a0 low few)
    (lane (nat_lt 1 left) least more w1 b1 a1 low few)
    (lane (nat_lt 2 left) least more w2 b2 a2 low few)
    (lane (nat_lt 3 left) least more w3 b3 a3 low few))))

-- a lane where a mask holds is the first's, and else the second's
lane_where : (b : Bool) (x y : ℕ) → cond (top 31 (masked b)) x y ≡ (if b then x else y)
lane_where true x y = refl
lane_where false x y = refl

abbrev pub KeepsFirst : ℕ → List ℕ → List ℕ → Type 0
KeepsFirst left old new = (j : ℕ) → j < 4
    → slice_index (sel_l (map (top 31) (masked (nat_lt 0 left) ∷ masked (nat_lt 1 left) ∷ masked (nat_lt 2 left) ∷ masked (nat_lt 3 left) ∷ [])) new old) j ≡ (if nat_lt j left then slice_index new j else slice_index old j)

pub keeps_first : (left : ℕ) (old : List ℕ) → length old ≡ 4 → (new : List ℕ) → length new ≡ 4 → KeepsFirst left old new
keeps_first left =
    four_lanes (λ old. (new : List ℕ) → length new ≡ 4 → KeepsFirst left old new) (λ a0 a1 a2 a3.
    four_lanes (λ new. KeepsFirst left (a0 ∷ a1 ∷ a2 ∷ a3 ∷ []) new) (λ b0 b1 b2 b3.
    below_four _
    (lane_where (nat_lt 0 left) b0 a0)
    (lane_where (nat_lt 1 left) b1 a1)
    (lane_where (nat_lt 2 left) b2 a2)
    (lane_where (nat_lt 3 left) b3 a3)))

-- each lane of words whose bits are taken and added to
abbrev pub Deep : (bits depth : ℕ) → List ℕ → Type 0
Deep bits depth words = (j : ℕ) → j < 4
    → slice_index (zip2 (λ x y. (x + y) % 4294967296) (zip2 bit_and words (bits ∷ bits ∷ bits ∷ bits ∷ [])) (depth ∷ depth ∷ depth ∷ depth ∷ [])) j ≡ deep_word bits depth (slice_index words j)

pub deep_words : (bits depth : ℕ) (words : List ℕ) → length words ≡ 4 → Deep bits depth words
deep_words bits depth = four_lanes (Deep bits depth) (λ a b c d. below_four _ refl refl refl refl)

-- a word whose depth is another, and its stencil the same
pub other_depth : (word depth : ℕ) → word < 2 ^ 32 → depth ≤ 16777215 → deep_word 4278190080 depth word ≡ depth + 2 ^ 24 * (word / 2 ^ 24)
other_depth word depth h few =
    let high : bit_and word 4278190080 ≡ word / 16777216 * 16777216 = and_high_mask 32 24 (omega arith) word h in
    omega (arith, high)

-- a word as it was
pub same_depth : (word : ℕ) → word < 2 ^ 32 → deep_word 4294967295 0 word ≡ word % 2 ^ 24 + 2 ^ 24 * (word / 2 ^ 24)
same_depth word h =
    let all : bit_and word 4294967295 ≡ word % 4294967296 = and_mask word 32 in
    omega (arith, all, h)

-- a distance around 2^32, of a word's depth from a new one
abbrev far_from : (least new word : ℕ) → ℕ
far_from least new word = ((bit_and word 16777215 + (4294967296 - new)) % 4294967296 + (4294967296 - least)) % 4294967296

lane_within : (a : Bool) (least more new w x y : ℕ)
    → cond (top 31 (bit_and (masked a) (masked (nat_le (far_from least new w) more)))) x y ≡ (if a && is_within least more new (w % 16777216) then x else y)
lane_within a least more new w x y =
    lane_of a (nat_le (far_from least new w) more) x y
    ∙ ap (λ n. if a && nat_le (((n + (4294967296 - new)) % 4294967296 + (4294967296 - least)) % 4294967296) more then x else y) (and_mask w 24)

abbrev pub KeepsWithin : ℕ → ℕ → ℕ → List ℕ → List ℕ → List ℕ → List ℕ → Type 0
KeepsWithin left least more old new words depths = (j : ℕ) → j < 4
    → slice_index (sel_l (map (top 31) (zip2 bit_and (masked (nat_lt 0 left) ∷ masked (nat_lt 1 left) ∷ masked (nat_lt 2 left) ∷ masked (nat_lt 3 left) ∷ [])
    (zip2 (λ a b. masked (nat_le a b))
    (zip2 (λ x y. (x + (4294967296 - y)) % 4294967296) (zip2 (λ x y. (x + (4294967296 - y)) % 4294967296) (zip2 bit_and words (16777215 ∷ 16777215 ∷ 16777215 ∷ 16777215 ∷ [])) depths) (least ∷ least ∷ least ∷ least ∷ []))
    (more ∷ more ∷ more ∷ more ∷ [])))) new old) j
    ≡ (if nat_lt j left && is_within least more (slice_index depths j) (slice_index words j % 16777216) then slice_index new j else slice_index old j)

pub keeps_within : (left least more : ℕ)
    → (old : List ℕ) → length old ≡ 4 → (new : List ℕ) → length new ≡ 4 → (words : List ℕ) → length words ≡ 4 → (depths : List ℕ) → length depths ≡ 4 → KeepsWithin left least more old new words depths
keeps_within left least more =
    four_lanes (λ old. (new : List ℕ) → length new ≡ 4 → (words : List ℕ) → length words ≡ 4 → (depths : List ℕ) → length depths ≡ 4 → KeepsWithin left least more old new words depths) (λ a0 a1 a2 a3.
    four_lanes (λ new. (words : List ℕ) → length words ≡ 4 → (depths : List ℕ) → length depths ≡ 4 → KeepsWithin left least more (a0 ∷ a1 ∷ a2 ∷ a3 ∷ []) new words depths) (λ b0 b1 b2 b3.
    four_lanes (λ words. (depths : List ℕ) → length depths ≡ 4 → KeepsWithin left least more (a0 ∷ a1 ∷ a2 ∷ a3 ∷ []) (b0 ∷ b1 ∷ b2 ∷ b3 ∷ []) words depths) (λ w0 w1 w2 w3.
    four_lanes (λ depths. KeepsWithin left least more (a0 ∷ a1 ∷ a2 ∷ a3 ∷ []) (b0 ∷ b1 ∷ b2 ∷ b3 ∷ []) (w0 ∷ w1 ∷ w2 ∷ w3 ∷ []) depths) (λ d0 d1 d2 d3.
    below_four _
    (lane_within (nat_lt 0 left) least more d0 w0 b0 a0)
    (lane_within (nat_lt 1 left) least more d1 w1 b1 a1)
    (lane_within (nat_lt 2 left) least more d2 w2 b2 a2)
    (lane_within (nat_lt 3 left) least more d3 w3 b3 a3)))))

-- each lane of words and depths whose bits are taken and added
abbrev pub Deeper : (bits taken : ℕ) → List ℕ → List ℕ → Type 0
Deeper bits taken words depths = (j : ℕ) → j < 4
    → slice_index (zip2 (λ x y. (x + y) % 4294967296) (zip2 bit_and words (bits ∷ bits ∷ bits ∷ bits ∷ [])) (zip2 bit_and depths (taken ∷ taken ∷ taken ∷ taken ∷ []))) j
    ≡ deep_of bits taken (slice_index depths j) (slice_index words j)

pub deeper_words : (bits taken : ℕ) (words : List ℕ) → length words ≡ 4 → (depths : List ℕ) → length depths ≡ 4 → Deeper bits taken words depths
deeper_words bits taken =
    four_lanes (λ words. (depths : List ℕ) → length depths ≡ 4 → Deeper bits taken words depths) (λ a b c d.
    four_lanes (λ depths. Deeper bits taken (a ∷ b ∷ c ∷ d ∷ []) depths) (λ e f g h. below_four _ refl refl refl refl))

-- the numbers of texels in columns, the lower halves of words, and rows, the upper ones
number_there : (p w : ℕ) → (p / 65536 * w % 4294967296 + bit_and p 65535) % 4294967296 ≡ (p / 65536 * w + p % 65536) % 4294967296
number_there p w = omega (arith, and_mask p 16)

abbrev Numbers : List ℕ → List ℕ → Type 0
Numbers places width = (j : ℕ) → j < 4
    → slice_index (zip2 (λ x y. (x + y) % 4294967296) (zip2 (λ x y. x * y % 4294967296) (zip2 (λ x y. x / 2 ^ y) places (16 ∷ 16 ∷ 16 ∷ 16 ∷ [])) width) (zip2 bit_and places (65535 ∷ 65535 ∷ 65535 ∷ 65535 ∷ []))) j
    ≡ (slice_index places j / 65536 * slice_index width j + slice_index places j % 65536) % 4294967296

pub numbers_there : (places : List ℕ) → length places ≡ 4 → (width : List ℕ) → length width ≡ 4 → Numbers places width
numbers_there =
    four_lanes (λ places. (width : List ℕ) → length width ≡ 4 → Numbers places width) (λ p0 p1 p2 p3.
    four_lanes (λ width. Numbers (p0 ∷ p1 ∷ p2 ∷ p3 ∷ []) width) (λ w0 w1 w2 w3.
    below_four _ (number_there p0 w0) (number_there p1 w1) (number_there p2 w2) (number_there p3 w3)))
