-- Eight halves of words at a time.
use Rattle.std.proofs.Common.{◌≡◌, ◌≤◌, ◌<◌, ℕ, zero, suc, ◌+◌, ◌-◌, ◌*◌, ◌/◌, ◌%◌, ◌^◌, List, [], ◌∷◌, length, slice_index, Fits, w16, bit_and, refl, sym, ap, ◌∙◌, arith}
use Rattle.std.proofs.Math.Nat.{mul-le-mul_right}
use Rattle.std.proofs.lemmas.Nat.{and_mask}
use Rattle.std.proofs.lemmas.Simd.{get_or-zip2, length-zip2, below_from_Fits}
use Rattle.gfx_model.specs.Number.{byte_product}
use Rattle.int_raster.proofs.Halved.{lane_below}
use lib.Lanes.{Each1, zip2}

-- what holds of each of the eight lanes
below_eight : (P : ℕ → Type 0) → P 0 → P 1 → P 2 → P 3 → P 4 → P 5 → P 6 → P 7 → (j : ℕ) → j < 8 → P j
below_eight P a b c d e f g h zero l = a
below_eight P a b c d e f g h (suc zero) l = b
below_eight P a b c d e f g h (suc (suc zero)) l = c
below_eight P a b c d e f g h (suc (suc (suc zero))) l = d
below_eight P a b c d e f g h (suc (suc (suc (suc zero)))) l = e
below_eight P a b c d e f g h (suc (suc (suc (suc (suc zero))))) l = f
below_eight P a b c d e f g h (suc (suc (suc (suc (suc (suc zero)))))) l = g
below_eight P a b c d e f g h (suc (suc (suc (suc (suc (suc (suc zero))))))) l = h
below_eight P a b c d e f g h (suc (suc (suc (suc (suc (suc (suc (suc n)))))))) l = absurd (omega arith)

-- one number in each lane
abbrev pub eight : ℕ → List ℕ
eight n = n ∷ n ∷ n ∷ n ∷ n ∷ n ∷ n ∷ n ∷ []

pub eight_at : (n j : ℕ) → j < 8 → slice_index (eight n) j ≡ n
eight_at n = below_eight (λ j. slice_index (eight n) j ≡ n) refl refl refl refl refl refl refl refl

-- a lane of an operation on two vectors
pub lane_of_two : (f : ℕ → ℕ → ℕ) (a b : List ℕ) → length a ≡ 8 → length b ≡ 8 → (j : ℕ) → j < 8 → slice_index (zip2 f a b) j ≡ f (slice_index a j) (slice_index b j)
lane_of_two f a b m n j h = get_or-zip2 f a b j 0 0 0 (omega (arith, m, h)) (omega (arith, n, h))

-- and of one with one number
pub lane_with : (f : ℕ → ℕ → ℕ) (a : List ℕ) (n : ℕ) → length a ≡ 8 → (j : ℕ) → j < 8 → slice_index (zip2 f a (eight n)) j ≡ f (slice_index a j) n
lane_with f a n m j h = lane_of_two f a (eight n) m refl j h ∙ ap (f (slice_index a j)) (eight_at n j h)

pub low_byte : (a : List ℕ) → length a ≡ 8 → (j : ℕ) → j < 8 → slice_index (zip2 bit_and a (eight 255)) j ≡ slice_index a j % 256
low_byte a m j h = lane_with bit_and a 255 m j h ∙ and_mask (slice_index a j) 8

pub high_byte : (a : List ℕ) → length a ≡ 8 → (j : ℕ) → j < 8 → slice_index (zip2 (λ x y. x / 2 ^ y) a (eight 8)) j ≡ slice_index a j / 256
high_byte a m j h = lane_with (λ x y. x / 2 ^ y) a 8 m j h

-- a share of 255 by a product with 257
share_of_255 : (p : ℕ) → p ≤ 65025 → (p + 128) * 257 / 65536 ≡ (p + 127) / 255
share_of_255 p h = omega (arith, h)

pub product_at : (a b : List ℕ) → length a ≡ 8 → length b ≡ 8 → (j : ℕ) → j < 8 → slice_index a j < 256 → slice_index b j < 256
    → slice_index (zip2 (λ x y. (x + y) % 65536) (zip2 (λ x y. x * y % 65536) a b) (eight 128)) j * slice_index (eight 257) j / 65536 ≡ byte_product (slice_index a j) (slice_index b j)
product_at a b m n j h p q =
    let x = slice_index a j in
    let y = slice_index b j in
    let near : x ≤ 255 = omega (arith, p) in
    let most : x * y ≤ 255 * y = mul-le-mul_right y near in
    let small : x * y ≤ 65025 = omega (arith, most, q) in
    let sum : (x * y % 65536 + 128) % 65536 ≡ x * y + 128 = omega (arith, small) in
    ap (λ k. slice_index (zip2 (λ u v. (u + v) % 65536) (zip2 (λ u v. u * v % 65536) a b) (eight 128)) j * k / 65536) (eight_at 257 j h)
    ∙ ap (λ k. k * 257 / 65536) (lane_of_two (λ u v. (u + v) % 65536) (zip2 (λ u v. u * v % 65536) a b) (eight 128) (length-zip2 (λ u v. u * v % 65536) a b (m ∙ sym n) ∙ m) refl j h
    ∙ (λ i. (lane_of_two (λ u v. u * v % 65536) a b m n j h i + eight_at 128 j h i) % 65536) ∙ sum)
    ∙ share_of_255 (x * y) small

-- what is left of 255, lane by lane
pub left_of_255 : (a : List ℕ) → length a ≡ 8 → (j : ℕ) → j < 8 → slice_index a j < 256
    → slice_index (zip2 (λ x y. (x + (65536 - y)) % 65536) (eight 255) a) j ≡ 255 - slice_index a j
left_of_255 a m j h p =
    lane_of_two (λ x y. (x + (65536 - y)) % 65536) (eight 255) a refl m j h
    ∙ ap (λ k. (k + (65536 - slice_index a j)) % 65536) (eight_at 255 j h)
    ∙ omega (arith, p)

pub sum_of_two : (a b : List ℕ) → length a ≡ 8 → length b ≡ 8 → (j : ℕ) → j < 8 → slice_index (zip2 (λ x y. (x + y) % 65536) a b) j ≡ (slice_index a j + slice_index b j) % 65536
sum_of_two a b m n j h = lane_of_two (λ x y. (x + y) % 65536) a b m n j h

-- two channels in a half
pub two_channels : (even odd : List ℕ) → length even ≡ 8 → length odd ≡ 8 → (j : ℕ) → j < 8 → slice_index even j < 256 → slice_index odd j < 256
    → slice_index (zip2 (λ x y. (x + y) % 65536) even (zip2 (λ x y. x * 2 ^ y % 65536) odd (eight 8))) j ≡ slice_index even j + 256 * slice_index odd j
two_channels even odd m n j h p q =
    lane_of_two (λ x y. (x + y) % 65536) even (zip2 (λ x y. x * 2 ^ y % 65536) odd (eight 8)) m (length-zip2 (λ x y. x * 2 ^ y % 65536) odd (eight 8) n ∙ n) j h
    ∙ ap (λ k. (slice_index even j + k) % 65536) (lane_with (λ x y. x * 2 ^ y % 65536) odd 8 n j h)
    ∙ omega (arith, p, q)

-- the bytes of a word of four channels
pub four_bytes : (r a b c d : ℕ) → a < 256 → b < 256 → c < 256 → d < 256 → r ≡ a + 256 * b + 65536 * (c + 256 * d)
    → (r % 256 ∷ r / 256 % 256 ∷ r / 65536 % 256 ∷ r / 16777216 % 256 ∷ []) ≡ (a ∷ b ∷ c ∷ d ∷ [])
four_bytes r a b c d p q s t e =
    let ra : r % 256 ≡ a = omega (arith, p, q, s, t, e) in
    let rb : r / 256 % 256 ≡ b = omega (arith, p, q, s, t, e) in
    let rc : r / 65536 % 256 ≡ c = omega (arith, p, q, s, t, e) in
    let rd : r / 16777216 % 256 ≡ d = omega (arith, p, q, s, t, e) in
    (λ i. ra i ∷ rb i ∷ rc i ∷ rd i ∷ [])

pub half_byte : (a : List ℕ) → length a ≡ 8 → Each1 (Fits w16) a → (j : ℕ) → j < 8 → slice_index (zip2 (λ x y. x / 2 ^ y) a (eight 8)) j < 256
half_byte a m f j h =
    let small : slice_index a j < 2 ^ 16 = lane_below (2 ^ 16) a j (omega (arith, m, h)) (below_from_Fits w16 a f) in
    omega (arith, high_byte a m j h, small)
