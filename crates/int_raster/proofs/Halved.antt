-- Lanes that are taken as narrower or as wider ones.
use Rattle.std.proofs.Common.{◌≡◌, ◌≤◌, ◌<◌, ℕ, zero, suc, ◌+◌, ◌*◌, ◌/◌, ◌%◌, ◌^◌, ◌++◌, List, [], ◌∷◌, length, slice_index, Fits, w16, w32, max, map, cond, nat_lt, refl, sym, subst, ap, ◌∙◌, arith}
use Rattle.std.specs.Prelude.{replicate}
use Rattle.std.specs.Int.{to_le_bytes}
use Rattle.std.proofs.Math.Nat.{mod-lt, pow-suc, mul-le-mul_left, mul-le-mul_right}
use Rattle.std.proofs.lemmas.Bool.Decides.{nat_tests}
use Rattle.std.proofs.lemmas.Simd.{get_or_wider, get_or_narrower, below_from_Fits, tops_compared}
use lib.Lanes.{Each1, number_l, digits_l, chunk, pick_l, zip2, sel_l, top}
use Rattle.int_raster.proofs.Vectors.{below_two}

-- a number by its bytes
bytes_back : (n x : ℕ) → x < 256 ^ n → number_l 256 (digits_l 256 n x) ≡ x
bytes_back zero x h = omega (arith, h)
bytes_back (suc n) x h =
    let rest : x / 256 < 256 ^ n = omega (arith, h, pow-suc 256 n) in
    let e = bytes_back n (x / 256) rest in
    ap (λ m. x % 256 + 256 * m) e ∙ omega arith

four_below : (xs : List ℕ) → length xs ≡ 4 → Each1 (λ x. x < 2 ^ 32) xs → number_l (2 ^ 32) xs < 256 ^ 16
four_below (a ∷ b ∷ c ∷ d ∷ []) e f = omega (arith, f.0, f.1.0, f.1.1.0, f.1.1.1.0)
four_below [] e f = absurd (omega (arith, e))
four_below (a ∷ []) e f = absurd (omega (arith, e))
four_below (a ∷ b ∷ []) e f = absurd (omega (arith, e))
four_below (a ∷ b ∷ c ∷ []) e f = absurd (omega (arith, e))
four_below (a ∷ b ∷ c ∷ d ∷ x ∷ xs) e f = absurd (omega (arith, e))

-- the two halves of each of four words
part_is : (xs : List ℕ) → length xs ≡ 4 → Each1 (Fits w32) xs → (j i : ℕ) → i < 2 → 2 * j + i < 8
    → slice_index (digits_l (2 ^ 16) 8 (number_l 256 (digits_l 256 16 (number_l (2 ^ 32) xs)))) (2 * j + i) ≡ slice_index xs j / (2 ^ 16) ^ i % 2 ^ 16
part_is xs e f j i h k =
    let small : Each1 (λ x. x < 2 ^ 32) xs = below_from_Fits w32 xs f in
    ap (λ n. slice_index (digits_l (2 ^ 16) 8 n) (2 * j + i)) (bytes_back 16 (number_l (2 ^ 32) xs) (four_below xs e small))
    ∙ get_or_narrower (2 ^ 32) 2 (2 ^ 16) 8 xs j i (omega arith) small h k

pub lower_part : (xs : List ℕ) → length xs ≡ 4 → Each1 (Fits w32) xs → (j : ℕ) → j < 4
    → slice_index (digits_l (2 ^ 16) 8 (number_l 256 (digits_l 256 16 (number_l (2 ^ 32) xs)))) (2 * j) ≡ slice_index xs j % 2 ^ 16
lower_part xs e f j h =
    let place : 2 * j ≡ 2 * j + 0 = omega arith in
    ap (λ n. slice_index (digits_l (2 ^ 16) 8 (number_l 256 (digits_l 256 16 (number_l (2 ^ 32) xs)))) n) place ∙ part_is xs e f j 0 (omega arith) (omega (arith, h)) ∙ omega arith

-- a lane is as small as each
pub lane_below : (p : ℕ) (xs : List ℕ) (j : ℕ) → j < length xs → Each1 (λ x. x < p) xs → slice_index xs j < p
lane_below p [] j h f = absurd (omega (arith, h))
lane_below p (x ∷ xs) zero h f = f.0
lane_below p (x ∷ xs) (suc j) h f = lane_below p xs j (omega (arith, h)) f.1

pub upper_part : (xs : List ℕ) → length xs ≡ 4 → Each1 (Fits w32) xs → (j : ℕ) → j < 4
    → slice_index (digits_l (2 ^ 16) 8 (number_l 256 (digits_l 256 16 (number_l (2 ^ 32) xs)))) (2 * j + 1) ≡ slice_index xs j / 2 ^ 16
upper_part xs e f j h =
    let small : slice_index xs j < 2 ^ 32 = lane_below (2 ^ 32) xs j (omega (arith, e, h)) (below_from_Fits w32 xs f) in
    part_is xs e f j 1 (omega arith) (omega (arith, h)) ∙ omega (arith, small)

-- ---- eight halves as four words

two_joined : (i k : ℕ) (xs : List ℕ) → k ≡ suc i → k < length xs → number_l (2 ^ 16) (chunk i 2 xs) ≡ slice_index xs i + 2 ^ 16 * slice_index xs k
two_joined zero k (a ∷ b ∷ xs) e h = rw e (omega arith)
two_joined zero k (a ∷ []) e h = absurd (omega (arith, e, h))
two_joined zero k [] e h = absurd (omega (arith, h))
two_joined (suc i) k (x ∷ xs) e h = rw e (two_joined i (suc i) xs refl (omega (arith, e, h)))
two_joined (suc i) k [] e h = absurd (omega (arith, h))

eight_below : (xs : List ℕ) → length xs ≡ 8 → Each1 (λ x. x < 2 ^ 16) xs → number_l (2 ^ 16) xs < 256 ^ 16
eight_below (a ∷ b ∷ c ∷ d ∷ xs) e f = omega (arith, f.0, f.1.0, f.1.1.0, f.1.1.1.0, last xs (omega (arith, e)) f.1.1.1.1)
  where
    last : (xs : List ℕ) → length xs ≡ 4 → Each1 (λ x. x < 2 ^ 16) xs → number_l (2 ^ 16) xs < 2 ^ 64
    last (a ∷ b ∷ c ∷ d ∷ []) e f = omega (arith, f.0, f.1.0, f.1.1.0, f.1.1.1.0)
    last [] e f = absurd (omega (arith, e))
    last (a ∷ []) e f = absurd (omega (arith, e))
    last (a ∷ b ∷ []) e f = absurd (omega (arith, e))
    last (a ∷ b ∷ c ∷ []) e f = absurd (omega (arith, e))
    last (a ∷ b ∷ c ∷ d ∷ x ∷ xs) e f = absurd (omega (arith, e))
eight_below [] e f = absurd (omega (arith, e))
eight_below (a ∷ []) e f = absurd (omega (arith, e))
eight_below (a ∷ b ∷ []) e f = absurd (omega (arith, e))
eight_below (a ∷ b ∷ c ∷ []) e f = absurd (omega (arith, e))

pub joined_is : (xs : List ℕ) → length xs ≡ 8 → Each1 (Fits w16) xs → (j : ℕ) → j < 4
    → slice_index (digits_l (2 ^ 32) 4 (number_l 256 (digits_l 256 16 (number_l (2 ^ 16) xs)))) j ≡ slice_index xs (2 * j) + 2 ^ 16 * slice_index xs (2 * j + 1)
joined_is xs e f j h =
    let small : Each1 (λ x. x < 2 ^ 16) xs = below_from_Fits w16 xs f in
    ap (λ n. slice_index (digits_l (2 ^ 32) 4 n) j) (bytes_back 16 (number_l (2 ^ 16) xs) (eight_below xs e small))
    ∙ get_or_wider (2 ^ 16) 2 (2 ^ 32) 4 xs j (omega arith) small h
    ∙ two_joined (2 * j) (2 * j + 1) xs (omega arith) (omega (arith, e, h))

-- ---- the larger ones of halves

lane_larger : (x y : ℕ) → cond (nat_lt x y) y x ≡ max x y
lane_larger x y = grind (arith, nat_tests)

lanes_larger : (a b : List ℕ) → length a ≡ length b → (j : ℕ) → j < length a → slice_index (sel_l (zip2 nat_lt a b) b a) j ≡ max (slice_index a j) (slice_index b j)
lanes_larger [] b e j h = absurd (omega (arith, h))
lanes_larger (x ∷ xs) [] e j h = absurd (omega (arith, e))
lanes_larger (x ∷ xs) (y ∷ ys) e zero h = lane_larger x y
lanes_larger (x ∷ xs) (y ∷ ys) e (suc j) h = lanes_larger xs ys (omega (arith, e)) j (omega (arith, h))

pub parts_larger : (a : List ℕ) → length a ≡ 8 → (b : List ℕ) → length b ≡ 8 → (j : ℕ) → j < 8
    → slice_index (sel_l (map (top 15) (zip2 (λ x y. cond (nat_lt x y) 65535 0) a b)) b a) j ≡ max (slice_index a j) (slice_index b j)
parts_larger a e b f j h = ap (λ m. slice_index (sel_l m b a) j) (tops_compared w16 nat_lt a b) ∙ lanes_larger a b (e ∙ sym f) j (omega (arith, e, h))

-- ---- products of halves

product_small : (x y : ℕ) → x < 2 ^ 16 → y < 2 ^ 16 → x * y < 2 ^ 32
product_small x y h k = omega (arith, mul-le-mul_left x (below_top y k), mul-le-mul_right (2 ^ 16) (below_top x h))
  where
    below_top : (n : ℕ) → n < 2 ^ 16 → n ≤ 2 ^ 16
    below_top n h = omega (arith, h)

abbrev shares : List ℕ → List ℕ → List ℕ → List ℕ
shares a b n = zip2 (λ x y. x / 2 ^ y) (zip2 (λ x y. x * y % 2 ^ 32) a b) n

share_is : (a b : List ℕ) (j : ℕ) → j < length a → length a ≡ length b → Each1 (λ x. x < 2 ^ 16) a → Each1 (λ x. x < 2 ^ 16) b
    → slice_index (shares a b (replicate (length a) 16)) j ≡ slice_index a j * slice_index b j / 2 ^ 16
share_is [] b j h e f g = absurd (omega (arith, h))
share_is (x ∷ xs) [] j h e f g = absurd (omega (arith, e))
share_is (x ∷ xs) (y ∷ ys) zero h e f g = omega (arith, product_small x y f.0 g.0)
share_is (x ∷ xs) (y ∷ ys) (suc j) h e f g = share_is xs ys j (omega (arith, h)) (omega (arith, e)) f.1 g.1

shares_small : (a b : List ℕ) → length a ≡ length b → Each1 (λ x. x < 2 ^ 16) a → Each1 (λ x. x < 2 ^ 16) b → Each1 (Fits w16) (shares a b (replicate (length a) 16))
shares_small [] b e f g = tt
shares_small (x ∷ xs) [] e f g = tt
shares_small (x ∷ xs) (y ∷ ys) e f g = (record { fits = omega (arith, product_small x y f.0 g.0) }, shares_small xs ys (omega (arith, e)) f.1 g.1)

same_lanes : (xs : List ℕ) → map (λ x. x) xs ≡ xs
same_lanes [] = refl
same_lanes (x ∷ xs) = ap (λ l. x ∷ l) (same_lanes xs)

module _ (a b : List ℕ) (e : length a ≡ 8) (f : Each1 (Fits w16) a) (g : length b ≡ 8) (h : Each1 (Fits w16) b) where
  abbrev wide : List ℕ → List ℕ
  wide xs = map (λ x. x) xs

  abbrev eight : List ℕ
  eight = 16 ∷ 16 ∷ 16 ∷ 16 ∷ 16 ∷ 16 ∷ 16 ∷ 16 ∷ []

  taken : shares (wide a) (wide b) eight ≡ shares a b (replicate (length a) 16)
  taken = (λ i. shares (same_lanes a i) (same_lanes b i) eight) ∙ ap (λ n. shares a b (replicate n 16)) (sym e)

  -- the products of halves, without their lower halves
  pub shares_are : (j : ℕ) → j < 8 → slice_index (map (λ x. x) (shares (wide a) (wide b) eight)) j ≡ slice_index a j * slice_index b j / 2 ^ 16
  shares_are j l =
      ap (λ xs. slice_index xs j) (same_lanes (shares (wide a) (wide b) eight) ∙ taken)
      ∙ share_is a b j (omega (arith, e, l)) (e ∙ sym g) (below_from_Fits w16 a f) (below_from_Fits w16 b h)

  -- they are halves too
  pub shares_fit : Each1 (Fits w16) (shares (wide a) (wide b) eight)
  shares_fit = subst (Each1 (Fits w16)) (sym taken) (shares_small a b (e ∙ sym g) (below_from_Fits w16 a f) (below_from_Fits w16 b h))

-- ---- the lower bytes of sixteen halves as four words

abbrev bytes_in : List ℕ → List ℕ
bytes_in xs = digits_l 256 16 (number_l (2 ^ 16) xs)

byte_is : (xs : List ℕ) → Each1 (Fits w16) xs → (j : ℕ) → j < 8 → slice_index (bytes_in xs) (2 * j + 0) ≡ slice_index xs j % 256
byte_is xs f j h = get_or_narrower (2 ^ 16) 2 256 16 xs j 0 (omega arith) (below_from_Fits w16 xs f) (omega arith) (omega (arith, h)) ∙ omega arith

abbrev picked : List ℕ → List ℕ → List ℕ
picked a b = pick_l 0 (bytes_in a ++ bytes_in b) (0 ∷ 2 ∷ 4 ∷ 6 ∷ 8 ∷ 10 ∷ 12 ∷ 14 ∷ 16 ∷ 18 ∷ 20 ∷ 22 ∷ 24 ∷ 26 ∷ 28 ∷ 30 ∷ [])

abbrev lowest : List ℕ → List ℕ → List ℕ
lowest a b = digits_l (2 ^ 32) 4 (number_l 256 (picked a b))

picked_small : (a b : List ℕ) → Each1 (λ x. x < 256) (picked a b)
picked_small a b =
    let p : 0 < 256 = omega arith in
    (mod-lt _ p, (mod-lt _ p, (mod-lt _ p, (mod-lt _ p, (mod-lt _ p, (mod-lt _ p, (mod-lt _ p, (mod-lt _ p, (mod-lt _ p, (mod-lt _ p, (mod-lt _ p, (mod-lt _ p, (mod-lt _ p, (mod-lt _ p, (mod-lt _ p, (mod-lt _ p, tt))))))))))))))))

small : (n : ℕ) → n % 256 < 256
small n = omega arith

word_is : (w p q r s : ℕ) → p < 256 → q < 256 → r < 256 → s < 256 → w ≡ p + 256 * (q + 256 * (r + 256 * (s + 256 * 0))) → to_le_bytes w32 w ≡ p ∷ q ∷ r ∷ s ∷ []
word_is w p q r s hp hq hr hs e =
    let first : w % 256 ≡ p = omega (arith, e, hp) in
    let second : w / 256 % 256 ≡ q = omega (arith, e, hp, hq) in
    let third : w / 65536 % 256 ≡ r = omega (arith, e, hp, hq, hr) in
    let last : w / 16777216 % 256 ≡ s = omega (arith, e, hp, hq, hr, hs) in
    (λ i. first i ∷ second i ∷ third i ∷ last i ∷ [])

abbrev pub four_bytes : List ℕ → ℕ → List ℕ
four_bytes xs i = slice_index xs i % 256 ∷ slice_index xs (i + 1) % 256 ∷ slice_index xs (i + 2) % 256 ∷ slice_index xs (i + 3) % 256 ∷ []

module _ (a b : List ℕ) (f : Each1 (Fits w16) a) (g : Each1 (Fits w16) b) where
  lane : (j : ℕ) → j < 4 → slice_index (lowest a b) j ≡ number_l 256 (chunk (4 * j) 4 (picked a b))
  lane j h = get_or_wider 256 4 (2 ^ 32) 4 (picked a b) j (omega arith) (picked_small a b) h

  pub front_bytes : (j : ℕ) → j < 2 → to_le_bytes w32 (slice_index (lowest a b) j) ≡ four_bytes a (4 * j)
  front_bytes = below_two _
      (word_is _ _ _ _ _ (small _) (small _) (small _) (small _) (lane 0 (omega arith)) ∙ (λ i. byte_is a f 0 (omega arith) i ∷ byte_is a f 1 (omega arith) i ∷ byte_is a f 2 (omega arith) i ∷ byte_is a f 3 (omega arith) i ∷ []))
      (word_is _ _ _ _ _ (small _) (small _) (small _) (small _) (lane 1 (omega arith)) ∙ (λ i. byte_is a f 4 (omega arith) i ∷ byte_is a f 5 (omega arith) i ∷ byte_is a f 6 (omega arith) i ∷ byte_is a f 7 (omega arith) i ∷ []))

  pub back_bytes : (j : ℕ) → j < 2 → to_le_bytes w32 (slice_index (lowest a b) (2 + j)) ≡ four_bytes b (4 * j)
  back_bytes = below_two _
      (word_is _ _ _ _ _ (small _) (small _) (small _) (small _) (lane 2 (omega arith)) ∙ (λ i. byte_is b g 0 (omega arith) i ∷ byte_is b g 1 (omega arith) i ∷ byte_is b g 2 (omega arith) i ∷ byte_is b g 3 (omega arith) i ∷ []))
      (word_is _ _ _ _ _ (small _) (small _) (small _) (small _) (lane 3 (omega arith)) ∙ (λ i. byte_is b g 4 (omega arith) i ∷ byte_is b g 5 (omega arith) i ∷ byte_is b g 6 (omega arith) i ∷ byte_is b g 7 (omega arith) i ∷ []))
