-- What is tested and read of digits of sixteen is what the definition reads.
use Rattle.std.proofs.Common.{◌≡◌, ℕ, zero, suc, ◌+◌, ◌*◌, ◌-◌, ◌%◌, ◌<◌, ◌≤◌, nat_le, leb, Bool, true, false, ◌&&◌, ◌||◌, cond, List, [], ◌∷◌, ◌++◌, map, length, take, drop, replicate, get_or, slice_set, Option, Some, None, Ok, Err, w8, refl, ap, sym, subst, ◌∙◌, arith, take-add}
use Rattle.std.specs.List.{list_all}
use Rattle.std.proofs.lemmas.Bool.Decides.{nat_tests}
use Rattle.std.proofs.lemmas.List.{append_assoc, append-nil, drop_all, length-drop, get_or-drop, drop-drop, take_more_set, take_all}
use Rattle.std.proofs.lemmas.Simd.{zip2_splat, tops_compared, length-chunk, take_more_put_chunk}
use lib.Lanes.{zip2, sel_l, pick_l, chunk, put_chunk, top}
use Rattle.scene_model.specs.Field.{Read, ◌>>=◌, hex_value, hex_byte, hex_pairs, joined, misspelt}
use Rattle.scene_text.specs.Digits.{is_hex, digit_of, pair_of, pairs_of}

-- a digit has its value, and any other byte has none
value_of : (b : ℕ) → hex_value b ≡ cond (is_hex b) (Some (digit_of b)) None
unfolding hex_value
value_of b = grind (arith, nat_tests)

small : (b : ℕ) → is_hex b ≡ true → digit_of b < 16
small b h = grind (arith, nat_tests)

-- two digits are their byte
pub pair_right : (a b : ℕ) → is_hex a ≡ true → is_hex b ≡ true → hex_byte a b ≡ Ok (pair_of a b)
unfolding hex_byte
pair_right a b x y = rw (value_of a, value_of b, x, y) (let e : digit_of a * 16 + digit_of b ≡ pair_of a b = omega (arith, small a x, small b y) in ap Ok e)

pub left_wrong : (a b : ℕ) → is_hex a ≡ false → hex_byte a b ≡ Err misspelt
unfolding hex_byte
left_wrong a b x = rw (value_of a, x) refl

pub right_wrong : (a b : ℕ) → is_hex b ≡ false → hex_byte a b ≡ Err misspelt
unfolding hex_byte
right_wrong a b y = rw (value_of b, y) (by (hex_value a))
  where
    by : (o : Option ℕ) → joined o None ≡ Err misspelt
    by None = refl
    by (Some v) = refl

-- pairs behind a pair that all are misspelt, as the pair itself may be
behind_pair : (m : Option ℕ) (n : Option ℕ) (rest : Read (List ℕ)) → rest ≡ Err misspelt → (joined m n >>= λ v. rest >>= λ vs. Ok (v ∷ vs)) ≡ Err misspelt
behind_pair None n rest e = refl
behind_pair (Some a) None rest e = refl
behind_pair (Some a) (Some b) rest e = ap (λ r. r >>= λ vs. Ok ((a * 16 + b) ∷ vs)) e

-- an odd number of digits
pub odd_wrong : (xs : List ℕ) → length xs % 2 ≡ 1 → hex_pairs xs ≡ Err misspelt
unfolding hex_byte
odd_wrong [] h = absurd (omega (arith, h))
odd_wrong (a ∷ []) h = refl
odd_wrong (a ∷ b ∷ xs) h = behind_pair (hex_value a) (hex_value b) (hex_pairs xs) (odd_wrong xs (omega (arith, h)))

both_true : (a b : Bool) → (a && b) ≡ true → (a ≡ true) × (b ≡ true)
both_true true b e = (refl, e)
both_true false b e = absurd (cc e)

-- misspelt pairs behind a pair
later_wrong : (a b : ℕ) (xs : List ℕ) → hex_pairs xs ≡ Err misspelt → hex_pairs (a ∷ b ∷ xs) ≡ Err misspelt
unfolding hex_byte
later_wrong a b xs k = behind_pair (hex_value a) (hex_value b) (hex_pairs xs) k

-- a byte that is no digit
pub some_wrong : (xs : List ℕ) → list_all is_hex xs ≡ false → hex_pairs xs ≡ Err misspelt
some_wrong [] h = absurd (cc h)
some_wrong (a ∷ []) h = refl
some_wrong (a ∷ b ∷ xs) h = by (is_hex a) (is_hex b) refl refl h (some_wrong xs)
  where
    wrong : hex_byte a b ≡ Err misspelt → hex_pairs (a ∷ b ∷ xs) ≡ Err misspelt
    wrong e = ap (λ m. m >>= λ v. hex_pairs xs >>= λ vs. Ok (v ∷ vs)) e

    by : (x y : Bool) → is_hex a ≡ x → is_hex b ≡ y → (x && (y && list_all is_hex xs)) ≡ false → (list_all is_hex xs ≡ false → hex_pairs xs ≡ Err misspelt) → hex_pairs (a ∷ b ∷ xs) ≡ Err misspelt
    by false y p q k later = wrong (left_wrong a b p)
    by true false p q k later = wrong (right_wrong a b q)
    by true true p q k later = later_wrong a b xs (later k)

-- an even number of digits are the bytes of their pairs
pub all_right : (xs : List ℕ) → list_all is_hex xs ≡ true → length xs % 2 ≡ 0 → hex_pairs xs ≡ Ok (pairs_of xs)
all_right [] h e = refl
all_right (a ∷ []) h e = absurd (omega (arith, e))
all_right (a ∷ b ∷ xs) h e =
    let p = both_true (is_hex a) (is_hex b && list_all is_hex xs) h in
    let q = both_true (is_hex b) (list_all is_hex xs) p.1 in
    ap (λ m. m >>= λ v. hex_pairs xs >>= λ vs. Ok (v ∷ vs)) (pair_right a b p.0 q.0)
    ∙ ap (λ r. r >>= λ vs. Ok (pair_of a b ∷ vs)) (all_right xs q.1 (omega (arith, e)))

-- one pair more
pub pair_next : (xs : List ℕ) (d : ℕ) → 2 ≤ length xs → pairs_of xs ≡ pair_of (get_or xs 0 d) (get_or xs 1 d) ∷ pairs_of (drop 2 xs)
pair_next [] d h = absurd (omega arith)
pair_next (a ∷ []) d h = absurd (omega arith)
pair_next (a ∷ b ∷ xs) d h = refl

pub no_pair : (xs : List ℕ) → length xs ≤ 1 → pairs_of xs ≡ []
no_pair [] h = refl
no_pair (a ∷ []) h = refl
no_pair (a ∷ b ∷ xs) h = absurd (omega arith)

-- a pair more is put
pub pairs_more : (xs out : List ℕ) (i : ℕ) (d : ℕ) (whole : List ℕ) → length xs ≡ 2 * length out → i < length out → take i out ++ pairs_of (drop (2 * i) xs) ≡ whole
    → take (i + 1) (slice_set out i (pair_of (get_or xs (2 * i) d) (get_or xs (2 * i + 1) d))) ++ pairs_of (drop (2 * (i + 1)) xs) ≡ whole
pairs_more xs out i d whole l lt e =
    let v = pair_of (get_or xs (2 * i) d) (get_or xs (2 * i + 1) d) in
    let two : 2 ≤ length (drop (2 * i) xs) = omega (arith, length-drop (2 * i) xs, l, lt) in
    let k : 2 * i + 2 ≡ 2 * (i + 1) = omega arith in
    let zero_place : 2 * i + 0 ≡ 2 * i = omega arith in
    let next = pair_next (drop (2 * i) xs) d two in
    let first = get_or-drop (2 * i) xs 0 d ∙ ap (λ n. get_or xs n d) zero_place in
    let second = get_or-drop (2 * i) xs 1 d in
    let rest = drop-drop 2 (2 * i) xs ∙ ap (λ n. drop n xs) k in
    ap (λ ys. ys ++ pairs_of (drop (2 * (i + 1)) xs)) (take_more_set out i v lt)
    ∙ append_assoc (take i out) (v ∷ []) (pairs_of (drop (2 * (i + 1)) xs))
    ∙ ap (λ ys. take i out ++ ys) (sym (next ∙ ap (λ a. pair_of a (get_or (drop (2 * i) xs) 1 d) ∷ pairs_of (drop 2 (drop (2 * i) xs))) first ∙ ap (λ b. pair_of (get_or xs (2 * i) d) b ∷ pairs_of (drop 2 (drop (2 * i) xs))) second ∙ ap (λ ys. v ∷ pairs_of ys) rest))
    ∙ e

-- all pairs are put
pub pairs_end : (xs out : List ℕ) (i : ℕ) (whole : List ℕ) → length xs ≡ 2 * length out → length out ≤ i → take i out ++ pairs_of (drop (2 * i) xs) ≡ whole → out ≡ whole
pairs_end xs out i whole l le e =
    sym (append-nil out) ∙ ap (λ ys. ys ++ []) (sym (take_all i out le)) ∙ ap (λ ys. take i out ++ ys) (sym (no_pair (drop (2 * i) xs) (omega (arith, length-drop (2 * i) xs, l, le)))) ∙ e

-- a vector whose every byte was written
pub written_whole : (new items : List ℕ) (len : ℕ) → length new ≡ len → length items ≡ len → take len (new ++ drop (length new) items) ≡ new
written_whole new items len n i = ap (λ ys. take len (new ++ ys)) (drop_all (length new) items (omega (arith, n, i))) ∙ ap (take len) (append-nil new) ∙ take_all len new (omega (arith, n))

-- ---- sixteen pairs at a time

sel_maps : (p : ℕ → Bool) (f g : ℕ → ℕ) (xs : List ℕ) → sel_l (map p xs) (map f xs) (map g xs) ≡ map (λ x. cond (p x) (f x) (g x)) xs
sel_maps p f g [] = refl
sel_maps p f g (x ∷ xs) = ap (λ r. cond (p x) (f x) (g x) ∷ r) (sel_maps p f g xs)

sel_of_maps : (p : ℕ → Bool) (f g : ℕ → ℕ) (vs : List ℕ) {ms : List Bool} {xs ys : List ℕ} → ms ≡ map p vs → xs ≡ map f vs → ys ≡ map g vs → sel_l ms xs ys ≡ map (λ x. cond (p x) (f x) (g x)) vs
sel_of_maps p f g vs m x y = (λ j. sel_l (m j) (x j) (y j)) ∙ sel_maps p f g vs

-- a lane is compared, and one of two numbers is taken from it
pub lanes_right : (v : List ℕ) → length v ≡ 16 → sel_l (map (top 7) (zip2 (λ a b. cond (leb a b) 255 0) v (replicate 16 57))) (zip2 (λ a b. (a + (256 - b)) % 256) v (replicate 16 48)) (zip2 (λ a b. (a + (256 - b)) % 256) v (replicate 16 87)) ≡ map digit_of v
lanes_right v long =
    sel_of_maps (λ x. leb x 57) (λ x. (x + 208) % 256) (λ x. (x + 169) % 256) v (tops_compared w8 leb v (replicate 16 57) ∙ zip2_splat leb v 16 57 long) (zip2_splat {Y = ℕ} (λ a b. (a + (256 - b)) % 256) v 16 48 long)
    (zip2_splat {Y = ℕ} (λ a b. (a + (256 - b)) % 256) v 16 87 long)

-- every second place
steps : ℕ → ℕ → List ℕ
steps i zero = []
steps i (suc n) = i ∷ steps (i + 2) n

-- pairs that are picked by their places
picked : (xs : List ℕ) (i n : ℕ) → length xs ≡ i + 2 * n → map (λ k. pair_of (get_or xs k 0) (get_or xs (k + 1) 0)) (steps i n) ≡ pairs_of (drop i xs)
unfolding steps
picked xs i zero e = sym (no_pair (drop i xs) (omega (arith, length-drop i xs, e)))
picked xs i (suc n) e =
    let two : 2 ≤ length (drop i xs) = omega (arith, length-drop i xs, e) in
    let none : i ≡ i + 0 = omega arith in
    let first : get_or xs i 0 ≡ get_or (drop i xs) 0 0 = ap (λ k. get_or xs k 0) none ∙ sym (get_or-drop i xs 0 0) in
    let second : get_or xs (i + 1) 0 ≡ get_or (drop i xs) 1 0 = sym (get_or-drop i xs 1 0) in
    let rest : map (λ k. pair_of (get_or xs k 0) (get_or xs (k + 1) 0)) (steps (i + 2) n) ≡ pairs_of (drop 2 (drop i xs)) = picked xs (i + 2) n (omega (arith, e)) ∙ ap pairs_of (sym (drop-drop 2 i xs)) in
    (λ j. pair_of (first j) (second j) ∷ rest j) ∙ sym (pair_next (drop i xs) 0 two)

-- the first digits of sixteen pairs, and the second ones, make their bytes
pub lanes_joined : (xs high low : List ℕ) → length xs ≡ 32 → high ≡ map digit_of (pick_l 0 xs (0 ∷ 2 ∷ 4 ∷ 6 ∷ 8 ∷ 10 ∷ 12 ∷ 14 ∷ 16 ∷ 18 ∷ 20 ∷ 22 ∷ 24 ∷ 26 ∷ 28 ∷ 30 ∷ []))
    → low ≡ map digit_of (pick_l 0 xs (1 ∷ 3 ∷ 5 ∷ 7 ∷ 9 ∷ 11 ∷ 13 ∷ 15 ∷ 17 ∷ 19 ∷ 21 ∷ 23 ∷ 25 ∷ 27 ∷ 29 ∷ 31 ∷ []))
    → zip2 (λ a b. (a + b) % 256) (zip2 (λ a b. a * b % 256) high (replicate 16 16)) low ≡ pairs_of xs
unfolding steps
lanes_joined xs high low long h l = (λ j. zip2 (λ a b. (a + b) % 256) (zip2 (λ a b. a * b % 256) (h j) (replicate 16 16)) (l j)) ∙ picked xs 0 16 (omega (arith, long))

-- two vectors behind each other
pub two_chunks : (xs : List ℕ) (i : ℕ) → chunk i 16 xs ++ chunk (i + 16) 16 xs ≡ chunk i 32 xs
two_chunks xs i = ap (λ ys. chunk i 16 xs ++ take 16 ys) (sym (drop-drop 16 i xs)) ∙ sym (take-add 16 16 (drop i xs))

pairs_long : (xs : List ℕ) (n : ℕ) → length xs ≡ 2 * n → length (pairs_of xs) ≡ n
pairs_long [] n e = omega (arith, e)
pairs_long (a ∷ []) n e = absurd (omega (arith, e))
pairs_long (a ∷ b ∷ xs) zero e = absurd (omega (arith, e))
pairs_long (a ∷ b ∷ xs) (suc n) e = omega (arith, pairs_long xs n (omega (arith, e)))

cut_step : (n : ℕ) (xs : List ℕ) → ((ys : List ℕ) → pairs_of (take n ys) ++ pairs_of (drop n ys) ≡ pairs_of ys) → pairs_of (take (suc (suc n)) xs) ++ pairs_of (drop (suc (suc n)) xs) ≡ pairs_of xs
cut_step n [] h = refl
cut_step n (a ∷ []) h = refl
cut_step n (a ∷ b ∷ xs) h = ap (λ r. pair_of a b ∷ r) (h xs)

-- an even number of digits, and those behind them
pairs_cut : (n : ℕ) (xs : List ℕ) → pairs_of (take (2 * n) xs) ++ pairs_of (drop (2 * n) xs) ≡ pairs_of xs
pairs_cut zero xs = refl
pairs_cut (suc n) xs = let two : suc (suc (2 * n)) ≡ 2 * suc n = omega arith in subst (λ m. pairs_of (take m xs) ++ pairs_of (drop m xs) ≡ pairs_of xs) two (cut_step (2 * n) xs (pairs_cut n))

-- sixteen pairs more are put
pub sixteen_more : (xs out v : List ℕ) (i : ℕ) (whole : List ℕ) → length xs ≡ 2 * length out → i + 16 ≤ length out → v ≡ pairs_of (chunk (2 * i) 32 xs) → take i out ++ pairs_of (drop (2 * i) xs) ≡ whole
    → take (i + 16) (put_chunk i out v) ++ pairs_of (drop (2 * (i + 16)) xs) ≡ whole
sixteen_more xs out v i whole l le is e =
    let long : length v ≡ 16 = ap length is ∙ pairs_long (chunk (2 * i) 32 xs) 16 (length-chunk (2 * i) 32 xs (omega (arith, l, le))) in
    let k : 2 * i + 32 ≡ 2 * (i + 16) = omega arith in
    let ahead : drop (2 * (i + 16)) xs ≡ drop 32 (drop (2 * i) xs) = ap (λ n. drop n xs) (sym k) ∙ sym (drop-drop 32 (2 * i) xs) in
    ap (λ ys. ys ++ pairs_of (drop (2 * (i + 16)) xs)) (take_more_put_chunk i out v (i + 16) (omega (arith, long)) le) ∙ append_assoc (take i out) v (pairs_of (drop (2 * (i + 16)) xs))
    ∙ ap (λ ys. take i out ++ ys) ((λ j. is j ++ pairs_of (ahead j)) ∙ pairs_cut 16 (drop (2 * i) xs))
    ∙ e
