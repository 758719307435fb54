-- Four pixels at a time in a picture's text.
use Rattle.std.proofs.Common.{zero, suc, ◌≡◌, ◌++◌, ◌∷◌, [], ℕ, List, ◌+◌, ◌*◌, ◌-◌, ◌≤◌, length, take, drop, arith, slice_index_or, refl, ap, ◌<◌, ◌∙◌, sym}
use Rattle.std.specs.List.{flat_map}
use borrow.Rule.Slice.PartMut.{put_mid}
use Rattle.std.proofs.lemmas.Slice.{take-put_mid}
use Rattle.std.proofs.lemmas.List.{length-take-le}
use Rattle.std.proofs.lemmas.Grind.{flat_map-append}
use Rattle.std.proofs.Math.Seq.{take-add, take-append-add}

-- the first three of a pixel's four bytes
three_of : (c : List ℕ) → length c ≡ 4 → take 3 c ≡ slice_index_or c 0 0 ∷ slice_index_or c 1 0 ∷ slice_index_or c 2 0 ∷ []
three_of [] h = absurd (omega (arith, h))
three_of (a ∷ []) h = absurd (omega (arith, h))
three_of (a ∷ b ∷ []) h = absurd (omega (arith, h))
three_of (a ∷ b ∷ c ∷ rest) h = refl

abbrev pub byte : List (List ℕ) → ℕ → ℕ → ℕ
byte cs i k = slice_index_or (slice_index_or cs i []) k 0

-- red, green and blue of four pixels
pub three_each : (cs : List (List ℕ)) → length cs ≡ 4 → ((i : ℕ) → i < 4 → length (slice_index_or cs i []) ≡ 4) →
    flat_map (take 3) cs ≡ byte cs 0 0 ∷ byte cs 0 1 ∷ byte cs 0 2 ∷ byte cs 1 0 ∷ byte cs 1 1 ∷ byte cs 1 2 ∷ byte cs 2 0 ∷ byte cs 2 1 ∷ byte cs 2 2 ∷ byte cs 3 0 ∷ byte cs 3 1 ∷ byte cs 3 2 ∷ []
three_each [] h each = absurd (omega (arith, h))
three_each (a ∷ []) h each = absurd (omega (arith, h))
three_each (a ∷ b ∷ []) h each = absurd (omega (arith, h))
three_each (a ∷ b ∷ c ∷ []) h each = absurd (omega (arith, h))
three_each (a ∷ b ∷ c ∷ d ∷ []) h each =
    ap (λ l. l ++ (take 3 b ++ (take 3 c ++ (take 3 d ++ [])))) (three_of a (each 0 (omega (arith))))
    ∙ ap (λ l. slice_index_or a 0 0 ∷ slice_index_or a 1 0 ∷ slice_index_or a 2 0 ∷ (l ++ (take 3 c ++ (take 3 d ++ [])))) (three_of b (each 1 (omega (arith))))
    ∙ ap (λ l. slice_index_or a 0 0 ∷ slice_index_or a 1 0 ∷ slice_index_or a 2 0 ∷ slice_index_or b 0 0 ∷ slice_index_or b 1 0 ∷ slice_index_or b 2 0 ∷ (l ++ (take 3 d ++ []))) (three_of c (each 2 (omega (arith))))
    ∙ ap (λ l. slice_index_or a 0 0 ∷ slice_index_or a 1 0 ∷ slice_index_or a 2 0 ∷ slice_index_or b 0 0 ∷ slice_index_or b 1 0 ∷ slice_index_or b 2 0 ∷ slice_index_or c 0 0 ∷ slice_index_or c 1 0 ∷ slice_index_or c 2 0 ∷ (l ++ [])) (three_of d (each 3 (omega (arith))))
three_each (a ∷ b ∷ c ∷ d ∷ e ∷ rest) h each = absurd (omega (arith, h))

-- the first of what a longer front begins with
take-less : {X : Type 0} (n m : ℕ) (xs : List X) → n ≤ m → take n (take m xs) ≡ take n xs
take-less zero m xs h = refl
take-less (suc n) zero xs h = absurd (omega (arith, h))
take-less (suc n) (suc m) [] h = refl
take-less (suc n) (suc m) (x ∷ xs) h = ap (λ l. x ∷ l) (take-less n m xs (omega (arith, h)))

-- four pixels more
pub next_four : (room new : List ℕ) (colors : List (List ℕ)) (i : ℕ) → 12 * i + 16 ≤ length room → length new ≡ 16
    → take (12 * i) room ≡ flat_map (take 3) (take (4 * i) colors)
    → take 12 new ≡ flat_map (take 3) (take (4 * i + 4 - 4 * i) (drop (4 * i) colors))
    → take (12 * (i + 1)) (put_mid (12 * i) (12 * i + 16 - 12 * i) room new) ≡ flat_map (take 3) (take (4 * (i + 1)) colors)
next_four room new colors i inside whole before here =
    let more : 12 * (i + 1) ≡ 12 * i + 12 = omega (arith) in
    let end : 12 * i + 16 ≡ 12 * i + length new = omega (arith, whole) in
    let front : 12 * i ≤ length room = omega (arith, inside) in
    let four : 4 * i + 4 - 4 * i ≡ 4 = omega (arith) in
    let fours : 4 * (i + 1) ≡ 4 * i + 4 = omega (arith) in
    let size : length (take (12 * i) room) ≡ 12 * i = length-take-le (12 * i) room front in
    ap (λ n. take n after) more
    ∙ sym (take-less (12 * i + 12) (12 * i + 16) after (omega (arith)))
    ∙ ap (take (12 * i + 12)) (take-put_mid (12 * i) (12 * i + 16 - 12 * i) room new (12 * i + 16) end front)
    ∙ ap (λ n. take (n + 12) (take (12 * i) room ++ new)) (sym size)
    ∙ take-append-add (take (12 * i) room) new 12
    ∙ (λ j. before j ++ (here ∙ ap (λ n. flat_map (take 3) (take n (drop (4 * i) colors))) four) j)
    ∙ sym (flat_map-append (take 3) (take (4 * i) colors) (take 4 (drop (4 * i) colors)))
    ∙ ap (flat_map (take 3)) (sym (take-add (4 * i) 4 colors))
    ∙ ap (λ n. flat_map (take 3) (take n colors)) (sym fours)
  where
    after : List ℕ
    after = put_mid (12 * i) (12 * i + 16 - 12 * i) room new
