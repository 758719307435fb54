-- Rows in a buffer, one after another.
use Rattle.std.proofs.Common.{◌≡◌, ℕ, zero, suc, ◌+◌, ◌-◌, ◌*◌, ◌≤◌, ◌<◌, List, [], ◌∷◌, ◌++◌, take, drop, map, length, refl, ap, sym, ◌∙◌, arith, length-append, append_assoc, subst, slice_index_or}
use Rattle.std.specs.List.{AllByRecursion, flat_map}
use borrow.Rule.Slice.PartMut.{put_mid}
use Rattle.std.proofs.lemmas.Slice.{take-put_mid}
use Rattle.std.proofs.lemmas.List.{length-take-le, drop-drop, map-append, length-drop}
use Rattle.std.proofs.lemmas.Grind.{flat_map-append}
use Rattle.std.proofs.Math.Seq.{take-add}
use Rattle.std.proofs.Math.Nat.{suc-mul, mul-le-mul_right}
use Rattle.gfx_model.specs.Vertex.{Color}
use Rattle.texel_rows.specs.Rows.{exchanged, with_rows, rows_of}

-- ---- four texels at a time

-- a byte of a texel of a list
abbrev pub byte : List Color → ℕ → ℕ → ℕ
byte cs i k = slice_index_or (slice_index_or cs i []) k 0

pub four_exchanged : (cs : List Color) → length cs ≡ 4 → flat_map exchanged cs ≡ byte cs 0 2 ∷ byte cs 0 1 ∷ byte cs 0 0 ∷ byte cs 0 3 ∷ byte cs 1 2 ∷ byte cs 1 1 ∷ byte cs 1 0 ∷ byte cs 1 3 ∷ byte cs 2 2 ∷ byte cs 2 1 ∷ byte cs 2 0 ∷ byte cs 2 3 ∷ byte cs 3 2 ∷ byte cs 3 1 ∷ byte cs 3 0 ∷ byte cs 3 3 ∷ []
four_exchanged [] h = absurd (omega (arith, h))
four_exchanged (a ∷ []) h = absurd (omega (arith, h))
four_exchanged (a ∷ b ∷ []) h = absurd (omega (arith, h))
four_exchanged (a ∷ b ∷ c ∷ []) h = absurd (omega (arith, h))
four_exchanged (a ∷ b ∷ c ∷ d ∷ []) h = refl
four_exchanged (a ∷ b ∷ c ∷ d ∷ e ∷ rest) h = absurd (omega (arith, h))

pub next_four : (room new : List ℕ) (row : List Color) (i : ℕ) → 16 * i + 16 ≤ length room → length new ≡ 16
    → take (16 * i) room ≡ flat_map exchanged (take (4 * i) row)
    → new ≡ flat_map exchanged (take (4 * i + 4 - 4 * i) (drop (4 * i) row))
    → take (16 * (i + 1)) (put_mid (16 * i) (16 * i + 16 - 16 * i) room new) ≡ flat_map exchanged (take (4 * (i + 1)) row)
next_four room new row i inside whole before here =
    let more : 16 * (i + 1) ≡ 16 * i + length new = omega (arith, whole) in
    let front : 16 * i ≤ length room = omega (arith, inside) in
    let four : 4 * i + 4 - 4 * i ≡ 4 = omega (arith) in
    let fours : 4 * (i + 1) ≡ 4 * i + 4 = omega (arith) in
    take-put_mid (16 * i) (16 * i + 16 - 16 * i) room new (16 * (i + 1)) more front
    ∙ (λ j. before j ++ (here ∙ ap (λ n. flat_map exchanged (take n (drop (4 * i) row))) four) j)
    ∙ sym (flat_map-append exchanged (take (4 * i) row) (take 4 (drop (4 * i) row)))
    ∙ ap (flat_map exchanged) (sym (take-add (4 * i) 4 row))
    ∙ ap (λ n. flat_map exchanged (take n row)) (sym fours)

-- ---- rows

-- the rest of a front, and what follows the front
rest_of_front : {X : Type 0} (n s : ℕ) (xs : List X) → n ≤ s → drop n (take s xs) ++ drop s xs ≡ drop n xs
rest_of_front zero zero xs h = refl
rest_of_front zero (suc s) [] h = refl
rest_of_front {X} zero (suc s) (x ∷ xs) h = ap (λ (l : List X). x ∷ l) (rest_of_front zero s xs (omega arith))
rest_of_front (suc n) zero xs h = absurd (omega (arith, h))
rest_of_front (suc n) (suc s) [] h = refl
rest_of_front (suc n) (suc s) (x ∷ xs) h = rest_of_front n s xs (omega (arith, h))

take_past : {X : Type 0} (xs ys : List X) (n m : ℕ) → m ≡ length xs + n → take m (xs ++ ys) ≡ xs ++ take n ys
take_past [] ys n m e = let same : m ≡ n = omega (arith, e) in ap (λ k. take k ys) same
take_past (x ∷ xs) ys n zero e = absurd (omega (arith, e))
take_past {X} (x ∷ xs) ys n (suc m) e = ap (λ (l : List X). x ∷ l) (take_past xs ys n m (omega (arith, e)))

drop_past : {X : Type 0} (xs ys : List X) (n m : ℕ) → m ≡ length xs + n → drop m (xs ++ ys) ≡ drop n ys
drop_past [] ys n m e = let same : m ≡ n = omega (arith, e) in ap (λ k. drop k ys) same
drop_past (x ∷ xs) ys n zero e = absurd (omega (arith, e))
drop_past (x ∷ xs) ys n (suc m) e = drop_past xs ys n m (omega (arith, e))

-- one row more in a buffer
module _ (s : ℕ) (row : List ℕ) (short : length row ≤ s) where
  pub next_row : (rows : List (List ℕ)) (b : List ℕ) (at : ℕ) → AllByRecursion (λ r. length r ≤ s) rows → at ≡ length rows * s → at ≤ length b
      → with_rows s (rows ++ row ∷ []) b ≡ take at (with_rows s rows b) ++ (row ++ drop (at + length row) (with_rows s rows b))
  next_row [] b zero h e room =
      let none : zero + length row ≡ length row = omega (arith) in
      ap (λ l. row ++ l) (rest_of_front (length row) s b short ∙ ap (λ n. drop n b) (sym none))
  next_row [] b (suc at) h e room = absurd (omega (arith, e))
  next_row (r ∷ rs) b at h e room =
      let less = length rs * s in
      let here : at ≡ less + s = e ∙ suc-mul (length rs) s in
      let gap = drop (length r) (take s b) in
      let rest = with_rows s rs (drop s b) in
      let front = r ++ gap in
      let fits = h.0 in
      let cut : length (take s b) ≡ s = length-take-le s b (omega (arith, room, here)) in
      let whole : length front ≡ s = omega (arith, length-append r gap, length-drop (length r) (take s b), cut, fits) in
      let behind : less ≤ length (drop s b) = omega (arith, room, here, length-drop s b) in
      let same : front ++ rest ≡ r ++ (gap ++ rest) = append_assoc r gap rest in
      let more = next_row rs (drop s b) less h.1 refl behind in
      let start : take at (r ++ (gap ++ rest)) ≡ front ++ take less rest =
      ap (λ l. take at l) (sym same) ∙ take_past front rest less at (omega (arith, here, whole)) in
      let end : drop (at + length row) (r ++ (gap ++ rest)) ≡ drop (less + length row) rest =
      ap (λ l. drop (at + length row) l) (sym same) ∙ drop_past front rest (less + length row) (at + length row) (omega (arith, here, whole)) in
      ap (λ l. r ++ (gap ++ l)) more
      ∙ sym (append_assoc r gap (take less rest ++ (row ++ drop (less + length row) rest)))
      ∙ sym (append_assoc front (take less rest) (row ++ drop (less + length row) rest))
      ∙ (λ j. sym start j ++ (row ++ sym end j))

-- the first rows, and one more
pub next_of : (w y at : ℕ) (cs : List Color) → at ≡ y * w → rows_of w (suc y) cs ≡ rows_of w y cs ++ take w (drop at cs) ∷ []
next_of w zero zero cs e = refl
next_of w zero (suc at) cs e = absurd (omega (arith, e))
next_of w (suc y) at cs e =
    let here : at ≡ y * w + w = e ∙ suc-mul y w in
    let there : w + y * w ≡ at = omega (arith, here) in
    ap (λ l. take w cs ∷ l) (next_of w y (y * w) (drop w cs) refl ∙ ap (λ xs. rows_of w y (drop w cs) ++ take w xs ∷ []) (drop-drop (y * w) w cs ∙ ap (λ n. drop n cs) there))

-- how many rows there are
pub count_of : (f : List Color → List ℕ) (w y : ℕ) (cs : List Color) → length (map f (rows_of w y cs)) ≡ y
count_of f w zero cs = refl
count_of f w (suc y) cs = ap suc (count_of f w y (drop w cs))

-- a buffer has the first rows
pub record AreWritten (f : List Color → List ℕ) (w s : ℕ) (cs : List Color) (y : ℕ) (before after : List ℕ) : Type 0 where
  pub rows : after ≡ with_rows s (map f (rows_of w y cs)) before
  pub short : AllByRecursion (λ r. length r ≤ s) (map f (rows_of w y cs))

all-snoc : {X : Type 0} (P : X → Type 0) (xs : List X) (x : X) → AllByRecursion P xs → P x → AllByRecursion P (xs ++ x ∷ [])
all-snoc P [] x h p = (p, tt)
all-snoc P (y ∷ ys) x h p = (h.0, all-snoc P ys x h.1 p)

-- and the next one
pub next_written : (f : List Color → List ℕ) (w s : ℕ) (cs : List Color) (y : ℕ) (before buffer after : List ℕ) (row : List Color)
    → AreWritten f w s cs y before buffer → row ≡ take w (drop (y * w) cs) → length (f row) ≤ s → y * s ≤ length before
    → after ≡ take (y * s) buffer ++ (f row ++ drop (y * s + length (f row)) buffer) → AreWritten f w s cs (y + 1) before after
next_written f w s cs y before buffer after row written is short room put =
    let rows = map f (rows_of w y cs) in
    let one : suc y ≡ y + 1 = omega (arith) in
    let all : map f (rows_of w (suc y) cs) ≡ rows ++ f row ∷ [] =
    ap (map f) (next_of w y (y * w) cs refl) ∙ map-append f (rows_of w y cs) (take w (drop (y * w) cs) ∷ []) ∙ ap (λ r. rows ++ f r ∷ []) (sym is) in
    subst (λ n. AreWritten f w s cs n before after) one (record {
      rows = put ∙ ap (λ b. take (y * s) b ++ (f row ++ drop (y * s + length (f row)) b)) written.rows
          ∙ sym (next_row s (f row) short rows before (y * s) written.short (ap (λ n. n * s) (sym (count_of f w y cs))) room)
          ∙ ap (λ rs. with_rows s rs before) (sym all);
      short = subst (AllByRecursion (λ r. length r ≤ s)) (sym all) (all-snoc (λ r. length r ≤ s) rows (f row) written.short short);
    })

-- what is cut out of a list for a row
pub part_is : (y w : ℕ) (cs : List Color) → take ((y + 1) * w - y * w) (drop (y * w) cs) ≡ take w (drop (y * w) cs)
part_is y w cs =
    let more : (y + 1) * w ≡ y * w + w = ap (λ n. n * w) (omega (arith)) ∙ suc-mul y w in
    let same : (y + 1) * w - y * w ≡ w = omega (arith, more) in
    ap (λ n. take n (drop (y * w) cs)) same

-- a row has no more bytes than the stride
pub row_fits : (w many bytes s : ℕ) → bytes ≡ 4 * many → many ≤ w → 4 * w ≤ s → bytes ≤ s
row_fits w many bytes s e few wide = omega (arith, e, few, wide)

-- a row begins within the buffer
pub place_fits : (y h s last room : ℕ) → y < h → (h - 1) * s + last ≤ room → y * s ≤ room
place_fits y h s last room below fits =
    let before : y * s ≤ (h - 1) * s = mul-le-mul_right s (omega (arith, below)) in
    omega (arith, before, fits)

take_short : {X : Type 0} (n : ℕ) (xs : List X) → length (take n xs) ≤ n
take_short zero xs = omega (arith)
take_short (suc n) [] = omega (arith)
take_short (suc n) (x ∷ xs) = let less = take_short n xs in omega (arith, less)

-- and has no more texels than the width
pub part_short : (y w v : ℕ) (cs : List Color) → w ≡ v → length (take ((y + 1) * w - y * w) (drop (y * w) cs)) ≤ v
part_short y w v cs e =
    let same = ap length (part_is y w cs) in
    let less = take_short w (drop (y * w) cs) in
    omega (arith, same, less, e)
