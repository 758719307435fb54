-- Two ascending lists merged: what is taken next is the first of what is left, sorted.
use Rattle.std.proofs.Common.{◌≡◌, ℕ, zero, suc, ◌+◌, ◌<◌, ◌≤◌, ◌==◌, Bool, true, false, cond, nat_le, List, [], ◌∷◌, ◌++◌, length, drop, refl, ap, sym, subst, ◌∙◌, arith}
use Rattle.std.specs.Prelude.{nat_lt}
use Rattle.std.proofs.lemmas.Bool.{le-leb, ltb-true}
use Rattle.std.proofs.lemmas.List.{append-nil, append_assoc, drop_all, length-drop}
use Rattle.gfx_model.specs.Frames as model
use Rattle.gfx_model.specs.World.{insert_by_key, sorted_by_key}
use Rattle.gfx_model.proofs.OrderedLaws.{Ascends, at_key, stable-is-sorted, sorted-ascends, sorted-at_key}
use Rattle.frame_record.specs.Merged.{right_first}

abbrev Pairs : Type 0
Pairs = List (ℕ × model.Entry)

-- no key is below the bound
abbrev AtLeast : ℕ → Pairs → Type 0
AtLeast low [] = Unit {0}
AtLeast low (x ∷ xs) = (low ≤ x.0) × AtLeast low xs

-- all keys are above the bound
abbrev Above : ℕ → Pairs → Type 0
Above low [] = Unit {0}
Above low (x ∷ xs) = (low < x.0) × Above low xs

least_weaker : (low bound : ℕ) (xs : Pairs) → low ≤ bound → AtLeast bound xs → AtLeast low xs
least_weaker low bound [] h a = tt
least_weaker low bound (x ∷ xs) h a = (omega (arith, h, a.0), least_weaker low bound xs h a.1)

above_from : (low bound : ℕ) (xs : Pairs) → low < bound → AtLeast bound xs → Above low xs
above_from low bound [] h a = tt
above_from low bound (x ∷ xs) h a = (omega (arith, h, a.0), above_from low bound xs h a.1)

least_append : (low : ℕ) (xs ys : Pairs) → AtLeast low xs → AtLeast low ys → AtLeast low (xs ++ ys)
least_append low [] ys a b = b
least_append low (x ∷ xs) ys a b = (a.0, least_append low xs ys a.1 b)

least_of : (low : ℕ) (xs : Pairs) → Ascends low xs → AtLeast low xs
least_of low [] a = tt
least_of low (x ∷ xs) a = (a.0, least_weaker low x.0 xs a.0 (least_of x.0 xs a.1))

-- ---- the first of a sorted list

insert_front : (x : ℕ × model.Entry) (ys : Pairs) → AtLeast x.0 ys → insert_by_key x ys ≡ x ∷ ys
insert_front x [] a = refl
insert_front x (y ∷ ys) a = rw (le-leb x.0 y.0 a.0) refl

insert_least : (low : ℕ) (x : ℕ × model.Entry) (ys : Pairs) → low ≤ x.0 → AtLeast low ys → AtLeast low (insert_by_key x ys)
insert_least low x [] h a = (h, tt)
insert_least low x (y ∷ ys) h a = go (insert_least low x ys h a.1) (nat_le x.0 y.0)
  where
    go : AtLeast low (insert_by_key x ys) → (b : Bool) → AtLeast low (cond b (x ∷ y ∷ ys) (y ∷ insert_by_key x ys))
    go rest true = (h, a)
    go rest false = (a.0, rest)

sorted_least : (low : ℕ) (xs : Pairs) → AtLeast low xs → AtLeast low (sorted_by_key xs)
sorted_least low [] a = tt
sorted_least low (x ∷ xs) a = insert_least low x (sorted_by_key xs) a.0 (sorted_least low xs a.1)

-- what no key is below comes first
sorted_front : (x : ℕ × model.Entry) (xs : Pairs) → AtLeast x.0 xs → sorted_by_key (x ∷ xs) ≡ x ∷ sorted_by_key xs
sorted_front x xs a = insert_front x (sorted_by_key xs) (sorted_least x.0 xs a)

-- also where keys above it stand before it
sorted_middle : (xs : Pairs) (y : ℕ × model.Entry) (ys : Pairs) → Above y.0 xs → AtLeast y.0 ys → sorted_by_key (xs ++ y ∷ ys) ≡ y ∷ sorted_by_key (xs ++ ys)
sorted_middle [] y ys a b = sorted_front y ys b
sorted_middle (x ∷ xs) y ys a b =
    let later : nat_le x.0 y.0 ≡ false = grind (arith, a.0) in
    ap (insert_by_key x) (sorted_middle xs y ys a.1 b) ∙ rw later refl

-- ---- one turn

right_turn : (xs : Pairs) (y : ℕ × model.Entry) (ys : Pairs) → Ascends 0 xs → Ascends 0 (y ∷ ys) → right_first xs (y ∷ ys) ≡ true
    → sorted_by_key (xs ++ y ∷ ys) ≡ y ∷ sorted_by_key (xs ++ ys)
right_turn [] y ys a b t = sorted_front y ys (least_of y.0 ys b.1)
right_turn (x ∷ xs) y ys a b t =
    let before : y.0 < x.0 = ltb-true y.0 x.0 t in
    sorted_middle (x ∷ xs) y ys (before, above_from y.0 x.0 xs before (least_of x.0 xs a.1)) (least_of y.0 ys b.1)

no_less : (m n : ℕ) → nat_lt m n ≡ false → n ≤ m
no_less m n e = grind (arith, e)

right_least : (x : ℕ × model.Entry) (xs ys : Pairs) → Ascends 0 ys → right_first (x ∷ xs) ys ≡ false → AtLeast x.0 ys
right_least x xs [] b t = tt
right_least x xs (y ∷ ys) b t = let after : x.0 ≤ y.0 = no_less y.0 x.0 t in (after, least_weaker x.0 y.0 ys after (least_of y.0 ys b.1))

left_turn : (x : ℕ × model.Entry) (xs ys : Pairs) → Ascends 0 (x ∷ xs) → Ascends 0 ys → right_first (x ∷ xs) ys ≡ false
    → sorted_by_key ((x ∷ xs) ++ ys) ≡ x ∷ sorted_by_key (xs ++ ys)
left_turn x xs ys a b t = sorted_front x (xs ++ ys) (least_append x.0 xs ys (least_of x.0 xs a.1) (right_least x xs ys b t))

ascends_weaker : (low bound : ℕ) (xs : Pairs) → low ≤ bound → Ascends bound xs → Ascends low xs
ascends_weaker low bound [] h a = tt
ascends_weaker low bound (x ∷ xs) h a = (omega (arith, h, a.0), a.1)

ascends_drop : (n : ℕ) (xs : Pairs) → Ascends 0 xs → Ascends 0 (drop n xs)
ascends_drop zero xs a = a
ascends_drop (suc n) [] a = a
ascends_drop (suc n) (x ∷ xs) a = ascends_drop n xs (ascends_weaker 0 x.0 xs (omega arith) a.1)

-- ---- a merge

-- so many of each list are taken, and what is left follows in order
pub record IsMerged (xs ys out : Pairs) (i j turn : ℕ) : Type 0 where
  pub turns : i + j ≡ turn
  pub left : i ≤ length xs
  pub right : j ≤ length ys
  pub joined : out ++ sorted_by_key (drop i xs ++ drop j ys) ≡ sorted_by_key (xs ++ ys)

pub nothing_merged : (xs ys : Pairs) → IsMerged xs ys [] 0 0 0
nothing_merged xs ys = record { turns = refl; left = omega arith; right = omega arith; joined = refl }

-- there is a next one where it is taken
has_right : (xs ys : Pairs) → right_first xs ys ≡ true → 0 < length ys
has_right xs [] t = cc t
has_right xs (y ∷ ys) t = omega arith

has_left : (xs ys : Pairs) → right_first xs ys ≡ false → 0 < length xs + length ys → 0 < length xs
has_left [] [] t h = h
has_left [] (y ∷ ys) t h = cc t
has_left (x ∷ xs) ys t h = omega arith

pub right_there : (xs ys out : Pairs) (i j turn : ℕ) → IsMerged xs ys out i j turn → right_first (drop i xs) (drop j ys) ≡ true → j < length ys
right_there xs ys out i j turn k t = omega (arith, has_right (drop i xs) (drop j ys) t, length-drop j ys)

pub left_there : (xs ys out : Pairs) (i j turn : ℕ) → IsMerged xs ys out i j turn → turn < length xs + length ys → right_first (drop i xs) (drop j ys) ≡ false → i < length xs
left_there xs ys out i j turn k more t =
    omega (arith, has_left (drop i xs) (drop j ys) t (omega (arith, k.turns, k.left, k.right, more, length-drop i xs, length-drop j ys)), length-drop i xs)

pub right_merged : (xs ys out : Pairs) (i j turn : ℕ) (y : ℕ × model.Entry) → IsMerged xs ys out i j turn → Ascends 0 xs → Ascends 0 ys
    → right_first (drop i xs) (drop j ys) ≡ true → j < length ys → drop j ys ≡ y ∷ drop (j + 1) ys → IsMerged xs ys (out ++ y ∷ []) i (j + 1) (turn + 1)
right_merged xs ys out i j turn y k a b t there next =
    let first : right_first (drop i xs) (y ∷ drop (j + 1) ys) ≡ true = ap (right_first (drop i xs)) (sym next) ∙ t in
    let up : Ascends 0 (y ∷ drop (j + 1) ys) = subst (Ascends 0) next (ascends_drop j ys b) in
    record {
      turns = omega (arith, k.turns);
      left = k.left;
      right = omega (arith, there);
      joined = append_assoc out (y ∷ []) (sorted_by_key (drop i xs ++ drop (j + 1) ys))
          ∙ ap (λ zs. out ++ zs) (sym (right_turn (drop i xs) y (drop (j + 1) ys) (ascends_drop i xs a) up first))
          ∙ ap (λ zs. out ++ sorted_by_key (drop i xs ++ zs)) (sym next) ∙ k.joined;
    }

pub left_merged : (xs ys out : Pairs) (i j turn : ℕ) (x : ℕ × model.Entry) → IsMerged xs ys out i j turn → Ascends 0 xs → Ascends 0 ys
    → right_first (drop i xs) (drop j ys) ≡ false → i < length xs → drop i xs ≡ x ∷ drop (i + 1) xs → IsMerged xs ys (out ++ x ∷ []) (i + 1) j (turn + 1)
left_merged xs ys out i j turn x k a b t there next =
    let first : right_first (x ∷ drop (i + 1) xs) (drop j ys) ≡ false = ap (λ zs. right_first zs (drop j ys)) (sym next) ∙ t in
    let up : Ascends 0 (x ∷ drop (i + 1) xs) = subst (Ascends 0) next (ascends_drop i xs a) in
    record {
      turns = omega (arith, k.turns);
      left = omega (arith, there);
      right = k.right;
      joined = append_assoc out (x ∷ []) (sorted_by_key (drop (i + 1) xs ++ drop j ys))
          ∙ ap (λ zs. out ++ zs) (sym (left_turn x (drop (i + 1) xs) (drop j ys) up (ascends_drop j ys b) first))
          ∙ ap (λ zs. out ++ sorted_by_key (zs ++ drop j ys)) (sym next) ∙ k.joined;
    }

-- nothing is left
pub all_merged : (xs ys out : Pairs) (i j turn : ℕ) → IsMerged xs ys out i j turn → length xs + length ys ≤ turn → out ≡ sorted_by_key (xs ++ ys)
all_merged xs ys out i j turn k h =
    let no_left : drop i xs ≡ [] = drop_all i xs (omega (arith, k.turns, k.left, k.right, h)) in
    let no_right : drop j ys ≡ [] = drop_all j ys (omega (arith, k.turns, k.left, k.right, h)) in
    sym (append-nil out) ∙ ap (λ zs. out ++ sorted_by_key (zs ++ [])) (sym no_left) ∙ ap (λ zs. out ++ sorted_by_key (drop i xs ++ zs)) (sym no_right) ∙ k.joined

-- ---- several merges

at_key-append : (k : ℕ) (xs ys : Pairs) → at_key k (xs ++ ys) ≡ at_key k xs ++ at_key k ys
at_key-append k [] ys = refl
at_key-append k (x ∷ xs) ys = go (at_key-append k xs ys) (x.0 == k)
  where
    go : at_key k (xs ++ ys) ≡ at_key k xs ++ at_key k ys → (b : Bool) → cond b (x ∷ at_key k (xs ++ ys)) (at_key k (xs ++ ys)) ≡ cond b (x ∷ at_key k xs) (at_key k xs) ++ at_key k ys
    go rest true = ap (λ zs. x ∷ zs) rest
    go rest false = rest

pub sorted_again : (xs : Pairs) → sorted_by_key (sorted_by_key xs) ≡ sorted_by_key xs
sorted_again xs = sym (stable-is-sorted (sorted_by_key xs) (sorted_by_key xs) (sorted-ascends xs) (λ k. refl))

pub sorted_more : (xs ys : Pairs) → sorted_by_key (sorted_by_key xs ++ ys) ≡ sorted_by_key (xs ++ ys)
sorted_more xs ys =
    stable-is-sorted (xs ++ ys) (sorted_by_key (sorted_by_key xs ++ ys)) (sorted-ascends (sorted_by_key xs ++ ys))
    (λ k. sorted-at_key k (sorted_by_key xs ++ ys) ∙ at_key-append k (sorted_by_key xs) ys ∙ ap (λ zs. zs ++ at_key k ys) (sorted-at_key k xs) ∙ sym (at_key-append k xs ys))

pub ascends_sorted : (xs : Pairs) → sorted_by_key xs ≡ xs → Ascends 0 xs
ascends_sorted xs e = subst (Ascends 0) e (sorted-ascends xs)
