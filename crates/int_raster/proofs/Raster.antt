-- Rows of a surface that are changed one after the other, and triangles one after the other.
use Rattle.std.proofs.Common.{◌≡◌, ℕ, ◌+◌, ◌-◌, ◌*◌, ◌/◌, ◌%◌, ◌<◌, ◌≤◌, Bool, true, false, ◌&&◌, nat_le, nat_lt, if◌then◌else◌, List, [], ◌∷◌, length, fold, map, refl, ap, sym, subst, ◌∙◌, arith, ⊎_elim}
use Rattle.std.proofs.lemmas.Nat.{div-add-mod', div_below, mod-mul-add, div-mul-add}
use Rattle.std.proofs.Math.Nat.{mod-lt, mul-le-mul_left}
use Rattle.std.proofs.lemmas.Bool.{and_parts, and_from, le-leb, leb-true, ltb-true, ltb-false, lt-ltb, le-ltb, lt-leb, and_right, cases_order}
use Rattle.std.proofs.lemmas.Bool.Decides.{nat_tests}
use Rattle.gfx_model.specs.Number.{map_from}
use Rattle.gfx_model.specs.Pixel.{Pixel}
use Rattle.gfx_model.specs.Raster.{Rect, contains, covers}
use Rattle.gfx_model.specs.World.{Facing}
use Rattle.gfx_model.proofs.PixelLaws.{map_from-map_from, fold-map_from}
use Rattle.int_raster.specs.Drawing.{PreparedDraw, facing_shown, covered_step, facing_step, prepared_step}
use Rattle.tri_cover.specs.Shown.{setup_seen}
use Rattle.tri_cover.specs.declared.triangles.Setup.{Setup}
use Rattle.std.proofs.lemmas.List.Folds.{fold-map}
use Rattle.int_raster.specs.declared.lists.Prepared.{Prepared}
use Rattle.int_raster.specs.Seen.{prepared_seen, facing_seen, change_seen}
use Rattle.int_raster.specs.Places.{spanned, by_place, above, where_test, is_drawn, facing_change, in_row, below}
use Rattle.int_raster.proofs.Changes.{map_from-same, map_from-none}

-- ---- one row

-- the statement that a pixel of column r and row q is right after the row y, where first and after are the row's ends
abbrev RowPixel : {A : Type 0} → (ℕ → ℕ → A → A) → (ℕ → ℕ → Bool) → (w y first after r : ℕ) → A → ℕ → Type 0
RowPixel f test w y first after r p q =
    (if nat_le (y * w + first) (q * w + r) && nat_lt (q * w + r) (y * w + after)
    then f r q (if nat_lt q y then where_test test f r q p else p)
    else (if nat_lt q y then where_test test f r q p else p))
    ≡ (if nat_lt q (y + 1) then where_test test f r q p else p)

behind_row : (w y first q r : ℕ) → r < w → q < y → q * w + r < y * w + first
behind_row w y first q r b l = let k : q + 1 ≤ y = omega arith in omega (arith, mul-le-mul_left w k)

before_row : (w y after q r : ℕ) → after ≤ w → y < q → y * w + after ≤ q * w + r
before_row w y after q r h l = let k : y + 1 ≤ q = omega arith in omega (arith, mul-le-mul_left w k)

pixel_above : {A : Type 0} (f : ℕ → ℕ → A → A) (test : ℕ → ℕ → Bool) (w y first after r : ℕ) (p : A) (q : ℕ) → r < w → q < y → RowPixel f test w y first after r p q
pixel_above f test w y first after r p q b l =
    let no : nat_le (y * w + first) (q * w + r) ≡ false = lt-leb (y * w + first) (q * w + r) (behind_row w y first q r b l) in
    let now : nat_lt q y ≡ true = lt-ltb q y l in
    let then_too : nat_lt q (y + 1) ≡ true = lt-ltb q (y + 1) (omega arith) in
    (λ i. if no i && nat_lt (q * w + r) (y * w + after) then f r q (if nat_lt q y then where_test test f r q p else p) else (if now i then where_test test f r q p else p))
    ∙ sym (λ i. if then_too i then where_test test f r q p else p)

pixel_below : {A : Type 0} (f : ℕ → ℕ → A → A) (test : ℕ → ℕ → Bool) (w y first after r : ℕ) (p : A) (q : ℕ) → after ≤ w → y < q → RowPixel f test w y first after r p q
pixel_below f test w y first after r p q h l =
    let none : (nat_le (y * w + first) (q * w + r) && nat_lt (q * w + r) (y * w + after)) ≡ false =
    and_right (nat_le (y * w + first) (q * w + r)) (nat_lt (q * w + r) (y * w + after)) (le-ltb (q * w + r) (y * w + after) (before_row w y after q r h l)) in
    let not_yet : nat_lt q y ≡ false = le-ltb q y (omega arith) in
    let nor_then : nat_lt q (y + 1) ≡ false = le-ltb q (y + 1) (omega arith) in
    (λ i. if none i then f r q (if nat_lt q y then where_test test f r q p else p) else (if not_yet i then where_test test f r q p else p))
    ∙ sym (λ i. if nor_then i then where_test test f r q p else p)

low_end : (n first r : ℕ) → nat_le (n + first) (n + r) ≡ nat_le first r
low_end n first r = grind (arith, nat_tests)

high_end : (n after r : ℕ) → nat_lt (n + r) (n + after) ≡ nat_lt r after
high_end n after r = grind (arith, nat_tests)

pixel_here : {A : Type 0} (f : ℕ → ℕ → A → A) (test : ℕ → ℕ → Bool) (w y first after r : ℕ) (p : A) → (test r y ≡ (nat_le first r && nat_lt r after)) → RowPixel f test w y first after r p y
pixel_here f test w y first after r p t =
    let not_yet : nat_lt y y ≡ false = le-ltb y y (omega arith) in
    let now : nat_lt y (y + 1) ≡ true = lt-ltb y (y + 1) (omega arith) in
    (λ i. if low_end (y * w) first r i && high_end (y * w) after r i then f r y (if not_yet i then where_test test f r y p else p) else (if not_yet i then where_test test f r y p else p))
    ∙ (λ i. if sym t i then f r y p else p)
    ∙ sym (λ i. if now i then where_test test f r y p else p)

row_pixel : {A : Type 0} (f : ℕ → ℕ → A → A) (test : ℕ → ℕ → Bool) (w y first after r : ℕ) (p : A) (q : ℕ) → r < w → after ≤ w → (test r y ≡ (nat_le first r && nat_lt r after)) → RowPixel f test w y first after r p q
row_pixel f test w y first after r p q b h t =
    ⊎_elim
    (λ e. subst (λ n. RowPixel f test w y first after r p n) (sym e) (pixel_here f test w y first after r p t))
    (λ d. ⊎_elim (λ l. pixel_above f test w y first after r p q b l) (λ l. pixel_below f test w y first after r p q h l) d)
    (cases_order q y)

-- the pixel of a place after one row more
row_place : {A : Type 0} (f : ℕ → ℕ → A → A) (test : ℕ → ℕ → Bool) (w y first after i : ℕ) (p : A) → 0 < w → after ≤ w → ((x : ℕ) → x < w → test x y ≡ (nat_le first x && nat_lt x after)) →
    spanned (by_place w f) (y * w + first) (y * w + after) i (above w y (where_test test f) i p) ≡ above w (y + 1) (where_test test f) i p
row_place f test w y first after i p pw h t =
    let place : i ≡ i / w * w + i % w = sym (div-add-mod' i w) in
    ap (λ k. if nat_le (y * w + first) k && nat_lt k (y * w + after) then f (i % w) (i / w) (above w y (where_test test f) i p) else above w y (where_test test f) i p) place
    ∙ row_pixel f test w y first after (i % w) p (i / w) (mod-lt i pw) h (t (i % w) (mod-lt i pw))

in_both : {A : Type 0} (c d : Bool) (u v p : A) → (c ≡ true → d ≡ true → u ≡ v) → (if c && d then u else p) ≡ (if c && d then v else p)
in_both true true u v p h = h refl refl
in_both true false u v p h = refl
in_both false d u v p h = refl

-- a span of a band's row, by its columns and by its places in the band
row_by_place : {A : Type 0} (f : ℕ → ℕ → A → A) (w top row first after k : ℕ) (p : A) → after ≤ w →
    spanned (in_row (row * w) (top + row) f) (row * w + first) (row * w + after) k p ≡ spanned (by_place w (below top f)) (row * w + first) (row * w + after) k p
row_by_place f w top row first after k p h =
    in_both (nat_le (row * w + first) k) (nat_lt k (row * w + after)) (f (k - row * w) (top + row) p) (f (k % w) (top + k / w) p) p
    (λ a b.
    let low : row * w + first ≤ k = leb-true (row * w + first) k a in
    let high : k < row * w + after = ltb-true k (row * w + after) b in
    let place : row * w + (k - row * w) ≡ k = omega (arith, low) in
    let inside : k - row * w < w = omega (arith, low, high, h) in
    let column : k - row * w ≡ k % w = sym (mod-mul-add row w (k - row * w) inside) ∙ ap (λ j. j % w) place in
    let rows : row ≡ k / w = sym (div-mul-add row w (k - row * w) inside) ∙ ap (λ j. j / w) place in
    (λ i. f (column i) (top + rows i) p))

-- one row more is changed
pub row_more : {A : Type 0} (f : ℕ → ℕ → A → A) (test : ℕ → ℕ → Bool) (w top row first after : ℕ) (xs ys zs : List A) → 0 < w → after ≤ w → ((x : ℕ) → x < w → test x (top + row) ≡ (nat_le first x && nat_lt x after)) →
    ys ≡ map_from (above w row (below top (where_test test f))) 0 xs →
    zs ≡ map_from (spanned (in_row (row * w) (top + row) f) (row * w + first) (row * w + after)) 0 ys →
    zs ≡ map_from (above w (row + 1) (below top (where_test test f))) 0 xs
row_more f test w top row first after xs ys zs pw h t e d =
    let step = spanned (by_place w (below top f)) (row * w + first) (row * w + after) in
    d ∙ map_from-same (spanned (in_row (row * w) (top + row) f) (row * w + first) (row * w + after)) step ys (λ k p b. row_by_place f w top row first after k p h)
    ∙ ap (map_from step 0) e
    ∙ map_from-map_from (above w row (below top (where_test test f))) step 0 xs
    ∙ map_from-same (λ i p. step i (above w row (below top (where_test test f)) i p)) (above w (row + 1) (below top (where_test test f))) xs
    (λ i p b. row_place (below top f) (λ x y. test x (top + y)) w row first after i p pw h t)

-- ---- rows that are left out

left_before : {A : Type 0} (c t : Bool) (u p : A) → (c ≡ true → t ≡ true → ⊥) → (if c then (if t then u else p) else p) ≡ p
left_before true true u p h = absurd (h refl refl)
left_before true false u p h = refl
left_before false t u p h = refl

left_behind : {A : Type 0} (c t : Bool) (u p : A) → (c ≡ false → t ≡ true → ⊥) → (if c then (if t then u else p) else p) ≡ (if t then u else p)
left_behind true t u p h = refl
left_behind false true u p h = absurd (h refl refl)
left_behind false false u p h = refl

-- before the first row that the test holds in
pub rows_before : {A : Type 0} (f : ℕ → ℕ → A → A) (test : ℕ → ℕ → Bool) (w height first : ℕ) (xs : List A) → 0 < w → length xs ≡ w * height → ((x y : ℕ) → y < height → test x y ≡ true → first ≤ y) →
    xs ≡ map_from (above w first (where_test test f)) 0 xs
rows_before {A = A} f test w height first xs pw l h = sym (map_from-none (above w first (where_test test f)) 0 xs (λ k p b. still (0 + k) p (omega (arith, b))))
  where
    still : (i : ℕ) (p : A) → i < length xs → above w first (where_test test f) i p ≡ p
    still i p b =
        left_before (nat_lt (i / w) first) (test (i % w) (i / w)) (f (i % w) (i / w) p) p
        (λ c t. omega (arith, ltb-true (i / w) first c, h (i % w) (i / w) (div_below i w height pw (omega (arith, b, l))) t))

-- behind the last one
pub rows_behind : {A : Type 0} (f : ℕ → ℕ → A → A) (test : ℕ → ℕ → Bool) (w height after : ℕ) (xs ys : List A) → 0 < w → length xs ≡ w * height → ((x y : ℕ) → y < height → test x y ≡ true → y < after) →
    ys ≡ map_from (above w after (where_test test f)) 0 xs →
    ys ≡ map_from (by_place w (where_test test f)) 0 xs
rows_behind f test w height after xs ys pw l h e =
    e ∙ map_from-same (above w after (where_test test f)) (by_place w (where_test test f)) xs
    (λ i p b.
    left_behind (nat_lt (i / w) after) (test (i % w) (i / w)) (f (i % w) (i / w) p) p
    (λ c t. omega (arith, ltb-false (i / w) after c, h (i % w) (i / w) (div_below i w height pw (omega (arith, b, l))) t)))

-- where the test holds in no row
pub rows_none : {A : Type 0} (f : ℕ → ℕ → A → A) (test : ℕ → ℕ → Bool) (w height : ℕ) (xs : List A) → 0 < w → length xs ≡ w * height → ((x y : ℕ) → y < height → test x y ≡ true → ⊥) →
    xs ≡ map_from (by_place w (where_test test f)) 0 xs
rows_none f test w height xs pw l h =
    rows_behind f test w height 0 xs xs pw l (λ x y b t. absurd (h x y b t)) (rows_before f test w height 0 xs pw l (λ x y b t. absurd (h x y b t)))

-- ---- triangles one after the other

fold_kept : {A B : Type 0} (p : A) (bs : List B) → fold (λ q b. q) p bs ≡ p
fold_kept p [] = refl
fold_kept p (b ∷ bs) = fold_kept p bs

-- a test that is the same for all triangles
fold_where : (d : PreparedDraw) (x y : ℕ) (c : Bool) (p : Pixel) (fs : List Facing) →
    fold (λ q f. if c && covers f.triangle x y then covered_step d.state d.paint f x y q else q) p fs ≡ (if c then fold (facing_step d.state d.paint x y) p fs else p)
fold_where d x y true p fs = refl
fold_where d x y false p fs = fold_kept p fs

-- all triangles, each on the whole band, are the triangles in turn at each pixel
pub triangles_in_turn : (d : PreparedDraw) (w top : ℕ) (ps : List Pixel) →
    fold (λ qs f. map_from (by_place w (below top (facing_change d f))) 0 qs) ps d.facings ≡ map_from (by_place w (below top (prepared_step d))) 0 ps
triangles_in_turn d w top ps =
    fold-map_from (λ i p f. by_place w (below top (facing_change d f)) i p) d.facings 0 ps
    ∙ map_from-same (λ i p. fold (λ q f. by_place w (below top (facing_change d f)) i q) p d.facings) (by_place w (below top (prepared_step d))) ps
    (λ i p b. fold_where d (i % w) (top + i / w) (contains d.cut (i % w) (top + i / w)) p d.facings)

-- the same, the triangles as they are in memory
pub setups_in_turn : (d : Prepared) (w top : ℕ) (ps : List Pixel) (ss : List Setup) →
    fold (λ qs s. map_from (by_place w (below top (change_seen d s))) 0 qs) ps ss ≡ map_from (by_place w (below top (prepared_step (prepared_seen d (map setup_seen ss))))) 0 ps
setups_in_turn d w top ps ss =
    sym (fold-map (λ qs f. map_from (by_place w (below top (facing_change (prepared_seen d []) f))) 0 qs) (facing_seen d) ps ss)
    ∙ ap (fold (λ qs f. map_from (by_place w (below top (facing_change (prepared_seen d []) f))) 0 qs) ps) (same ss)
    ∙ triangles_in_turn (prepared_seen d (map setup_seen ss)) w top ps
  where
    same : (ts : List Setup) → map (facing_seen d) ts ≡ map (facing_shown d.front d.back) (map setup_seen ts)
    same [] = refl
    same (t ∷ ts) = ap (λ fs. facing_seen d t ∷ fs) (same ts)

-- a column between the ends of a row is covered
pub drawn_column : (cut : Rect) (f : Facing) (first after x y : ℕ) → is_drawn cut f x y ≡ (nat_le first x && nat_lt x after) → first ≤ x → x < after → covers f.triangle x y ≡ true
drawn_column cut f first after x y e a b =
    (and_parts (contains cut x y) (covers f.triangle x y) (e ∙ and_from (nat_le first x) (nat_lt x after) (le-leb first x a) (lt-ltb x after b))).1
