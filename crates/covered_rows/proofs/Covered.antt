-- Each covered pixel is in a run.
use Rattle.std.proofs.Common.{◌≡◌, ℕ, ◌+◌, ◌<◌, ◌≤◌, inl, inr, Bool, true, false, nat_le, nat_lt, ◌&&◌, List, [], ◌∷◌, ◌++◌, refl, sym, subst, ◌∙◌, arith}
use Rattle.gfx_model.specs.Vertex.{Triangle}
use Rattle.gfx_model.specs.Raster.{Rect, ScreenVertex, contains, covers}
use Rattle.shared_keys.specs.Members.{In}
use Rattle.shared_keys.proofs.Members.{member-left, member-right, member-of-both}
use Rattle.shared_keys.proofs.Order.{parts, both}
use Rattle.covered_rows.specs.declared.runs.Run.{Run}
use Rattle.covered_rows.specs.Covering.{HasRun, HasRow, HasRowsBefore, HasAll, Keeps, IsOf, AddsOnly}

le_from_test : (m n : ℕ) → nat_le m n ≡ true → m ≤ n
le_from_test m n e = grind (arith, e)

lt_from_test : (m n : ℕ) → nat_lt m n ≡ true → m < n
lt_from_test m n e = grind (arith, e)

not_less : (m n : ℕ) → nat_lt m n ≡ false → n ≤ m
not_less m n e = grind (arith, e)

-- a column that a span has
pub columns-told : (first after x : ℕ) (b : Bool) → b ≡ (nat_le first x && nat_lt x after) → b ≡ true → (first ≤ x) × (x < after)
columns-told first after x b is holds =
    let two = parts (nat_le first x) (nat_lt x after) (sym is ∙ holds) in
    (le_from_test first x two.0, lt_from_test x after two.1)

pub record IsIn (r : Rect) (x y : ℕ) : Type 0 where
  pub left : r.x ≤ x
  pub right : x < r.x + r.w
  pub upper : r.y ≤ y
  pub lower : y < r.y + r.h

pub contains-told : (r : Rect) (x y : ℕ) → contains r x y ≡ true → IsIn r x y
contains-told r x y h =
    let three = parts ((nat_le r.x x && nat_lt x (r.x + r.w)) && nat_le r.y y) (nat_lt y (r.y + r.h)) h in
    let two = parts (nat_le r.x x && nat_lt x (r.x + r.w)) (nat_le r.y y) three.0 in
    let one = parts (nat_le r.x x) (nat_lt x (r.x + r.w)) two.0 in
    record { left = le_from_test r.x x one.0; right = lt_from_test x (r.x + r.w) one.1; upper = le_from_test r.y y two.1; lower = lt_from_test y (r.y + r.h) three.1 }

pub keeps-more : (old new : List Run) (run : Run) → new ≡ old ++ run ∷ [] → Keeps old new
keeps-more old new run e r i = subst (λ (xs : List Run). In r xs) (sym e) (member-left r old (run ∷ []) i)

pub has-more : (old new : List Run) (run : Run) → new ≡ old ++ run ∷ [] → In run new
has-more old new run e = subst (λ (xs : List Run). In run xs) (sym e) (member-right run old (run ∷ []) (inl refl))

moved : (old new : List Run) (key e x y : ℕ) → Keeps old new → HasRun old key e x y → HasRun new key e x y
moved old new key e x y keeps (r, i, k, own, row, col) = (r, keeps r i, k, own, row, col)

-- one row more
pub row-more : (old new : List Run) (key e : ℕ) (t : Triangle ScreenVertex) (cut : Rect) (width height row : ℕ) → Keeps old new → HasRowsBefore old key e t cut width height row → HasRow new key e t cut width row → HasRowsBefore new key e t cut width height (row + 1)
row-more old new key e t cut width height row keeps before here x y lx ly inside covered below = go (nat_lt y row) refl
  where
    go : (b : Bool) → nat_lt y row ≡ b → HasRun new key e x y
    go true is = moved old new key e x y keeps (before x y lx ly inside covered (lt_from_test y row is))
    go false is =
        let far = not_less y row is in
        let same : y ≡ row = omega (arith, far, below) in
        let at = contains-told cut x y inside in
        subst (λ (z : ℕ). HasRun new key e x z) (sym same) (here x lx at.left at.right (subst (λ (z : ℕ). covers t x z ≡ true) same covered))

-- before the first row there is nothing
pub none-before : (runs : List Run) (key e : ℕ) (t : Triangle ScreenVertex) (cut : Rect) (width height first start : ℕ) → ((x y : ℕ) → y < height → covers t x y ≡ true → first ≤ y) → ((n : ℕ) → first ≤ n → cut.y ≤ n → start ≤ n) → HasRowsBefore runs key e t cut width height start
none-before runs key e t cut width height first start rows least x y lx ly inside covered below =
    let l : start ≤ y = least y (rows x y ly covered) (contains-told cut x y inside).upper in
    absurd (omega (arith, l, below))

-- behind the last row there is nothing more
pub all-before : (runs : List Run) (key e : ℕ) (t : Triangle ScreenVertex) (cut : Rect) (width height after end row : ℕ) → end ≤ row → ((x y : ℕ) → y < height → covers t x y ≡ true → y < after) → ((n : ℕ) → n < after → n < cut.y + cut.h → n < end)
    → HasRowsBefore runs key e t cut width height row → HasAll runs key e t cut width height
all-before runs key e t cut width height after end row done rows most before x y lx ly inside covered =
    let l : y < end = most y (rows x y ly covered) (contains-told cut x y inside).lower in
    before x y lx ly inside covered (omega (arith, l, done))

-- ---- no run is of a pixel that is not covered

le_test : (m n : ℕ) → m ≤ n → nat_le m n ≡ true
le_test m n e = grind (arith, e)

lt_test : (m n : ℕ) → m < n → nat_lt m n ≡ true
lt_test m n e = grind (arith, e)

-- a column between the ends is covered
pub column-covered : (first after left right x0 w width x : ℕ) (covered : ℕ → Bool) → ((z : ℕ) → z < width → covered z ≡ (nat_le first z && nat_lt z after)) → after ≤ width → (first ≤ left) × (x0 ≤ left) → (right ≤ after) × (right ≤ x0 + w) → left ≤ x → x < right
    → (x < width) × (x0 ≤ x) × (x < x0 + w) × (covered x ≡ true)
column-covered first after left right x0 w width x covered is within ends begins l r =
    let a = ends.0 in
    let b = ends.1 in
    let c = begins.0 in
    let d = begins.1 in
    let wide : x < width = omega (arith, r, c, within) in
    let low : first ≤ x = omega (arith, a, l) in
    let high : x < after = omega (arith, r, c) in
    (wide, omega (arith, b, l), omega (arith, r, d), is x wide ∙ both (nat_le first x) (nat_lt x after) (le_test first x low) (lt_test x after high))

pub contains-from : (r : Rect) (x y : ℕ) → r.x ≤ x → x < r.x + r.w → r.y ≤ y → y < r.y + r.h → contains r x y ≡ true
contains-from r x y a b c d =
    both ((nat_le r.x x && nat_lt x (r.x + r.w)) && nat_le r.y y) (nat_lt y (r.y + r.h))
    (both (nat_le r.x x && nat_lt x (r.x + r.w)) (nat_le r.y y) (both (nat_le r.x x) (nat_lt x (r.x + r.w)) (le_test r.x x a) (lt_test x (r.x + r.w) b)) (le_test r.y y c)) (lt_test y (r.y + r.h) d)

pub adds-one : (old new : List Run) (run : Run) → new ≡ old ++ run ∷ [] → run.first < run.after → AddsOnly (λ r. (r ≡ run) × (run.first < run.after)) old new
adds-one old new run e some r i = elim (member-of-both r old (run ∷ []) (subst (λ (xs : List Run). In r xs) e i)) [
  | inl a ↦ inl a
  | inr b ↦ elim b [
    | inl same ↦ inr (same, some)
    | inr none ↦ absurd none
  ]
]

pub adds-then : (P : Run → Type 0) (a b c : List Run) → AddsOnly P a b → AddsOnly P b c → AddsOnly P a c
adds-then P a b c first second r i = elim (second r i) [
  | inl old ↦ first r old
  | inr own ↦ inr own
]

-- the run of a row
pub row-adds : (old new : List Run) (key e row first after : ℕ) (t : Triangle ScreenVertex) (cut : Rect) (width height : ℕ) → row < height → cut.y ≤ row → row < cut.y + cut.h
    → ((x : ℕ) → first ≤ x → x < after → (x < width) × (cut.x ≤ x) × (x < cut.x + cut.w) × (covers t x row ≡ true))
    → AddsOnly (λ r. (r ≡ record { key = key; encoder = e; row = row; first = first; after = after }) × (first < after)) old new → AddsOnly (IsOf key e t cut width height) old new
row-adds old new key e row first after t cut width height low upper lower only adds r i = elim (adds r i) [
  | inl a ↦ inl a
  | inr own ↦ inr (subst (λ (z : Run). IsOf key e t cut width height z) (sym own.0) (record {
    key_is = refl;
    encoder_is = refl;
    low = low;
    some = own.1;
    covered = λ x col. let c = only x col.0 col.1 in (c.0, contains-from cut x row c.1 c.2 upper lower, c.3);
  }))
]
