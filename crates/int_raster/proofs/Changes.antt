-- A list that is changed by place, in parts one after the other.
use Rattle.std.proofs.Common.{◌≡◌, ℕ, zero, suc, ◌+◌, ◌<◌, ◌≤◌, ◌≢◌, List, [], ◌∷◌, length, get_or, refl, ap, sym, ◌∙◌, arith}
use Rattle.std.proofs.Math.ListN.{set}
use Rattle.std.proofs.lemmas.Bool.Decides.{nat_tests}
use Rattle.gfx_model.specs.Number.{map_from}
use Rattle.gfx_model.proofs.PixelLaws.{map_from-map_from}
use Rattle.int_raster.specs.Places.{spanned}

pub length-map_from : {A B : Type 0} (f : ℕ → A → B) (n : ℕ) (xs : List A) → length (map_from f n xs) ≡ length xs
length-map_from f n [] = refl
length-map_from f n (x ∷ xs) = ap suc (length-map_from f (n + 1) xs)

-- two changes that agree at each place
pub map_from-same_at : {A B : Type 0} (f g : ℕ → A → B) (n m : ℕ) (xs : List A) → ((k : ℕ) (v : A) → k < length xs → f (n + k) v ≡ g (m + k) v) → map_from f n xs ≡ map_from g m xs
map_from-same_at f g n m [] h = refl
map_from-same_at f g n m (x ∷ xs) h =
    let n0 : n ≡ n + 0 = omega arith in
    let m0 : m + 0 ≡ m = omega arith in
    let head : f n x ≡ g m x = ap (λ k. f k x) n0 ∙ h 0 x (omega arith) ∙ ap (λ k. g k x) m0 in
    let tail : map_from f (n + 1) xs ≡ map_from g (m + 1) xs =
    map_from-same_at f g (n + 1) (m + 1) xs (λ k v b.
    let nk : n + 1 + k ≡ n + suc k = omega arith in
    let mk : m + suc k ≡ m + 1 + k = omega arith in
    ap (λ j. f j v) nk ∙ h (suc k) v (omega (arith, b)) ∙ ap (λ j. g j v) mk) in
    ap (λ y. y ∷ map_from f (n + 1) xs) head ∙ ap (λ ys. g m x ∷ ys) tail

pub map_from-same : {A B : Type 0} (f g : ℕ → A → B) (xs : List A) → ((k : ℕ) (v : A) → k < length xs → f k v ≡ g k v) → map_from f 0 xs ≡ map_from g 0 xs
map_from-same f g xs h =
    map_from-same_at f g 0 0 xs (λ k v b.
    let from_zero : 0 + k ≡ k = omega arith in
    ap (λ j. f j v) from_zero ∙ h k v b ∙ ap (λ j. g j v) (sym from_zero))

-- a change that leaves each element
pub map_from-none : {A : Type 0} (f : ℕ → A → A) (n : ℕ) (xs : List A) → ((k : ℕ) (v : A) → k < length xs → f (n + k) v ≡ v) → map_from f n xs ≡ xs
map_from-none f n [] h = refl
map_from-none f n (x ∷ xs) h =
    let n0 : n ≡ n + 0 = omega arith in
    let head : f n x ≡ x = ap (λ k. f k x) n0 ∙ h 0 x (omega arith) in
    let tail : map_from f (n + 1) xs ≡ xs =
    map_from-none f (n + 1) xs (λ k v b.
    let nk : n + 1 + k ≡ n + suc k = omega arith in
    ap (λ j. f j v) nk ∙ h (suc k) v (omega (arith, b))) in
    ap (λ y. y ∷ map_from f (n + 1) xs) head ∙ ap (λ ys. x ∷ ys) tail

pub get_or-map_from : {A : Type 0} (f : ℕ → A → A) (n i : ℕ) (xs : List A) (d : A) → i < length xs → get_or (map_from f n xs) i d ≡ f (n + i) (get_or xs i d)
get_or-map_from f n i [] d h = absurd (omega (arith, h))
get_or-map_from f n zero (x ∷ xs) d h = let n0 : n ≡ n + 0 = omega arith in ap (λ k. f k x) n0
get_or-map_from f n (suc i) (x ∷ xs) d h =
    let ni : n + 1 + i ≡ n + suc i = omega arith in
    get_or-map_from f (n + 1) i xs d (omega (arith, h)) ∙ ap (λ k. f k (get_or xs i d)) ni

-- one element more is changed
pub set-map_from : {A : Type 0} (f g : ℕ → A → A) (n i : ℕ) (xs : List A) (v d : A) → i < length xs → ((k : ℕ) (u : A) → k ≢ i → f (n + k) u ≡ g (n + k) u) → v ≡ g (n + i) (get_or xs i d) → set (map_from f n xs) i v ≡ map_from g n xs
set-map_from f g n i [] v d h same here = absurd (omega (arith, h))
set-map_from f g n zero (x ∷ xs) v d h same here =
    let n0 : n + 0 ≡ n = omega arith in
    let head : v ≡ g n x = here ∙ ap (λ k. g k x) n0 in
    let tail : map_from f (n + 1) xs ≡ map_from g (n + 1) xs =
    map_from-same_at f g (n + 1) (n + 1) xs (λ k u b.
    let nk : n + 1 + k ≡ n + suc k = omega arith in
    ap (λ j. f j u) nk ∙ same (suc k) u (omega arith) ∙ ap (λ j. g j u) (sym nk)) in
    ap (λ y. y ∷ map_from f (n + 1) xs) head ∙ ap (λ ys. g n x ∷ ys) tail
set-map_from f g n (suc i) (x ∷ xs) v d h same here =
    let n0 : n ≡ n + 0 = omega arith in
    let head : f n x ≡ g n x = ap (λ k. f k x) n0 ∙ same 0 x (omega arith) ∙ ap (λ k. g k x) (sym n0) in
    let ni : n + suc i ≡ n + 1 + i = omega arith in
    let tail : set (map_from f (n + 1) xs) i v ≡ map_from g (n + 1) xs =
    set-map_from f g (n + 1) i xs v d (omega (arith, h))
    (λ k u ne.
    let nk : n + 1 + k ≡ n + suc k = omega arith in
    ap (λ j. f j u) nk ∙ same (suc k) u (omega (arith, ne)) ∙ ap (λ j. g j u) (sym nk))
    (here ∙ ap (λ k. g k (get_or xs i d)) ni) in
    ap (λ y. y ∷ set (map_from f (n + 1) xs) i v) head ∙ ap (λ ys. g n x ∷ ys) tail

-- ---- a span

spanned_else : {A : Type 0} (g : ℕ → A → A) (first x k : ℕ) (u : A) → k ≢ x → spanned g first x k u ≡ spanned g first (x + 1) k u
spanned_else g first x k u h = grind (arith, nat_tests)

spanned_here : {A : Type 0} (g : ℕ → A → A) (first x : ℕ) (u : A) → first ≤ x → g x u ≡ spanned g first (x + 1) x u
spanned_here g first x u h = grind (arith, nat_tests)

spanned_not_yet : {A : Type 0} (g : ℕ → A → A) (first x : ℕ) (u : A) → spanned g first x x u ≡ u
spanned_not_yet g first x u = grind (arith, nat_tests)

spanned_nothing : {A : Type 0} (g : ℕ → A → A) (first k : ℕ) (u : A) → spanned g first first k u ≡ u
spanned_nothing g first k u = grind (arith, nat_tests)

-- before the first column of a span
pub span_none : {A : Type 0} (g : ℕ → A → A) (first : ℕ) (xs : List A) → xs ≡ map_from (spanned g first first) 0 xs
span_none g first xs = sym (map_from-none (spanned g first first) 0 xs (λ k u h. spanned_nothing g first (0 + k) u))

-- the element at the next column is as it was
pub span_next : {A : Type 0} (g : ℕ → A → A) (first x : ℕ) (xs ys : List A) (d : A) → ys ≡ map_from (spanned g first x) 0 xs → x < length xs → get_or ys x d ≡ get_or xs x d
span_next g first x xs ys d e h =
    let zx : 0 + x ≡ x = omega arith in
    ap (λ zs. get_or zs x d) e ∙ get_or-map_from (spanned g first x) 0 x xs d h ∙ ap (λ k. spanned g first x k (get_or xs x d)) zx ∙ spanned_not_yet g first x (get_or xs x d)

-- one column more
pub span_more : {A : Type 0} (g : ℕ → A → A) (first x : ℕ) (xs ys : List A) (v d : A) → ys ≡ map_from (spanned g first x) 0 xs → first ≤ x → x < length xs → v ≡ g x (get_or ys x d) → set ys x v ≡ map_from (spanned g first (x + 1)) 0 xs
span_more g first x xs ys v d e a h here =
    let zx : x ≡ 0 + x = omega arith in
    ap (λ zs. set zs x v) e
    ∙ set-map_from (spanned g first x) (spanned g first (x + 1)) 0 x xs v d h
    (λ k u ne. spanned_else g first x (0 + k) u (omega (arith, ne)))
    (here ∙ ap (g x) (span_next g first x xs ys d e h) ∙ spanned_here g first x (get_or xs x d) a ∙ ap (λ k. spanned g first (x + 1) k (get_or xs x d)) zx)

spanned_joined : {A : Type 0} (g : ℕ → A → A) (first x after k : ℕ) (u : A) → first ≤ x → x ≤ after → spanned g x after k (spanned g first x k u) ≡ spanned g first after k u
spanned_joined g first x after k u a b = grind (arith, nat_tests)

-- a span in two parts
pub spans_joined : {A : Type 0} (g : ℕ → A → A) (first x after : ℕ) (xs ys zs : List A) → first ≤ x → x ≤ after →
    ys ≡ map_from (spanned g first x) 0 xs → zs ≡ map_from (spanned g x after) 0 ys → zs ≡ map_from (spanned g first after) 0 xs
spans_joined g first x after xs ys zs a b e d =
    d ∙ ap (map_from (spanned g x after) 0) e
    ∙ map_from-map_from (spanned g first x) (spanned g x after) 0 xs
    ∙ map_from-same (λ i p. spanned g x after i (spanned g first x i p)) (spanned g first after) xs (λ k u h. spanned_joined g first x after k u a b)
