-- Missing vertices at the end of a draw have no triangle.
use Rattle.std.proofs.Common.{◌≡◌, ℕ, zero, suc, ◌+◌, ◌*◌, ◌-◌, ◌≤◌, Bool, true, false, not, List, [], ◌∷◌, ◌++◌, length, map, Option, Some, None, refl, sym, ap, ◌∙◌, arith}
use Rattle.std.specs.Prelude.{replicate, nat_le, ◌==◌, if◌then◌else◌}
use Rattle.std.specs.List.{cons_option, range_with_len}
use Rattle.std.proofs.lemmas.List.{append-nil, append_assoc, map-append, replicate_more}
use Rattle.std.proofs.lemmas.List.FromFn.{map-range_with_len_more}
use Rattle.std.proofs.lemmas.Bool.Decides.{nat_tests}
use Rattle.std.proofs.Math.Nat.{mul-le-mul_right}
use Rattle.gfx_model.specs.Vertex.{Layout, Triangle, VertexRange, fetch, index_at, indexed_vertex, listed_triangles, strip_triangles, triangles_of}
use Rattle.gfx_model.specs.Raster.{ScreenVertex}
use Rattle.view_drawing.specs.Shapes.{kept, kept_of, turned, IsFrontOf}

-- ---- triangles

-- a triangle without its third corner is not kept
unkept : (cull : ℕ) (a b : Option ScreenVertex) → kept cull (record { a = a; b = b; c = None }) ≡ None
unkept cull None b = refl
unkept cull (Some a) None = refl
unkept cull (Some a) (Some b) = refl

no_more : (cull : ℕ) (a b : Option ScreenVertex) (ts : List (Triangle (Option ScreenVertex))) → kept_of cull (record { a = a; b = b; c = None } ∷ ts) ≡ kept_of cull ts
no_more cull a b ts = ap (λ o. cons_option o (kept_of cull ts)) (unkept cull a b)

listed_none : (cull n : ℕ) → kept_of cull (listed_triangles (replicate n None)) ≡ []
listed_none cull zero = refl
listed_none cull (suc zero) = refl
listed_none cull (suc (suc zero)) = refl
listed_none cull (suc (suc (suc n))) = no_more cull None None (listed_triangles (replicate n None)) ∙ listed_none cull n

listed_front : (cull : ℕ) (xs : List (Option ScreenVertex)) (n : ℕ) → kept_of cull (listed_triangles (xs ++ replicate n None)) ≡ kept_of cull (listed_triangles xs)
listed_front cull [] n = listed_none cull n
listed_front cull (a ∷ []) zero = refl
listed_front cull (a ∷ []) (suc zero) = refl
listed_front cull (a ∷ []) (suc (suc n)) = no_more cull a None (listed_triangles (replicate n None)) ∙ listed_none cull n
listed_front cull (a ∷ b ∷ []) zero = refl
listed_front cull (a ∷ b ∷ []) (suc n) = no_more cull a b (listed_triangles (replicate n None)) ∙ listed_none cull n
listed_front cull (a ∷ b ∷ c ∷ rest) n = ap (cons_option (kept cull (record { a = a; b = b; c = c }))) (listed_front cull rest n)

no_turn : (cull : ℕ) (odd : Bool) (a b : Option ScreenVertex) (ts : List (Triangle (Option ScreenVertex))) → kept_of cull (turned odd a b None ∷ ts) ≡ kept_of cull ts
no_turn cull true a b ts = no_more cull b a ts
no_turn cull false a b ts = no_more cull a b ts

strip_none : (cull : ℕ) (odd : Bool) (a : Option ScreenVertex) (n : ℕ) → kept_of cull (strip_triangles odd (a ∷ replicate n None)) ≡ []
strip_none cull odd a zero = refl
strip_none cull odd a (suc zero) = refl
strip_none cull odd a (suc (suc n)) = no_turn cull odd a None (strip_triangles (not odd) (replicate (suc (suc n)) None)) ∙ strip_none cull (not odd) None (suc n)

strip_front : (cull : ℕ) (odd : Bool) (xs : List (Option ScreenVertex)) (n : ℕ) → kept_of cull (strip_triangles odd (xs ++ replicate n None)) ≡ kept_of cull (strip_triangles odd xs)
strip_front cull odd [] zero = refl
strip_front cull odd [] (suc n) = strip_none cull odd None n
strip_front cull odd (a ∷ []) n = strip_none cull odd a n
strip_front cull odd (a ∷ b ∷ []) zero = refl
strip_front cull odd (a ∷ b ∷ []) (suc n) = no_turn cull odd a b (strip_triangles (not odd) (b ∷ replicate (suc n) None)) ∙ strip_none cull (not odd) b (suc n)
strip_front cull odd (a ∷ b ∷ c ∷ rest) n = ap (cons_option (kept cull (turned odd a b c))) (strip_front cull (not odd) (b ∷ c ∷ rest) n)

-- the triangles that are kept of all vertices are those of the ones in front of the missing ones
pub kept_front : (cull primitive : ℕ) (front all : List (Option ScreenVertex)) → IsFrontOf front all → kept_of cull (triangles_of primitive front) ≡ kept_of cull (triangles_of primitive all)
kept_front cull primitive front all (n, is) = sym (ap (λ vs. kept_of cull (triangles_of primitive vs)) is ∙ go (primitive == 0))
  where
    go : (b : Bool) → kept_of cull (if b then listed_triangles (front ++ replicate n None) else strip_triangles false (front ++ replicate n None)) ≡ kept_of cull (if b then listed_triangles front else strip_triangles false front)
    go true = listed_front cull front n
    go false = strip_front cull false front n

-- ---- vertices

-- numbers of a range for which nothing is found stand at its end
found_front : {A : Type 0} (h : ℕ → Option A) (first k m : ℕ) → ((i : ℕ) → first + k ≤ i → h i ≡ None) → map h (range_with_len first (k + m)) ≡ map h (range_with_len first k) ++ replicate m None
found_front h first k zero later = ap (λ n. map h (range_with_len first n)) (omega arith) ∙ sym (append-nil (map h (range_with_len first k)))
found_front {A} h first k (suc m) later =
    let next : k + suc m ≡ (k + m) + 1 = omega arith in
    let past : first + k ≤ first + (k + m) = omega arith in
    let one : m + 1 ≡ suc m = omega arith in
    ap (λ n. map h (range_with_len first n)) next
    ∙ map-range_with_len_more h first (k + m) (first + (k + m)) refl
    ∙ (λ i. found_front h first k m later i ++ later (first + (k + m)) past i ∷ [])
    ∙ append_assoc (map h (range_with_len first k)) (replicate m None) (None ∷ [])
    ∙ ap (λ (zs : List (Option A)). map h (range_with_len first k) ++ zs) (replicate_more m None ∙ ap (λ n. replicate n None) one)

map_none : {A B : Type 0} (p : Option A → Option B) → p None ≡ None → (n : ℕ) → map p (replicate n None) ≡ replicate n None
map_none p e zero = refl
map_none p e (suc n) = λ i. e i ∷ map_none p e n i

-- what was placed before the first one that is not there is the front of all
pub placed_front : {X A B : Type 0} (g : X → Option B) (p : Option A → Option B) (h : ℕ → Option A) (first k count : ℕ) (placed : List X) → p None ≡ None → k ≤ count
    → ((i : ℕ) → first + k ≤ i → h i ≡ None) → map g placed ≡ map p (map h (range_with_len first k)) → IsFrontOf (map g placed) (map p (map h (range_with_len first count)))
placed_front {B = B} g p h first k count placed none le later same =
    let all : count ≡ k + (count - k) = omega (arith, le) in (
      count - k,
      ap (λ n. map p (map h (range_with_len first n))) all
          ∙ ap (map p) (found_front h first k (count - k) later)
          ∙ map-append p (map h (range_with_len first k)) (replicate (count - k) None)
          ∙ (λ i. sym same i ++ map_none p none (count - k) i),
    )

-- all was placed
pub whole_front : {B : Type 0} (front all : List (Option B)) → front ≡ all → IsFrontOf front all
whole_front front all e = (0, sym e ∙ sym (append-nil front))

-- behind a vertex that is not there is none
pub none_after : (l : Layout) (bytes : List ℕ) (i : ℕ) → fetch l bytes i ≡ None → (j : ℕ) → i ≤ j → fetch l bytes j ≡ None
none_after l bytes i none j le = go (nat_le (i * l.stride + l.stride) (length bytes)) refl
  where
    go : (b : Bool) → nat_le (i * l.stride + l.stride) (length bytes) ≡ b → fetch l bytes j ≡ None
    go true e = let no = rw e at none in absurd cc
    go false e =
        let more = mul-le-mul_right l.stride le in
        let past : nat_le (j * l.stride + l.stride) (length bytes) ≡ false = grind (arith, nat_tests, more, e) in
        rw past refl

-- behind an index that is not there is none
pub no_index_after : (v : VertexRange) (bytes : List ℕ) (i : ℕ) → index_at bytes i ≡ None → (j : ℕ) → i ≤ j → indexed_vertex v (index_at bytes j) ≡ None
no_index_after v bytes i none j le = ap (indexed_vertex v) (go (nat_le (2 * i + 2) (length bytes)) refl)
  where
    go : (b : Bool) → nat_le (2 * i + 2) (length bytes) ≡ b → index_at bytes j ≡ None
    go true e = let no = rw e at none in absurd cc
    go false e =
        let past : nat_le (2 * j + 2) (length bytes) ≡ false = grind (arith, nat_tests, le, e) in
        rw past refl
