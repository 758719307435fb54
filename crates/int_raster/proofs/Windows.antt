-- Four places of a surface with depth that change together.
use Rattle.std.proofs.Common.{◌≡◌, ◌≤◌, ◌<◌, ◌+◌, ◌-◌, ℕ, suc, List, [], ◌∷◌, length, get_or, slice_index_or, Bool, true, false, ◌&&◌, nat_le, nat_lt, refl, sym, ap, ◌∙◌, arith}
use Rattle.std.proofs.lemmas.Bool.{cases_lt, lt-leb, le-ltb}
use Rattle.std.proofs.lemmas.Bool.Decides.{nat_tests}
use Rattle.gfx_model.specs.Number.{map_from}
use Rattle.gfx_model.specs.Vertex.{Color}
use Rattle.gfx_model.specs.Pixel.{Pixel}
use Rattle.int_raster.specs.Places.{deep_pixel, deep_pixels, spanned}
use Rattle.int_raster.proofs.Along.{length-deep, deep-get}
use Rattle.int_raster.proofs.Changes.{length-map_from, get_or-map_from, map_from-same}
use mathlib.Core.Logic.{inl, inr}

-- lists that agree at each place
same_places : {A : Type 0} (xs ys : List A) (d : A) → length xs ≡ length ys → ((i : ℕ) → i < length xs → get_or xs i d ≡ get_or ys i d) → xs ≡ ys
same_places [] [] d e h = refl
same_places [] (y ∷ ys) d e h = cc
same_places (x ∷ xs) [] d e h = cc
same_places (x ∷ xs) (y ∷ ys) d e h =
    let rest : xs ≡ ys = same_places xs ys d (omega (arith, e)) (λ i b. h (suc i) (omega (arith, b))) in
    (λ k. h 0 (omega arith) k ∷ rest k)

nothing_behind : (b : Bool) → (b && false) ≡ false
nothing_behind true = refl
nothing_behind false = refl

pub not_within_low : (x i : ℕ) → i < x → (nat_le x i && nat_lt i (x + 4)) ≡ false
not_within_low x i h = ap (λ b. b && nat_lt i (x + 4)) (lt-leb x i h)

pub not_within_high : (x i : ℕ) → x + 4 ≤ i → (nat_le x i && nat_lt i (x + 4)) ≡ false
not_within_high x i h = ap (λ b. nat_le x i && b) (le-ltb i (x + 4) h) ∙ nothing_behind (nat_le x i)

outside_is : {A : Type 0} (g : ℕ → A → A) (at i : ℕ) (u : A) → (nat_le at i && nat_lt i (at + 4)) ≡ false → u ≡ spanned g at (at + 4) i u
outside_is g at i u h = grind (arith, nat_tests)

inside_is : {A : Type 0} (g : ℕ → A → A) (at i : ℕ) (u : A) → at ≤ i → i < at + 4 → g i u ≡ spanned g at (at + 4) i u
inside_is g at i u a b = grind (arith, nat_tests)

four_place : {A : Type 0} (g : ℕ → A → A) (at : ℕ) (xs ys : List A) (d : A)
    → ((j : ℕ) → j < 4 → get_or ys (at + j) d ≡ g (at + j) (get_or xs (at + j) d))
    → ((i : ℕ) → (nat_le at i && nat_lt i (at + 4)) ≡ false → get_or ys i d ≡ get_or xs i d)
    → (i : ℕ) → get_or ys i d ≡ spanned g at (at + 4) i (get_or xs i d)
four_place g at xs ys d inside others i =
    let still : (nat_le at i && nat_lt i (at + 4)) ≡ false → get_or ys i d ≡ spanned g at (at + 4) i (get_or xs i d) =
    λ out. others i out ∙ outside_is g at i (get_or xs i d) out in
    elim (cases_lt i at) [
      | inl low ↦ still (not_within_low at i low)
      | inr high ↦ elim (cases_lt i (at + 4)) [
        | inl near ↦
            let place : at + (i - at) ≡ i = omega (arith, high) in
            rw place at (inside (i - at) (omega (arith, near, high))) ∙ inside_is g at i (get_or xs i d) high near
        | inr far ↦ still (not_within_high at i far)
      ]
    ]

-- four places of a list that are changed are a span of it
pub four_placed : {A : Type 0} (g : ℕ → A → A) (at : ℕ) (xs ys : List A) (d : A) → length ys ≡ length xs
    → ((j : ℕ) → j < 4 → get_or ys (at + j) d ≡ g (at + j) (get_or xs (at + j) d))
    → ((i : ℕ) → (nat_le at i && nat_lt i (at + 4)) ≡ false → get_or ys i d ≡ get_or xs i d)
    → ys ≡ map_from (spanned g at (at + 4)) 0 xs
four_placed g at xs ys d many inside others =
    same_places ys (map_from (spanned g at (at + 4)) 0 xs) d
    (many ∙ sym (length-map_from (spanned g at (at + 4)) 0 xs))
    (λ i b.
    let zero_i : 0 + i ≡ i = omega arith in
    four_place g at xs ys d inside others i
    ∙ ap (λ k. spanned g at (at + 4) k (get_or xs i d)) (sym zero_i)
    ∙ sym (get_or-map_from (spanned g at (at + 4)) 0 i xs d (omega (arith, b, many))))

module _ (g : ℕ → Pixel → Pixel) (at : ℕ) (colors depths news zs : List Color) where
  abbrev before : ℕ → Pixel
  before i = deep_pixel (slice_index_or colors i []) (slice_index_or depths i [])

  abbrev now : ℕ → Pixel
  now i = deep_pixel (slice_index_or news i []) (slice_index_or zs i [])

  -- four places of a surface that are changed are a span of it
  pub four_changed : length depths ≡ length colors → length news ≡ length colors → length zs ≡ length depths
      → ((j : ℕ) → j < 4 → now (at + j) ≡ g (at + j) (before (at + j)))
      → ((i : ℕ) → (nat_le at i && nat_lt i (at + 4)) ≡ false → (slice_index_or news i [] ≡ slice_index_or colors i []) × (slice_index_or zs i [] ≡ slice_index_or depths i []))
      → deep_pixels news zs ≡ map_from (spanned g at (at + 4)) 0 (deep_pixels colors depths)
  four_changed same many deep inside others =
      let same_now : length zs ≡ length news = deep ∙ same ∙ sym many in
      let long : length (deep_pixels news zs) ≡ length colors = length-deep news zs same_now ∙ many in
      four_placed g at (deep_pixels colors depths) (deep_pixels news zs) (deep_pixel [] []) (long ∙ sym (length-deep colors depths same))
      (λ j h. deep-get news zs (at + j) same_now ∙ inside j h ∙ ap (g (at + j)) (sym (deep-get colors depths (at + j) same)))
      (λ i out.
      deep-get news zs i same_now
      ∙ (λ k. deep_pixel ((others i out).0 k) ((others i out).1 k))
      ∙ sym (deep-get colors depths i same))

-- a change that ends at a place, over a span that goes behind it
cut_at : {A : Type 0} (g : ℕ → A → A) (first stop x k : ℕ) (u : A) → stop ≤ x → spanned (spanned g 0 stop) first x k u ≡ spanned g first stop k u
cut_at g first stop x k u h = grind (arith, nat_tests)

pub cut_behind : {A : Type 0} (g : ℕ → A → A) (first stop x : ℕ) (xs : List A) → stop ≤ x → map_from (spanned (spanned g 0 stop) first x) 0 xs ≡ map_from (spanned g first stop) 0 xs
cut_behind g first stop x xs h = map_from-same (spanned (spanned g 0 stop) first x) (spanned g first stop) xs (λ k u b. cut_at g first stop x k u h)
