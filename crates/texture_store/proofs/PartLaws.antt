-- Parts of pictures, and texels made of bytes.
use Rattle.std.proofs.Common.{◌≡◌, ℕ, zero, suc, ◌+◌, ◌-◌, ◌*◌, ◌/◌, ◌%◌, ◌<◌, ◌≤◌, ◌⊎◌, inl, inr, Bool, true, false, cond, List, [], ◌∷◌, ◌++◌, length, map, take, drop, get_or, refl, sym, ap, ◌∙◌, arith, length-append, length-drop, length-take-le}
use Rattle.std.specs.List.{range_with_len}
use Rattle.std.specs.Simd.{first_chunks}
use Rattle.std.proofs.lemmas.Bool.{cases_lt}
use Rattle.std.proofs.lemmas.List.{get_or-take, get_or-drop, get_or_default, get_or_append_left, get_or-append_right, drop-drop}
use Rattle.std.proofs.lemmas.List.FromFn.{get_or-map-range_with_len, length-map-range_with_len, fill_by_all}
use Rattle.std.proofs.Math.Nat.{mul-le-mul_left}
use Rattle.gfx_model.specs.Number.{map_from}
use Rattle.gfx_model.specs.Vertex.{Color}
use Rattle.gfx_model.specs.Raster.{Rect, contains, no_color, Texels}
use Rattle.gfx_model.specs.World.{texel_in, with_texels_in}
use Rattle.store_model.specs.Textures.{Region}
use Rattle.texture_store.specs.Block.{in_block, texel_of_row, texels_of_bytes, texel_of_part, part_of}
use Rattle.texture_store.specs.Cut.{cut_copied}
use Rattle.texture_store.proofs.BlockLaws.{same_map_from, column_of}
use Rattle.texture_store.proofs.CutLaws.{contains_to}

-- ---- bytes

-- bytes cut into fours are texels
pub chunks_texels : (bytes : List ℕ) (m n : ℕ) → first_chunks 4 n (drop (4 * m) bytes) ≡ map (texel_in bytes) (range_with_len m n)
chunks_texels bytes m zero = refl
chunks_texels bytes m (suc n) =
    let next : 4 * m + 4 ≡ 4 * (m + 1) = omega arith in
    ap (λ xs. texel_in bytes m ∷ first_chunks 4 n xs) (drop-drop 4 (4 * m) bytes ∙ ap (λ k. drop k bytes) next)
    ∙ ap (λ ts. texel_in bytes m ∷ ts) (chunks_texels bytes (m + 1) n)

-- ---- a rectangle that is replaced

-- texels that are the same in a rectangle replace it alike
pub block_same : (width x y w h : ℕ) (f g : ℕ → ℕ → Color) (xs : List Color) → ((p q : ℕ) → x ≤ p → p < x + w → y ≤ q → q < y + h → f p q ≡ g p q)
    → map_from (in_block width x y w h f) 0 xs ≡ map_from (in_block width x y w h g) 0 xs
block_same width x y w h f g xs same = same_map_from (in_block width x y w h f) (in_block width x y w h g) xs [] (λ i t lt. by_test i t (contains (record { x = x; y = y; w = w; h = h }) (i % width) (i / width)) refl)
  where
    by_test : (i : ℕ) (t : Color) (b : Bool) → contains (record { x = x; y = y; w = w; h = h }) (i % width) (i / width) ≡ b → cond b (f (i % width) (i / width)) t ≡ cond b (g (i % width) (i / width)) t
    by_test i t true e =
        let at : (x ≤ i % width) × (i % width < x + w) × (y ≤ i / width) × (i / width < y + h) = contains_to (record { x = x; y = y; w = w; h = h }) (i % width) (i / width) e in
        same (i % width) (i / width) at.0 at.1 at.2 at.3
    by_test i t false e = refl

-- the number of a texel of w columns and h rows
number_below : (c r w h : ℕ) → c < w → r < h → r * w + c < h * w
number_below c r w h column row =
    let below : w * (r + 1) ≤ w * h = mul-le-mul_left w (omega (arith, row)) in
    omega (arith, below, column)

-- the texels of bytes in a rectangle
pub bytes_same : (r : Rect) (bytes : List ℕ) (d : Texels) → length bytes ≡ 4 * (r.w * r.h)
    → cut_copied (record { dx = r.x; dy = r.y; sx = 0; sy = 0; w = r.w; h = r.h }) (texels_of_bytes bytes) r.w d ≡ with_texels_in r bytes d
bytes_same r bytes d size = ap (λ ts. record d { texels = ts }) (block_same d.width r.x r.y r.w r.h _ _ d.texels each)
  where
    many : length bytes / 4 ≡ r.h * r.w
    many = omega (arith, size)

    each : (p q : ℕ) → r.x ≤ p → p < r.x + r.w → r.y ≤ q → q < r.y + r.h → texel_of_row (texels_of_bytes bytes) r.w r.x r.y 0 0 p q ≡ texel_in bytes ((q - r.y) * r.w + (p - r.x))
    each p q a b c e =
        let lt : (q - r.y) * r.w + (p - r.x) < r.h * r.w = number_below (p - r.x) (q - r.y) r.w r.h (omega (arith, a, b)) (omega (arith, c, e)) in
        let place : (0 + (q - r.y)) * r.w + (0 + (p - r.x)) ≡ (q - r.y) * r.w + (p - r.x) = omega arith in
        ap (λ k. get_or (texels_of_bytes bytes) k no_color) place
        ∙ get_or-map-range_with_len (texel_in bytes) 0 (length bytes / 4) ((q - r.y) * r.w + (p - r.x)) ((q - r.y) * r.w + (p - r.x)) no_color (omega (arith, lt, many)) (omega arith)

-- ---- a part of a picture

-- one row more of a part
pub part_more : (from : List Color) (from_width sx sy w r at : ℕ) (old new : List Color) → old ≡ part_of from from_width sx sy w r → new ≡ old ++ take w (drop at from)
    → at ≡ (sy + r) * from_width + sx → at + w ≤ length from → new ≡ part_of from from_width sx sy w (r + 1)
part_more from from_width sx sy w r at old new inv is place room = fill_by_all (texel_of_part from from_width sx sy w) new ((r + 1) * w) [] whole (λ k lt. by_place k lt (cases_lt k (r * w)))
  where
    long : length old ≡ r * w
    long = ap length inv ∙ length-map-range_with_len (texel_of_part from from_width sx sy w) 0 (r * w)

    row : length (take w (drop at from)) ≡ w
    row = length-take-le w (drop at from) (omega (arith, room, length-drop at from))

    whole : length new ≡ (r + 1) * w
    whole = ap length is ∙ length-append old (take w (drop at from)) ∙ omega (arith, long, row)

    by_place : (k : ℕ) → k < (r + 1) * w → (k < r * w) ⊎ (r * w ≤ k) → get_or new k [] ≡ texel_of_part from from_width sx sy w k
    by_place k lt (inl before) =
        ap (λ xs. get_or xs k []) is ∙ get_or_append_left old (take w (drop at from)) [] k (omega (arith, before, long))
        ∙ ap (λ xs. get_or xs k []) inv
        ∙ get_or-map-range_with_len (texel_of_part from from_width sx sy w) 0 (r * w) k k [] before (omega arith)
    by_place k lt (inr behind) =
        let column : k - r * w < w = omega (arith, lt, behind) in
        let there : k ≡ r * w + (k - r * w) = omega (arith, behind) in
        let at_k : (k % w ≡ k - r * w) × (k / w ≡ r) = column_of r w (k - r * w) k column there in
        let number : at + (k - r * w) ≡ (sy + r) * from_width + (sx + (k - r * w)) = omega (arith, place) in
        ap (λ xs. get_or xs k []) is ∙ get_or-append_right old (take w (drop at from)) (r * w) k [] long behind
        ∙ get_or-take w (drop at from) (k - r * w) [] column ∙ get_or-drop at from (k - r * w) []
        ∙ get_or_default from (at + (k - r * w)) [] no_color (omega (arith, column, room))
        ∙ ap (λ n. get_or from n no_color) (number ∙ ap (λ n. (sy + r) * from_width + (sx + n)) (sym at_k.0) ∙ ap (λ n. (sy + n) * from_width + (sx + k % w)) (sym at_k.1))

-- copying a part is copying its region
pub part_same : (r : Region) (from : List Color) (from_width : ℕ) (d : Texels)
    → cut_copied (record r { sx = 0; sy = 0 }) (part_of from from_width r.sx r.sy r.w r.h) r.w d ≡ cut_copied r from from_width d
part_same r from from_width d = ap (λ ts. record d { texels = ts }) (block_same d.width r.dx r.dy r.w r.h _ _ d.texels each)
  where
    each : (p q : ℕ) → r.dx ≤ p → p < r.dx + r.w → r.dy ≤ q → q < r.dy + r.h
        → texel_of_row (part_of from from_width r.sx r.sy r.w r.h) r.w r.dx r.dy 0 0 p q ≡ texel_of_row from from_width r.dx r.dy r.sx r.sy p q
    each p q a b c e =
        let column : p - r.dx < r.w = omega (arith, a, b) in
        let k : ℕ = (q - r.dy) * r.w + (p - r.dx) in
        let lt : (q - r.dy) * r.w + (p - r.dx) < r.h * r.w = number_below (p - r.dx) (q - r.dy) r.w r.h column (omega (arith, c, e)) in
        let place : (0 + (q - r.dy)) * r.w + (0 + (p - r.dx)) ≡ (q - r.dy) * r.w + (p - r.dx) = omega arith in
        let at_k = column_of (q - r.dy) r.w (p - r.dx) ((q - r.dy) * r.w + (p - r.dx)) column refl in
        ap (λ n. get_or (part_of from from_width r.sx r.sy r.w r.h) n no_color) place
        ∙ get_or-map-range_with_len (texel_of_part from from_width r.sx r.sy r.w) 0 (r.h * r.w) ((q - r.dy) * r.w + (p - r.dx)) ((q - r.dy) * r.w + (p - r.dx)) no_color lt (omega arith)
        ∙ ap (λ n. get_or from ((r.sy + n) * from_width + (r.sx + k % r.w)) no_color) at_k.1
        ∙ ap (λ n. get_or from ((r.sy + (q - r.dy)) * from_width + (r.sx + n)) no_color) at_k.0
