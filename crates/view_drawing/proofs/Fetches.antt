-- Vertices are found in the rest of the bytes as in all of them.
use Rattle.std.proofs.Common.{◌≡◌, ℕ, ◌+◌, ◌*◌, ◌-◌, ◌≤◌, ◌<◌, false, List, length, drop, map, refl, sym, ap, ◌∙◌, arith}
use Rattle.std.specs.Prelude.{pos, Some, None, nat_le, slice_index, option_map, if◌then◌else◌}
use Rattle.std.specs.List.{range_with_len}
use Rattle.std.proofs.lemmas.List.{get_or-drop, length-drop}
use Rattle.std.specs.Int.{cast_signed, w16, w32}
use Rattle.std.specs.Prelude.{◌*ℤ◌, ◌/◌}
use Rattle.std.proofs.lemmas.Bool.Decides.{nat_tests}
use Rattle.gfx_model.specs.Number.{u16_at, u32_at}
use Rattle.gfx_model.specs.Vertex.{Layout, PlacedAttribute, ComponentType, u8_type, i16_type, fixed_type, fixed_at, component_size, components_at, components_of, find_attribute, Attribute, position_attribute, color0_attribute, texcoord0_attribute, position_of, color_of, texcoord_of, fetch}

byte_behind : (bytes : List ℕ) (n k : ℕ) → slice_index (drop n bytes) k ≡ slice_index bytes (n + k)
byte_behind bytes n k = get_or-drop n bytes k 0

u16_behind : (bytes : List ℕ) (n k m : ℕ) → m ≡ n + k → u16_at (drop n bytes) k ≡ u16_at bytes m
u16_behind bytes n k m e =
    let next : n + (k + 1) ≡ m + 1 = omega (arith, e) in
    (λ i. byte_behind bytes n k i + 256 * byte_behind bytes n (k + 1) i) ∙ (λ i. slice_index bytes (sym e i) + 256 * slice_index bytes (next i))

u32_behind : (bytes : List ℕ) (n k m : ℕ) → m ≡ n + k → u32_at (drop n bytes) k ≡ u32_at bytes m
u32_behind bytes n k m e =
    let next : m + 2 ≡ n + (k + 2) = omega (arith, e) in
    λ i. u16_behind bytes n k m e i + 65536 * u16_behind bytes n (k + 2) (m + 2) next i

fixed_behind : (t : ComponentType) (bytes : List ℕ) (n k m : ℕ) → m ≡ n + k → fixed_at t (drop n bytes) k ≡ fixed_at t bytes m
fixed_behind u8_type bytes n k m e = ap (λ (b : ℕ). pos (b * 65536 / 255)) (byte_behind bytes n k ∙ ap (slice_index bytes) (sym e))
fixed_behind i16_type bytes n k m e = ap (λ (w : ℕ). pos 2 *ℤ cast_signed w16 w) (u16_behind bytes n k m e)
fixed_behind fixed_type bytes n k m e = ap (λ (w : ℕ). cast_signed w32 w) (u32_behind bytes n k m e)

components_behind : (p : PlacedAttribute) (bytes : List ℕ) (n k m : ℕ) → m ≡ n + k → components_at p (drop n bytes) k ≡ components_at p bytes m
components_behind p bytes n k m e =
    λ i. map (λ j. fixed_behind p.component bytes n (k + p.offset + component_size p.component * j) (m + p.offset + component_size p.component * j) (omega (arith, e)) i) (range_with_len 0 p.count)

attribute_behind : (l : Layout) (a : Attribute) (bytes : List ℕ) (n k m : ℕ) → m ≡ n + k → components_of l a (drop n bytes) k ≡ components_of l a bytes m
attribute_behind l a bytes n k m e = λ i. option_map (λ p. components_behind p bytes n k m e i) (find_attribute a l.attributes)

within : (n k s many : ℕ) → n ≤ many → nat_le (k + s) (many - n) ≡ nat_le (n + k + s) many
within n k s many le = grind (arith, nat_tests, le)

-- the vertex of a number in the rest of the bytes behind a first one
pub fetch_behind : (l : Layout) (bytes : List ℕ) (first i : ℕ) → first * l.stride ≤ length bytes → fetch l (drop (first * l.stride) bytes) i ≡ fetch l bytes (first + i)
fetch_behind l bytes first i le =
    let n = first * l.stride in
    let k = i * l.stride in
    let place : (first + i) * l.stride ≡ n + k = omega arith in
    let fits : nat_le (k + l.stride) (length (drop n bytes)) ≡ nat_le ((first + i) * l.stride + l.stride) (length bytes) =
    ap (nat_le (k + l.stride)) (length-drop n bytes) ∙ within n k l.stride (length bytes) le ∙ ap (λ m. nat_le (m + l.stride) (length bytes)) (sym place) in
    λ j. if fits j then Some (record {
      position = position_of (attribute_behind l position_attribute bytes n k _ place j);
      color = color_of (attribute_behind l color0_attribute bytes n k _ place j);
      texcoord = texcoord_of (attribute_behind l texcoord0_attribute bytes n k _ place j);
    }) else None

-- no vertex is fetched where the first one already begins past the end
pub fetch_past : (l : Layout) (bytes : List ℕ) (first i : ℕ) → length bytes < first * l.stride → fetch l bytes (first + i) ≡ None
fetch_past l bytes first i lt =
    let place : (first + i) * l.stride ≡ first * l.stride + i * l.stride = omega arith in
    let past : nat_le ((first + i) * l.stride + l.stride) (length bytes) ≡ false = grind (arith, nat_tests, place, lt) in
    rw past refl
