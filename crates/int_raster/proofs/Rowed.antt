-- Rows whose columns a list has.
use Rattle.std.proofs.Common.{◌≡◌, ℕ, ◌+◌, ◌*◌, ◌<◌, ◌≤◌, ◌&&◌, nat_le, nat_lt, List, slice_index_or, ap, sym, subst, ◌∙◌, arith}
use Rattle.std.proofs.Math.Nat.{mul-le-mul_left}
use Rattle.std.proofs.lemmas.Nat.{mul-le}
use native.Mathlib.Nat.{add-mul}
use Rattle.gfx_model.specs.Raster.{contains, covers}
use Rattle.fix_math.specs.Seen.{rect_seen}
use Rattle.fix_math.specs.declared.geometry.Rect.{Rect}
use Rattle.tri_cover.specs.Bounded.{IsSpan, HoldsSpans}
use Rattle.tri_cover.specs.Shown.{setup_seen}
use Rattle.tri_cover.specs.declared.triangles.Setup.{Setup}
use Rattle.int_raster.specs.Filled.{AreLimits}

-- the columns between limits that a triangle covers are those of the cut
pub drawn_here : (s : Setup) (span limits : ℕ × ℕ) (cut : Rect) (y width x : ℕ) → IsSpan span (setup_seen s).triangle limits.0 limits.1 y → AreLimits limits cut width → cut.y ≤ y → y < cut.y + cut.h → x < width →
    (contains (rect_seen cut) x y && covers (setup_seen s).triangle x y) ≡ (nat_le span.0 x && nat_lt x span.1)
drawn_here s span limits cut y width x h l up lo b = ap (λ v. v && covers (setup_seen s).triangle x y) (l.columns x y b up lo) ∙ sym (h.columns x)

-- the columns of a row, the rows counted from a band's first
pub span_here : (spans : List (ℕ × ℕ)) (s : Setup) (limits : ℕ × ℕ) (top from k count : ℕ) → HoldsSpans spans (setup_seen s).triangle limits.0 limits.1 (top + from) count → k < count → IsSpan (slice_index_or spans k (0, 0)) (setup_seen s).triangle limits.0 limits.1 (top + (from + k))
span_here spans s limits top from k count h l =
    let e : top + from + k ≡ top + (from + k) = omega arith in
    subst (λ y. IsSpan (slice_index_or spans k (0, 0)) (setup_seen s).triangle limits.0 limits.1 y) e (h k l)

-- a row of a surface ends within it
pub row_inside : (row count width last size : ℕ) → row < count → last ≤ width → size ≡ width * count → row * width + last ≤ size
row_inside row count width last size h l e = let k : row + 1 ≤ count = omega (arith, h) in omega (arith, mul-le-mul_left width k, l, e)

-- where the next row begins
pub next_start : (from k width start : ℕ) → start ≡ (from + k) * width → start + width ≡ (from + (k + 1)) * width
next_start from k width start e =
    let one_more : from + (k + 1) ≡ from + k + 1 = omega arith in
    let more : (from + (k + 1)) * width ≡ (from + k) * width + 1 * width = ap (λ n. n * width) one_more ∙ add-mul (from + k) 1 width in
    omega (arith, e, more)

pub start_small : (row width : ℕ) → row ≤ 65535 → width ≤ 65535 → row * width ≤ 4294836225
start_small row width h l = mul-le row width 65535 65535 h l
