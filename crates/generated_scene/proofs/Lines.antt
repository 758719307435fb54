-- The lines of a draw have their numbers in their ranges, and name the layout and the program.
use Rattle.std.proofs.Common.{ℕ, zero, suc, ◌+◌, ◌/◌, ◌%◌, ◌≤◌, ◌<◌, ℤ, Bool, false, List, [], ◌∷◌, ◌++◌, arith}
use Rattle.std.specs.Prelude.{pos}
use Rattle.std.specs.Int.{w32, cast_unsigned, byte_at, bytes_low_first}
use Rattle.std.specs.List.{AllByRecursion}
use Rattle.scene_model.specs.Generated.{grid_x, grid_y, i32_bytes, corner, square, draw_lines}
use Rattle.spelling_model.specs.Readable.{AreBytes, IsEncoderLine}
use Rattle.scene_text.specs.Bounds.{encoder_names, AreBelow}
use Rattle.generated_scene.proofs.Ranges.{all_both}

-- ---- bytes

byte_small : (i n : ℕ) → byte_at i n ≤ 255
byte_small zero n = omega arith
byte_small (suc i) n = omega arith

number_bytes : (i k n : ℕ) → AreBytes (bytes_low_first i k n)
number_bytes i zero n = tt
number_bytes i (suc k) n = (byte_small i n, number_bytes (suc i) k n)

integer_bytes : (z : ℤ) → AreBytes (i32_bytes z)
integer_bytes z = number_bytes 0 4 (cast_unsigned w32 z)

both_bytes : (xs ys : List ℕ) → AreBytes xs → AreBytes ys → AreBytes (xs ++ ys)
both_bytes xs ys h k = all_both (λ b. b ≤ 255) xs ys h k

corner_bytes : (f d i j : ℕ) → AreBytes (corner f d i j)
corner_bytes f d i j =
    let x : List ℕ = i32_bytes (grid_x i) in
    let y : List ℕ = i32_bytes (grid_y j) in
    let z : List ℕ = i32_bytes (pos 0) in
    both_bytes (x ++ y ++ z) ((d + f) % 256 ∷ d % 40 ∷ f % 256 ∷ 255 ∷ [])
    (both_bytes (x ++ y) z (both_bytes x y (integer_bytes (grid_x i)) (integer_bytes (grid_y j))) (integer_bytes (pos 0)))
    (omega arith, (omega arith, (omega arith, (omega arith, tt))))

-- two triangles of four vertices
six_vertices : (a b c d : List ℕ) → AreBytes a → AreBytes b → AreBytes c → AreBytes d → AreBytes (a ++ b ++ c ++ a ++ c ++ d)
six_vertices a b c d first second third fourth =
    both_bytes (a ++ b ++ c ++ a ++ c) d
    (both_bytes (a ++ b ++ c ++ a) c (both_bytes (a ++ b ++ c) a (both_bytes (a ++ b) c (both_bytes a b first second) third) first) third) fourth

square_bytes : (f d i j : ℕ) → AreBytes (square f d i j)
square_bytes f d i j =
    six_vertices (corner f d i j) (corner f d (i + 1) j) (corner f d (i + 1) (j + 1)) (corner f d i (j + 1))
    (corner_bytes f d i j) (corner_bytes f d (i + 1) j) (corner_bytes f d (i + 1) (j + 1)) (corner_bytes f d i (j + 1))

-- ---- lines

-- the layout and the program are bound
abbrev pub both_bound : List Bool
both_bound = false ∷ false ∷ []

pub lines_in_range : (f d : ℕ) → d < 1200 → AllByRecursion (IsEncoderLine both_bound) (draw_lines f d)
lines_in_range f d lt = (omega arith, ((omega arith, square_bytes f d (d % 40) (d / 40)), ((omega arith, omega arith, omega (arith, lt), omega arith), tt)))

pub names_below : (f d : ℕ) → AllByRecursion (λ l. AreBelow 2 (encoder_names l)) (draw_lines f d)
names_below f d = (tt, ((omega arith, tt), ((omega arith, tt), tt)))
