-- Each name that a line of a readable scene binds is one of the scene's names.
use Rattle.std.proofs.Common.{◌≡◌, ℕ, zero, suc, ◌+◌, ◌<◌, ◌≤◌, nat_lt, inl, inr, Bool, true, false, if◌then◌else◌, List, [], ◌∷◌, ◌++◌, length, Some, refl, arith, slice_get}
use Rattle.std.specs.List.{AllByRecursion}
use Rattle.std.proofs.lemmas.List.{length-append}
use Rattle.std.proofs.lemmas.Bool.{ltb-true}
use Rattle.scene_model.specs.Scene.{ResourceLine, layout_line, vertex_buffer_line, index_buffer_line, texture_line, frame_buffer_line, program_line, uniform_line, update_line, texel_update_line, destroy_line, view_line, target_line, order_line, SceneFrame, Scene, views_of}
use Rattle.spelling_model.specs.Readable.{IsOfUniform, IsResourceLine, AreResourceLines, bound_by, bound_by_lines, AreFrames, bound_by_frame, bound_by_frames, IsReadable}
use Rattle.scene_lines.specs.Names.{LineHasPlace, FrameHasPlaces}

-- ---- the bound names become more

more : (bound : List Bool) (b : Bool) → length (bound ++ b ∷ []) ≡ length bound + 1
more bound b = length-append bound (b ∷ [])

uniform_more : (bound : List Bool) (c : Bool) → length bound ≤ length (if c then bound else bound ++ true ∷ [])
uniform_more bound true = omega arith
uniform_more bound false = let m = more bound true in omega (arith, m)

line_more : (bound : List Bool) (l : ResourceLine) → length bound ≤ length (bound_by bound l)
line_more bound (layout_line n parts) = let m = more bound false in omega (arith, m)
line_more bound (vertex_buffer_line n layout bytes) = let m = more bound false in omega (arith, m)
line_more bound (index_buffer_line n bytes) = let m = more bound false in omega (arith, m)
line_more bound (texture_line n width height f d source) = let m = more bound false in omega (arith, m)
line_more bound (frame_buffer_line n color depth) = let m = more bound false in omega (arith, m)
line_more bound (program_line n k) = let m = more bound false in omega (arith, m)
line_more bound (uniform_line n k) = uniform_more bound (nat_lt n (length bound))
line_more bound (update_line n offset bytes) = omega arith
line_more bound (texel_update_line n r bytes) = omega arith
line_more bound (destroy_line n) = omega arith
line_more bound (view_line v c) = omega arith
line_more bound (target_line v t) = omega arith
line_more bound (order_line ids) = omega arith

lines_more : (bound : List Bool) (ls : List ResourceLine) → length bound ≤ length (bound_by_lines bound ls)
lines_more bound [] = omega arith
lines_more bound (l ∷ ls) = let a = line_more bound l in let b = lines_more (bound_by bound l) ls in omega (arith, a, b)

frames_more : (bound : List Bool) (fs : List SceneFrame) → length bound ≤ length (bound_by_frames bound fs)
frames_more bound [] = omega arith
frames_more bound (f ∷ fs) =
    let a = lines_more bound f.before in
    let b = lines_more (bound_by_lines bound f.before) f.beside in
    let c = frames_more (bound_by_frame bound f) fs in
    omega (arith, a, b, c)

-- ---- each name has its place

get_below : (bound : List Bool) (n : ℕ) (b : Bool) → slice_get bound n ≡ Some b → n < length bound
get_below [] n b e = absurd cc
get_below (x ∷ xs) zero b e = omega arith
get_below (x ∷ xs) (suc n) b e = let le = get_below xs n b e in omega (arith, le)

uniform_place : (many n : ℕ) (bound : List Bool) (c : Bool) → nat_lt n (length bound) ≡ c → IsOfUniform bound n → length (if c then bound else bound ++ true ∷ []) ≤ many → n < many
uniform_place many n bound true is h le = let lt = ltb-true n (length bound) is in omega (arith, lt, le)
uniform_place many n bound false is (inl e) le = let m = more bound true in omega (arith, e, m, le)
uniform_place many n bound false is (inr e) le = let lt = get_below bound n true e in let m = more bound true in omega (arith, lt, m, le)

line_place : (many views : ℕ) (bound : List Bool) (l : ResourceLine) → IsResourceLine views bound l → length (bound_by bound l) ≤ many → LineHasPlace many l
line_place many views bound (layout_line n parts) h le = let m = more bound false in let e = h.0 in omega (arith, e, m, le)
line_place many views bound (vertex_buffer_line n layout bytes) h le = let m = more bound false in let e = h.0 in omega (arith, e, m, le)
line_place many views bound (index_buffer_line n bytes) h le = let m = more bound false in let e = h.0 in omega (arith, e, m, le)
line_place many views bound (texture_line n width height f d source) h le = let m = more bound false in let e = h.0 in omega (arith, e, m, le)
line_place many views bound (frame_buffer_line n color depth) h le = let m = more bound false in let e = h.0 in omega (arith, e, m, le)
line_place many views bound (program_line n k) h le = let m = more bound false in omega (arith, h, m, le)
line_place many views bound (uniform_line n k) h le = uniform_place many n bound (nat_lt n (length bound)) refl h le
line_place many views bound (update_line n offset bytes) h le = tt
line_place many views bound (texel_update_line n r bytes) h le = tt
line_place many views bound (destroy_line n) h le = tt
line_place many views bound (view_line v c) h le = tt
line_place many views bound (target_line v t) h le = tt
line_place many views bound (order_line ids) h le = tt

lines_place : (many views : ℕ) (bound : List Bool) (ls : List ResourceLine) → AreResourceLines views bound ls → length (bound_by_lines bound ls) ≤ many → AllByRecursion (LineHasPlace many) ls
lines_place many views bound [] h le = tt
lines_place many views bound (l ∷ ls) h le =
    let m = lines_more (bound_by bound l) ls in
    (line_place many views bound l h.0 (omega (arith, m, le)), lines_place many views (bound_by bound l) ls h.1 le)

frames_place : (many views encoders : ℕ) (bound : List Bool) (fs : List SceneFrame) → AreFrames views encoders bound fs → length (bound_by_frames bound fs) ≤ many → AllByRecursion (FrameHasPlaces many) fs
frames_place many views encoders bound [] h le = tt
frames_place many views encoders bound (f ∷ fs) h le =
    let m = frames_more (bound_by_frame bound f) fs in
    let b = lines_more (bound_by_lines bound f.before) f.beside in (
      record { before = lines_place many views bound f.before h.0.before (omega (arith, m, b, le)); beside = lines_place many views (bound_by_lines bound f.before) f.beside h.0.beside (omega (arith, m, le)) },
      frames_place many views encoders (bound_by_frame bound f) fs h.1 le,
    )

pub scene_places : (s : Scene) → IsReadable s → AllByRecursion (FrameHasPlaces (length s.names)) s.frames
scene_places s h = let e = h.all_bound in frames_place (length s.names) (views_of s) s.encoders [] s.frames h.frames (omega (arith, e))
