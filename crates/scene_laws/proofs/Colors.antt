-- The colours of a readable scene are four bytes.
use Rattle.std.proofs.Common.{◌≡◌, ℕ, zero, suc, ◌+◌, ◌*◌, ◌/◌, ◌%◌, ◌≤◌, Bool, List, [], ◌∷◌, length, refl, arith}
use Rattle.std.specs.List.{AllByRecursion}
use Rattle.gfx_model.specs.Number.{u32_at}
use Rattle.gfx_model.specs.Vertex.{Color}
use Rattle.gfx_model.specs.Commands.{u32_bytes}
use Rattle.gfx_model.specs.Resources.{TexelSource, fill_source, bytes_source}
use Rattle.scene_model.specs.Scene.{ResourceLine, layout_line, vertex_buffer_line, index_buffer_line, texture_line, frame_buffer_line, program_line, uniform_line, update_line, texel_update_line, destroy_line, view_line, target_line, order_line, SceneFrame, Scene, views_of}
use Rattle.spelling_model.specs.Readable.{IsColor, IsSource, IsResourceLine, AreResourceLines, bound_by, bound_by_lines, IsFrame, AreFrames, bound_by_frame, IsReadable}
use Rattle.scene_laws.specs.SceneFrames.{HasColor, LineHasColor, FrameHasColors, HasColors}

color_bytes : (c : Color) → IsColor c → u32_bytes (u32_at c 0) ≡ c
color_bytes [] h = absurd (let e = h.0 in omega (arith, e))
color_bytes (a ∷ []) h = absurd (let e = h.0 in omega (arith, e))
color_bytes (a ∷ b ∷ []) h = absurd (let e = h.0 in omega (arith, e))
color_bytes (a ∷ b ∷ c ∷ []) h = absurd (let e = h.0 in omega (arith, e))
color_bytes (a ∷ b ∷ c ∷ d ∷ []) h =
    let x = h.1.0 in
    let y = h.1.1.0 in
    let z = h.1.1.1.0 in
    let w = h.1.1.1.1.0 in
    let n : u32_at (a ∷ b ∷ c ∷ d ∷ []) 0 ≡ a + 256 * b + 65536 * (c + 256 * d) = refl in
    let e : u32_at (a ∷ b ∷ c ∷ d ∷ []) 0 % 256 ≡ a = omega (arith, n, x, y, z, w) in
    let f : u32_at (a ∷ b ∷ c ∷ d ∷ []) 0 / 256 % 256 ≡ b = omega (arith, n, x, y, z, w) in
    let g : u32_at (a ∷ b ∷ c ∷ d ∷ []) 0 / 65536 % 256 ≡ c = omega (arith, n, x, y, z, w) in
    let k : u32_at (a ∷ b ∷ c ∷ d ∷ []) 0 / 16777216 % 256 ≡ d = omega (arith, n, x, y, z, w) in
    λ j. e j ∷ f j ∷ g j ∷ k j ∷ []
color_bytes (a ∷ b ∷ c ∷ d ∷ e ∷ rest) h = absurd (let f = h.0 in omega (arith, f))

source_color : (s : TexelSource) → IsSource s → HasColor s
source_color (fill_source c) h = color_bytes c h
source_color (bytes_source bytes) h = tt

line_color : (views : ℕ) (bound : List Bool) (l : ResourceLine) → IsResourceLine views bound l → LineHasColor l
line_color views bound (layout_line n parts) h = tt
line_color views bound (vertex_buffer_line n layout bytes) h = tt
line_color views bound (index_buffer_line n bytes) h = tt
line_color views bound (texture_line n width height f d source) h = source_color source h.3
line_color views bound (frame_buffer_line n color depth) h = tt
line_color views bound (program_line n k) h = tt
line_color views bound (uniform_line n k) h = tt
line_color views bound (update_line n offset bytes) h = tt
line_color views bound (texel_update_line n r bytes) h = tt
line_color views bound (destroy_line n) h = tt
line_color views bound (view_line v c) h = tt
line_color views bound (target_line v t) h = tt
line_color views bound (order_line ids) h = tt

lines_color : (views : ℕ) (bound : List Bool) (ls : List ResourceLine) → AreResourceLines views bound ls → AllByRecursion LineHasColor ls
lines_color views bound [] h = tt
lines_color views bound (l ∷ ls) h = (line_color views bound l h.0, lines_color views (bound_by bound l) ls h.1)

frames_color : (views encoders : ℕ) (bound : List Bool) (fs : List SceneFrame) → AreFrames views encoders bound fs → AllByRecursion FrameHasColors fs
frames_color views encoders bound [] h = tt
frames_color views encoders bound (f ∷ fs) h =
    (record { before = lines_color views bound f.before h.0.before; beside = lines_color views (bound_by_lines bound f.before) f.beside h.0.beside }, frames_color views encoders (bound_by_frame bound f) fs h.1)

pub scene_colors : (s : Scene) → IsReadable s → HasColors s
scene_colors s h = frames_color (views_of s) s.encoders [] s.frames h.frames
