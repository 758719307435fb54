-- Lines and frames bind no fewer names.
use Rattle.std.proofs.Common.{◌≡◌, ℕ, ◌≤◌, nat_lt, Bool, true, false, cond, List, [], ◌∷◌, ◌++◌, length, length-append, arith}
use Rattle.scene_model.specs.Scene.{ResourceLine, layout_line, vertex_buffer_line, index_buffer_line, texture_line, frame_buffer_line, program_line, uniform_line, update_line, texel_update_line, destroy_line, view_line, target_line, order_line, SceneFrame}
use Rattle.spelling_model.specs.Readable.{bound_by, bound_by_lines, bound_by_frame, bound_by_frames}

pub grows : (bound : List Bool) (l : ResourceLine) → length bound ≤ length (bound_by bound l)
grows bound (layout_line n parts) = omega (arith, length-append bound (false ∷ []))
grows bound (vertex_buffer_line n layout bytes) = omega (arith, length-append bound (false ∷ []))
grows bound (index_buffer_line n bytes) = omega (arith, length-append bound (false ∷ []))
grows bound (texture_line n width height format destination source) = omega (arith, length-append bound (false ∷ []))
grows bound (frame_buffer_line n color depth) = omega (arith, length-append bound (false ∷ []))
grows bound (program_line n kind) = omega (arith, length-append bound (false ∷ []))
grows bound (uniform_line n kind) = by (nat_lt n (length bound))
  where
    by : (t : Bool) → length bound ≤ length (cond t bound (bound ++ true ∷ []))
    by true = omega arith
    by false = omega (arith, length-append bound (true ∷ []))
grows bound (update_line n offset bytes) = omega arith
grows bound (texel_update_line n r bytes) = omega arith
grows bound (destroy_line n) = omega arith
grows bound (view_line view c) = omega arith
grows bound (target_line view target) = omega arith
grows bound (order_line ids) = omega arith

pub lines_grow : (bound : List Bool) (lines : List ResourceLine) → length bound ≤ length (bound_by_lines bound lines)
lines_grow bound [] = omega arith
lines_grow bound (l ∷ lines) = let a = grows bound l in let b = lines_grow (bound_by bound l) lines in omega (arith, a, b)

pub frames_grow : (bound : List Bool) (frames : List SceneFrame) → length bound ≤ length (bound_by_frames bound frames)
frames_grow bound [] = omega arith
frames_grow bound (f ∷ frames) =
    let a = lines_grow bound f.before in
    let b = lines_grow (bound_by_lines bound f.before) f.beside in
    let c = frames_grow (bound_by_frame bound f) frames in
    omega (arith, a, b, c)
