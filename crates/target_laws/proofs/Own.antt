-- A clear or a draw of a view on a frame buffer's surface.
use Rattle.std.proofs.Common.{◌≡◌, ◌≢◌, ◌∙◌, ℕ, ◌+◌, Bool, true, false, cond, List, [], ◌∷◌, map, Option, Some, None, refl, sym, ap}
use Rattle.std.proofs.lemmas.Option.{none-some, same_Some}
use Rattle.std.specs.Prelude.{◌*◌, ◌/◌, ◌%◌, ◌^◌, not, if◌then◌else◌, fold, filter_map, option_map}
use Rattle.gfx_model.specs.Words.{Handle, depth_test_of, writes_depth, on_stencil_fail, on_depth_fail, on_pass, solid, vertex_color, textured, textured_color, primitive_of}
use Rattle.gfx_model.specs.Vertex.{Color, triangles_of}
use Rattle.gfx_model.specs.Raster.{Texels, Rect, contains, covers, fragment_at, view_rect}
use Rattle.gfx_model.specs.Number.{map_from}
use Rattle.gfx_model.specs.Pixel.{Pixel, Shaded, passes_stencil, passes_depth, stencil_by, stored_color, step_with_depth, pixel_step}
use Rattle.gfx_model.specs.Views.{View, Clear}
use Rattle.gfx_model.specs.World.{Surface, World, Content, layout_content, vertex_content, index_content, texture_content, frame_buffer_content, program_content, uniform_content, content_in, change_thing, texels_of, with_texels, with_depth_texels, with_attached, attached_surface, surface_of_parts, Draw, VertexSet, no_vertices, stored_vertices, transient_vertices, IndexSet, no_indices, stored_indices, transient_indices, vertex_range, index_range, draw_vertices, Paint, paint_of, painted, Facing, placed_facing, covered_step, facing_step, after_facing, facings_of, is_in_cut, cleared, cleared_depth, cleared_word, on_each_pixel, pixels_of, depth_bytes, with_texel_list}
use Rattle.pass_laws.proofs.Pixels.{Keeps, tested_keeps}
use Rattle.pass_laws.proofs.Steps.{clear_keeps, facings_keep}
use Rattle.trace_laws.specs.History.{Stroke, clear_stroke, after_stroke, fragment_of, fragments_from, drawn_strokes, clear_strokes, pixel_at}
use Rattle.trace_laws.specs.Laws.{HasPixel}
use Rattle.trace_laws.proofs.Pixels.{pixel-changed, has-changed}
use Rattle.trace_laws.proofs.Histories.{strokes-cond, fragments-fold}
use Rattle.target_laws.proofs.Things.{texels-changed, texels-beside}

-- the world with a surface in place of the back buffer
abbrev pub with_back : Surface → World → World
with_back s w = record w { back = s }

-- ---- a change of each pixel, and the strokes at one

pub record Strokes (s : Surface) (x y : ℕ) (strokes : List Stroke) (change : ℕ → ℕ → Pixel → Pixel) : Type 0 where
  pub goes : fold after_stroke (pixel_at s x y) strokes ≡ pixel_at (on_each_pixel change s) x y
  pub has : HasPixel (on_each_pixel change s) x y

abbrev pub clear_change : View → Surface → ℕ → ℕ → Pixel → Pixel
clear_change view s a b p = if contains (view_rect view.rect s.color.width s.color.height) a b then cleared view.clear p else p

pub clear-strokes : (w : World) (view : View) (s : Surface) (x y : ℕ) → HasPixel s x y → Strokes s x y (clear_strokes (with_back s w) view x y) (clear_change view s)
clear-strokes w view s x y has =
    let keeps : Keeps (clear_change view s) = λ a b p o f. tested_keeps (contains (view_rect view.rect s.color.width s.color.height) a b) (cleared view.clear p) p o (clear_keeps view.clear p o f) f in
    record {
      goes = strokes-cond (contains (view_rect view.rect s.color.width s.color.height) x y) (pixel_at s x y) (clear_stroke view.clear ∷ []) ∙ sym (pixel-changed (clear_change view s) keeps s x y has);
      has = has-changed (clear_change view s) keeps s x y has;
    }

abbrev pub draw_change : View → Draw → Paint → List Facing → Surface → ℕ → ℕ → Pixel → Pixel
draw_change view d paint fs s a b p = if is_in_cut view (view_rect view.rect s.color.width s.color.height) d a b then fold (after_facing d paint a b) p fs else p

vertices-back : (w : World) (s : Surface) (v : VertexSet) → vertex_range (with_back s w) v ≡ vertex_range w v
vertices-back w s no_vertices = refl
vertices-back w s (stored_vertices h first count) = refl
vertices-back w s (transient_vertices h bytes) = refl

indices-back : (w : World) (s : Surface) (v : IndexSet) → index_range (with_back s w) v ≡ index_range w v
indices-back w s no_indices = refl
indices-back w s (stored_indices h first count) = refl
indices-back w s (transient_indices bytes) = refl

facings-back : (w : World) (s : Surface) (view : View) (rect : Rect) (d : Draw) → facings_of (with_back s w) view rect d ≡ facings_of w view rect d
facings-back w s view rect d = λ i. filter_map (placed_facing view rect d) (triangles_of (primitive_of d.state) (draw_vertices (vertices-back w s d.vertices i) (indices-back w s d.indices i)))

pub paint-back : (w : World) (s : Surface) (view : View) (d : Draw) (o : Option Content) → paint_of (with_back s w) view d o ≡ paint_of w view d o
paint-back w s view d None = refl
paint-back w s view d (Some (program_content solid)) = refl
paint-back w s view d (Some (program_content vertex_color)) = refl
paint-back w s view d (Some (program_content textured)) = sampled view.target
  where
    sampled : (o : Option Handle) → paint_of (with_back s w) (record view { target = o }) d (Some (program_content textured)) ≡ paint_of w (record view { target = o }) d (Some (program_content textured))
    sampled None = refl
    sampled (Some h) = refl
paint-back w s view d (Some (program_content textured_color)) = sampled view.target
  where
    sampled : (o : Option Handle) → paint_of (with_back s w) (record view { target = o }) d (Some (program_content textured_color)) ≡ paint_of w (record view { target = o }) d (Some (program_content textured_color))
    sampled None = refl
    sampled (Some h) = refl
paint-back w s view d (Some (layout_content l)) = refl
paint-back w s view d (Some (vertex_content l bytes)) = refl
paint-back w s view d (Some (index_content bytes)) = refl
paint-back w s view d (Some (texture_content f t)) = refl
paint-back w s view d (Some (frame_buffer_content color depth)) = refl
paint-back w s view d (Some (uniform_content name v)) = refl

pub draw-strokes : (w : World) (view : View) (d : Draw) (paint : Paint) (s : Surface) (x y : ℕ) → HasPixel s x y
    → Strokes s x y (drawn_strokes (with_back s w) view d x y (Some paint)) (draw_change view d paint (facings_of w view (view_rect view.rect s.color.width s.color.height) d) s)
draw-strokes w view d paint s x y has =
    let rect : Rect = view_rect view.rect s.color.width s.color.height in
    let fs : List Facing = facings_of w view rect d in
    let change : ℕ → ℕ → Pixel → Pixel = draw_change view d paint fs s in
    let keeps : Keeps change = λ a b p o f. tested_keeps (is_in_cut view rect d a b) (fold (after_facing d paint a b) p fs) p o (facings_keep d.state paint a b p fs o f) f in
    let same : facings_of (with_back s w) view rect d ≡ fs = facings-back w s view rect d in
    record {
      goes = ap (λ gs. fold after_stroke (pixel_at s x y) (cond (is_in_cut view rect d x y) (fragments_from 0 d.state paint x y gs) [])) same
          ∙ strokes-cond (is_in_cut view rect d x y) (pixel_at s x y) (fragments_from 0 d.state paint x y fs)
          ∙ ap (λ q. cond (is_in_cut view rect d x y) q (pixel_at s x y)) (fragments-fold 0 d.state paint x y (pixel_at s x y) fs)
          ∙ sym (pixel-changed change keeps s x y has);
      has = has-changed change keeps s x y has;
    }

-- ---- the surface put back is there

parts-some : (o p : Option Texels) (s : Surface) → surface_of_parts o p ≡ Some s → (o ≡ Some s.color) × (p ≡ s.depth)
parts-some None p s is = absurd (none-some s is)
parts-some (Some c) p s is =
    let same : record { color = c; depth = p } ≡ s = same_Some (record { color = c; depth = p }) s is in
    (ap (λ u. Some u.color) same, ap (λ u. u.depth) same)

module _ (change : ℕ → ℕ → Pixel → Pixel) where
  -- the depth texels of a surface whose pixels are changed
  abbrev depth_after : Surface → Option Texels → Option Texels
  depth_after s o = option_map (with_texel_list (map (λ p. depth_bytes p.depth) (map_from (λ i p. change (i % s.color.width) (i / s.color.width) p) 0 (pixels_of s)))) o

  flat-back : (s : Surface) → s.depth ≡ None → surface_of_parts (Some (on_each_pixel change s).color) None ≡ Some (on_each_pixel change s)
  flat-back s none =
      let same : (on_each_pixel change s).depth ≡ None = ap (depth_after s) none in
      λ i. Some (record { color = (on_each_pixel change s).color; depth = sym same i })

  pub put-back : (ts : List (ℕ × Content)) (color : ℕ) (depth : Option ℕ) (s : Surface) → depth ≢ Some color → attached_surface ts (Some (frame_buffer_content color depth)) ≡ Some s
      → attached_surface (with_attached (on_each_pixel change s) (Some (frame_buffer_content color depth)) ts) (Some (frame_buffer_content color depth)) ≡ Some (on_each_pixel change s)
  put-back ts color None s apart is =
      let parts = parts-some (texels_of (content_in ts color)) None s is in
      let new : Surface = on_each_pixel change s in
      ap (λ o. surface_of_parts o None) (texels-changed new.color s.color color ts parts.0) ∙ flat-back s (sym parts.1)
  put-back ts color (Some n) s apart is = go s.depth refl
    where
      new : Surface
      new = on_each_pixel change s

      parts : (texels_of (content_in ts color) ≡ Some s.color) × (texels_of (content_in ts n) ≡ s.depth)
      parts = parts-some (texels_of (content_in ts color)) (texels_of (content_in ts n)) s is

      once : List (ℕ × Content)
      once = change_thing (with_texels new.color) color ts

      color-once : texels_of (content_in once color) ≡ Some new.color
      color-once = texels-changed new.color s.color color ts parts.0

      depth-once : texels_of (content_in once n) ≡ s.depth
      depth-once = texels-beside new.color color n ts (λ same. apart (ap Some same)) ∙ parts.1

      go : (o : Option Texels) → s.depth ≡ o → surface_of_parts (texels_of (content_in (with_depth_texels (Some n) new.depth once) color)) (texels_of (content_in (with_depth_texels (Some n) new.depth once) n)) ≡ Some new
      go None none =
          let bare : new.depth ≡ None = ap (depth_after s) none in
          ap (λ z. surface_of_parts (texels_of (content_in (with_depth_texels (Some n) z once) color)) (texels_of (content_in (with_depth_texels (Some n) z once) n))) bare
          ∙ (λ i. surface_of_parts (color-once i) ((depth-once ∙ none) i)) ∙ flat-back s none
      go (Some d) some = deep (depth-once ∙ some) (ap (depth_after s) some)
        where
          deep : {e : Texels} → texels_of (content_in once n) ≡ Some d → new.depth ≡ Some e → surface_of_parts (texels_of (content_in (with_depth_texels (Some n) new.depth once) color)) (texels_of (content_in (with_depth_texels (Some n) new.depth once) n)) ≡ Some new
          deep {e} was is_e =
              ap (λ o. surface_of_parts (texels_of (content_in (with_depth_texels (Some n) o once) color)) (texels_of (content_in (with_depth_texels (Some n) o once) n))) is_e
              ∙ (λ i. surface_of_parts ((texels-beside e n color once (λ same. apart (ap Some (sym same))) ∙ color-once) i) ((texels-changed e d n once was) i))
              ∙ (λ i. Some (record { color = new.color; depth = sym is_e i }))
