-- The histories of a frame buffer's pixels by index are the definition's.
use Rattle.std.proofs.Common.{◌≡◌, ◌≢◌, ◌∙◌, ℕ, ◌+◌, Bool, true, false, cond, List, [], ◌∷◌, ◌++◌, map, Option, Some, None, refl, sym, ap, subst}
use Rattle.std.proofs.lemmas.Option.{none-some, same_Some}
use Rattle.std.specs.Prelude.{◌&&◌, if◌then◌else◌, filter, filter_map, flat_map, fold, option_map}
use Rattle.std.specs.List.{AllByRecursion}
use Rattle.std.specs.Option.{option_and_then}
use Rattle.gfx_model.specs.Words.{Handle, primitive_of}
use Rattle.gfx_model.specs.Vertex.{triangles_of}
use Rattle.gfx_model.specs.Raster.{Texels, view_rect}
use Rattle.gfx_model.specs.Views.{View, view_at}
use Rattle.gfx_model.specs.World.{World, Surface, Draw, Item, draw_item, touch_item, blit_item, is_blit, is_of_view, set_uniform, Paint, paint_of, content_of, content_in, frame_buffer_content, texels_of, surface_of, surface_of_parts, attached_surface, is_in_cut, placed_facing, draw_vertices, vertex_range, index_range, FrameContent, ordered, entered_views}
use Rattle.store_model.specs.Slots.{at}
use Rattle.store_model.specs.Textures.{TargetSlot, slot_texels, texels_in_row, with_depth, attached_texels}
use Rattle.store_laws.specs.Standing.{Holding, held_in}
use Rattle.store_laws.specs.ByIndex.{Stores, with_buffers, with_values, textures_out, vertices_at, indices_at, paint_at}
use Rattle.store_laws.specs.Says.{left, there_in, begun_things, AllHold, IsDepthThere, texture_index, TargetNames, ItemNames, ItemsName}
use Rattle.store_laws.proofs.LookLaws.{Keeps, set_all, vertices_same, indices_same}
use Rattle.store_laws.proofs.TargetLaws.{TexelsThere, texels_there, TargetThere, target_there}
use Rattle.store_laws.proofs.DrawLaws.{clear_one, paint_same, do_all}
use Rattle.store_laws.proofs.MadeLaws.{made_all}
use Rattle.trace_laws.specs.Deeds.{Deed, clear_deed, item_deed, after_deed, deeds_of_view, deeds, begun}
use Rattle.trace_laws.specs.History.{Stroke, fragments_from, drawn_strokes, item_strokes}
use Rattle.trace_laws.specs.ByIndex.{stores_after, deeds_in, begun_in, drawn_strokes_in, item_strokes_in}
use Rattle.trace_laws.proofs.Indexed.{DeedNames, DeedsName, views-name, deed-one, item-same}
use Rattle.target_laws.specs.Targets.{pixel_on, has_pixel, draws_on, left_pixel, target_pixel, strokes_on, TargetStroke, own_stroke, target_strokes, TargetMade, target_history_from}
use Rattle.target_laws.specs.ByIndex.{surface_at, strokes_on_in, target_strokes_in, target_history_in}
use Rattle.target_laws.specs.Laws.{IsTarget, TargetIndexedLaw}
use Rattle.target_laws.proofs.Own.{with_back}

-- stores with a surface in place of the back buffer
abbrev back_in : Surface → Stores → Stores
back_in s h = record h { back = s }

module _ (place : ℕ → ℕ) (there : List ℕ) (held : List Holding) where
  -- the same with a surface in place of the back buffer
  back-keeps : (s : Surface) (h : Stores) (w : World) → Keeps place there held h w → Keeps place there held (back_in s h) (with_back s w)
  back-keeps s h w k = record {
    stands = record { back = refl; layouts = k.stands.layouts; vertices = k.stands.vertices; indices = k.stands.indices; textures = k.stands.textures; targets = k.stands.targets; programs = k.stands.programs; uniforms = k.stands.uniforms; apart = k.stands.apart; ascends = k.stands.ascends; stand = k.stands.stand };
    same = k.same;
    holds = k.holds;
  }

  on-same : AllHold place there held → (o : Option Surface) (h : Stores) (w : World) (x y : ℕ) (d : Deed) → Keeps place there held h w → DeedNames place there held d → strokes_on_in o x y h d ≡ strokes_on o x y w d
  on-same a None h w x y d k n = refl
  on-same a (Some s) h w x y (clear_deed view) k n = refl
  on-same a (Some s) h w x y (item_deed view i) k n = item-same place there held a (back_in s h) (with_back s w) view x y i n.0 (back-keeps s h w k) n.1

  -- ---- a frame buffer

  abbrev surface-of : Option (Texels × Option Texels) → Option Surface
  surface-of o = option_map (λ p. record { color = p.0; depth = p.1 }) o

  by-depth : (h : Stores) (w : World) (t : Handle) (color : ℕ) (depth : Option ℕ) → Keeps place there held h w → content_of w t ≡ Some (frame_buffer_content color depth)
      → at h.textures.targets t.index ≡ Some (record { color = texture_index place color; depth = option_map (texture_index place) depth })
      → TexelsThere place h w color → IsDepthThere place there color depth → surface_at h t ≡ surface_of w (Some t)
  by-depth h w t color None k is slot c deep =
      ap (λ o. surface-of (option_and_then (λ (x : TargetSlot). attached_texels h.textures.textures x.color x.depth) o)) slot
      ∙ ap (λ o. surface-of (option_map (λ z. (z, None)) (option_and_then slot_texels o))) c.slot
      ∙ ap (λ o. surface_of_parts (texels_of o) None) (sym c.content)
      ∙ ap (attached_surface w.things) (sym is)
  by-depth h w t color (Some n) k is slot c deep =
      let d : TexelsThere place h w n = texels_there place there held h w n k deep.0 in
      ap (λ o. surface-of (option_and_then (λ (x : TargetSlot). attached_texels h.textures.textures x.color x.depth) o)) slot
      ∙ ap (λ o. surface-of (option_and_then (with_depth (option_and_then slot_texels o)) (texels_in_row h.textures.textures (texture_index place color)))) d.slot
      ∙ ap (λ o. surface-of (option_and_then (with_depth (Some d.texels)) (option_and_then slot_texels o))) c.slot
      ∙ ap (λ o. surface_of_parts (texels_of o) (Some d.texels)) (sym c.content)
      ∙ ap (λ o. surface_of_parts (texels_of (content_in w.things color)) (texels_of o)) (sym d.content)
      ∙ ap (attached_surface w.things) (sym is)

  apart-of : (color : ℕ) (depth : Option ℕ) → IsDepthThere place there color depth → depth ≢ Some color
  apart-of color None deep is = none-some color is
  apart-of color (Some n) deep is = deep.1 (sym (same_Some n color is))

  module _ (t : Handle) (named : TargetNames place there (Some t)) (a : AllHold place there held) where
    surface-same : (h : Stores) (w : World) → Keeps place there held h w → surface_at h t ≡ surface_of w (Some t)
    surface-same h w k =
        let it : TargetThere place there h w t = target_there place there held h w t k a named in
        by-depth h w t it.color it.depth k it.content it.slot (texels_there place there held h w it.color k it.color_there) it.depth_there

    pub is-target : (h : Stores) (w : World) → Keeps place there held h w → IsTarget w t
    is-target h w k =
        let it : TargetThere place there h w t = target_there place there held h w t k a named in
        record { color = it.color; depth = it.depth; content = it.content; apart = apart-of it.color it.depth it.depth_there }

    strokes-same : (h : Stores) (w : World) (x y : ℕ) (d : Deed) → Keeps place there held h w → DeedNames place there held d → target_strokes_in t x y h d ≡ target_strokes t x y w d
    strokes-same h w x y d k n =
        let now : surface_at h t ≡ surface_of w (Some t) = surface-same h w k in
        let next : surface_at (stores_after h d) t ≡ surface_of (after_deed w d) (Some t) = surface-same (stores_after h d) (after_deed w d) (deed-one place there held a h w d k n) in
        (λ i. if draws_on t d && has_pixel (now i) x y then map (λ s. own_stroke s) (strokes_on_in (now i) x y h d) else left_pixel (pixel_on (now i) x y) (pixel_on (next i) x y))
        ∙ ap (λ (ss : List Stroke). if draws_on t d && has_pixel (surface_of w (Some t)) x y then map (λ s. own_stroke s) ss else left_pixel (target_pixel w t x y) (target_pixel (after_deed w d) t x y)) (on-same a (surface_of w (Some t)) h w x y d k n)

    history-same : (x y m : ℕ) (ds : List Deed) (h : Stores) (w : World) → Keeps place there held h w → DeedsName place there held ds → target_history_in t x y m h ds ≡ target_history_from t x y m w ds
    history-same x y m [] h w k n = refl
    history-same x y m (d ∷ ds) h w k n =
        ap (λ (ss : List TargetStroke). map (λ s. record { deed = m; stroke = s }) ss ++ target_history_in t x y (m + 1) (stores_after h d) ds) (strokes-same h w x y d k n.0)
        ∙ ap (λ (ms : List TargetMade). map (λ s. record { deed = m; stroke = s }) (target_strokes t x y w d) ++ ms) (history-same x y (m + 1) ds (stores_after h d) (after_deed w d) (deed-one place there held a h w d k n.0) n.1)

-- ---- the frame by index

pub target-indexed-law : TargetIndexedLaw
target-indexed-law place h w f content gone t s says named =
    let start : World = left content.gone w in
    let there : List ℕ = there_in content w in
    let held : List Holding = held_in (begun_things content w) in
    let first = made_all place f.payloads h start f.pre content.changes says.made s says.apart says.ascends in
    let k : Keeps place there held (begun_in h f) (begun w content) = record { stands = first.0; same = first.1; holds = refl } in
    let P : List Item → Type 0 = λ xs. ItemsName place there held xs in
    let n : DeedsName place there held (deeds content) = views-name place there held content (ordered content.views content.items) (entered_views content) says.targets (subst P says.items says.named_items) (subst P says.ordered says.named) in
    let same : deeds_in f ≡ deeds content = rw (says.views, says.sequence, says.items, says.ordered) refl in
    record {
      there = is-target place there held t named says.hold (begun_in h f) (begun w content) k;
      surface = surface-same place there held t named says.hold (begun_in h f) (begun w content) k;
      history = λ x y. ap (target_history_in t x y 0 (begun_in h f)) same ∙ history-same place there held t named says.hold x y 0 (deeds content) (begun_in h f) (begun w content) k n;
    }
