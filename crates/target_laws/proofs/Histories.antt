-- A pixel of a frame buffer after what it goes through.
use Rattle.std.proofs.Common.{◌≡◌, ◌≢◌, ◌∙◌, ℕ, ◌+◌, Bool, true, false, cond, eqb, List, [], ◌∷◌, map, Option, Some, None, refl, sym, ap}
use Rattle.std.proofs.lemmas.Bool.{eqb-true, and_parts, both_ways}
use Rattle.std.specs.Prelude.{◌*◌, ◌&&◌, fold, slice_index_or}
use Rattle.gfx_model.specs.Words.{Handle}
use Rattle.gfx_model.specs.Raster.{Texels, view_rect, no_color}
use Rattle.gfx_model.specs.Pixel.{Pixel}
use Rattle.gfx_model.specs.Views.{View}
use Rattle.gfx_model.specs.World.{Surface, World, Content, layout_content, vertex_content, index_content, texture_content, frame_buffer_content, program_content, uniform_content, content_in, content_of, change_thing, texels_of, with_texels, with_depth_texels, with_attached, attached_surface, surface_of, surface_of_parts, with_changed, on_surface, Draw, Item, draw_item, touch_item, blit_item, Blit, blit_from, copied, UniformSet, set_uniform, with_value, Paint, paint_of, painted_by, facings_of, drawn_on, clear_surface, on_each_pixel, frame_step}
use Rattle.trace_laws.specs.Deeds.{Deed, clear_deed, item_deed, after_deed, deeds, begun}
use Rattle.trace_laws.specs.History.{Stroke, after_stroke, drawn_strokes, draw_strokes, clear_strokes}
use Rattle.trace_laws.specs.Laws.{HasPixel}
use Rattle.trace_laws.proofs.Steps.{fold-append, steps-law}
use Rattle.target_laws.specs.Targets.{texel_pixel, pixel_on, has_pixel, target_pixel, TargetStroke, own_stroke, after_target_stroke, is_target, is_draw, draws_on, strokes_on, left_pixel, target_strokes, TargetMade, target_history_from, after_target_history}
use Rattle.target_laws.specs.Laws.{TargetHistoryLaw, TargetLastLaw}
use Rattle.target_laws.proofs.Things.{in-kept, texels-kept, value-texels}
use Rattle.target_laws.proofs.Pixels.{texel-same, has-there, left-goes}
use Rattle.target_laws.proofs.Own.{with_back, Strokes, clear_change, clear-strokes, draw_change, draw-strokes, paint-back, put-back}

-- ---- a frame buffer stays what it is

module _ (color : ℕ) (depth : Option ℕ) (m : ℕ) where
  abbrev target : Content
  target = frame_buffer_content color depth

  deep-kept : (s : Surface) (c : ℕ) (d : Option ℕ) (z : Option Texels) (ts : List (ℕ × Content)) → content_in ts m ≡ Some target → content_in (with_depth_texels d z (change_thing (with_texels s.color) c ts)) m ≡ Some target
  deep-kept s c None z ts is = in-kept (with_texels s.color) target c m ts refl is
  deep-kept s c (Some d) None ts is = in-kept (with_texels s.color) target c m ts refl is
  deep-kept s c (Some d) (Some z) ts is = in-kept (with_texels z) target d m (change_thing (with_texels s.color) c ts) refl (in-kept (with_texels s.color) target c m ts refl is)

  pub attached-kept : (s : Surface) (o : Option Content) (ts : List (ℕ × Content)) → content_in ts m ≡ Some target → content_in (with_attached s o ts) m ≡ Some target
  attached-kept s None ts is = is
  attached-kept s (Some (frame_buffer_content c d)) ts is = deep-kept s c d s.depth ts is
  attached-kept s (Some (layout_content l)) ts is = is
  attached-kept s (Some (vertex_content l bytes)) ts is = is
  attached-kept s (Some (index_content bytes)) ts is = is
  attached-kept s (Some (texture_content f t)) ts is = is
  attached-kept s (Some (program_content k)) ts is = is
  attached-kept s (Some (uniform_content name v)) ts is = is

  surface-kept : (w : World) (o : Option Handle) (change : Surface → Surface) → content_in w.things m ≡ Some target → content_in (on_surface w o change).things m ≡ Some target
  surface-kept w None change is = is
  surface-kept w (Some h) change is = go (surface_of w (Some h))
    where
      go : (o : Option Surface) → content_in (with_changed w (Some h) change o).things m ≡ Some target
      go None = is
      go (Some s) = attached-kept (change s) (content_of w h) w.things is

  values-kept : (values : List UniformSet) (w : World) → content_in w.things m ≡ Some target → content_in (fold set_uniform w values).things m ≡ Some target
  values-kept [] w is = is
  values-kept (v ∷ vs) w is = values-kept vs (set_uniform w v) (in-kept (with_value v.value) target v.uniform.serial m w.things refl is)

  painted-kept : (w : World) (view : View) (d : Draw) (o : Option Paint) → content_in w.things m ≡ Some target → content_in (painted_by w view d o).things m ≡ Some target
  painted-kept w view d None is = is
  painted-kept w view d (Some paint) is = surface-kept w view.target (drawn_on w view d paint) is

  copied-kept : (w : World) (b : Blit) (o : Option Texels) → content_in w.things m ≡ Some target → content_in (copied w b o).things m ≡ Some target
  copied-kept w b None is = is
  copied-kept w b (Some source) is = in-kept (blit_from b source) target b.destination.serial m w.things refl is

  deed-kept : (w : World) (d : Deed) → content_in w.things m ≡ Some target → content_in (after_deed w d).things m ≡ Some target
  deed-kept w (clear_deed view) is = surface-kept w view.target (clear_surface view) is
  deed-kept w (item_deed view (draw_item d)) is =
      let v : World = fold set_uniform w d.values in
      painted-kept v view d (paint_of v view d (content_of v d.program)) (values-kept d.values w is)
  deed-kept w (item_deed view (touch_item t)) is = values-kept t.values w is
  deed-kept w (item_deed view (blit_item b)) is = copied-kept w b (texels_of (content_of w b.source)) is

  pub deeds-kept : (ds : List Deed) (w : World) → content_in w.things m ≡ Some target → content_in (fold after_deed w ds).things m ≡ Some target
  deeds-kept [] w is = is
  deeds-kept (d ∷ ds) w is = deeds-kept ds (after_deed w d) (deed-kept w d is)

-- ---- values leave surfaces

attached-same : (ts us : List (ℕ × Content)) (color : ℕ) (depth : Option ℕ) → ((n : ℕ) → texels_of (content_in us n) ≡ texels_of (content_in ts n)) → attached_surface us (Some (frame_buffer_content color depth)) ≡ attached_surface ts (Some (frame_buffer_content color depth))
attached-same ts us color None same = ap (λ o. surface_of_parts o None) (same color)
attached-same ts us color (Some n) same = λ i. surface_of_parts (same color i) (same n i)

values-with : (s : Surface) (values : List UniformSet) (w : World) → fold set_uniform (with_back s w) values ≡ with_back s (fold set_uniform w values)
values-with s [] w = refl
values-with s (v ∷ vs) w = values-with s vs (set_uniform w v)

fold-own : (p : Pixel) (ss : List Stroke) → fold after_target_stroke p (map (λ s. own_stroke s) ss) ≡ fold after_stroke p ss
fold-own p [] = refl
fold-own p (s ∷ ss) = fold-own (after_stroke p s) ss

module _ (t : Handle) (color : ℕ) (depth : Option ℕ) (apart : depth ≢ Some color) where
  abbrev IsThere : World → Type 0
  IsThere w = content_of w t ≡ Some (frame_buffer_content color depth)

  values-surface : (values : List UniformSet) (w : World) → IsThere w → surface_of (fold set_uniform w values) (Some t) ≡ surface_of w (Some t)
  values-surface [] w is = refl
  values-surface (v ∷ vs) w is =
      let next : World = set_uniform w v in
      let there : IsThere next = in-kept (with_value v.value) (frame_buffer_content color depth) v.uniform.serial t.serial w.things refl is in
      values-surface vs next there
      ∙ ap (attached_surface next.things) there
      ∙ attached-same w.things next.things color depth (λ n. texels-kept (with_value v.value) (value-texels v.value) v.uniform.serial n w.things)
      ∙ ap (attached_surface w.things) (sym is)

  -- ---- a clear or a draw of a view that draws on it

  module _ (x y : ℕ) where
    own-goes : (w : World) (h : Handle) (change : Surface → ℕ → ℕ → Pixel → Pixel) (s : Surface) (strokes : List Stroke) → h.serial ≡ t.serial → IsThere w → surface_of w (Some t) ≡ Some s → HasPixel s x y → Strokes s x y strokes (change s)
        → fold after_target_stroke (target_pixel w t x y) (map (λ k. own_stroke k) strokes) ≡ target_pixel (on_surface w (Some h) (λ u. on_each_pixel (change u) u)) t x y
    own-goes w h change s strokes serial is there has made =
        let target : Option Content = Some (frame_buffer_content color depth) in
        let new : Surface = on_each_pixel (change s) s in
        let own : content_of w h ≡ target = ap (content_in w.things) serial ∙ is in
        let whole : attached_surface w.things target ≡ Some s = ap (attached_surface w.things) (sym is) ∙ there in
        let after : List (ℕ × Content) = with_attached new target w.things in
        let world : on_surface w (Some h) (λ u. on_each_pixel (change u) u) ≡ record w { things = after } =
        ap (λ o. with_changed w (Some h) (λ u. on_each_pixel (change u) u) (attached_surface w.things o)) own
        ∙ ap (with_changed w (Some h) (λ u. on_each_pixel (change u) u)) whole
        ∙ ap (λ o. record w { things = with_attached new o w.things }) own in
        let stays : content_in after t.serial ≡ target = attached-kept color depth t.serial new target w.things is in
        let put : surface_of (record w { things = after }) (Some t) ≡ Some new = ap (attached_surface after) stays ∙ put-back (change s) w.things color depth s apart whole in
        ap (λ o. fold after_target_stroke (pixel_on o x y) (map (λ k. own_stroke k) strokes)) there
        ∙ fold-own (texel_pixel s x y) strokes
        ∙ ap (λ p. fold after_stroke p strokes) (texel-same s x y has)
        ∙ made.goes
        ∙ sym (texel-same new x y made.has)
        ∙ ap (λ o. pixel_on o x y) (sym put)
        ∙ ap (λ u. target_pixel u t x y) (sym world)

    clear-own : (w : World) (view : View) (o : Option Handle) (s : Surface) → is_target t o ≡ true → IsThere w → surface_of w (Some t) ≡ Some s → HasPixel s x y
        → fold after_target_stroke (target_pixel w t x y) (map (λ k. own_stroke k) (clear_strokes (with_back s w) view x y)) ≡ target_pixel (on_surface w o (clear_surface view)) t x y
    clear-own w view None s on is there has = absurd (both_ways false refl on)
    clear-own w view (Some h) s on is there has =
        own-goes w h (clear_change view) s (clear_strokes (with_back s w) view x y) (eqb-true h.serial t.serial (and_parts (eqb h.index t.index) (eqb h.serial t.serial) on).1) is there has (clear-strokes w view s x y has)

    draw-own : (w : World) (view : View) (d : Draw) (paint : Paint) (o : Option Handle) (s : Surface) → is_target t o ≡ true → IsThere w → surface_of w (Some t) ≡ Some s → HasPixel s x y
        → fold after_target_stroke (target_pixel w t x y) (map (λ k. own_stroke k) (drawn_strokes (with_back s w) view d x y (Some paint))) ≡ target_pixel (on_surface w o (drawn_on w view d paint)) t x y
    draw-own w view d paint None s on is there has = absurd (both_ways false refl on)
    draw-own w view d paint (Some h) s on is there has =
        own-goes w h (λ u. draw_change view d paint (facings_of w view (view_rect view.rect u.color.width u.color.height) d) u) s (drawn_strokes (with_back s w) view d x y (Some paint)) (eqb-true h.serial t.serial (and_parts (eqb h.index t.index) (eqb h.serial t.serial) on).1) is there has
        (draw-strokes w view d paint s x y has)

    paint-own : (w : World) (view : View) (d : Draw) (o : Option Paint) (s : Surface) → is_target t view.target ≡ true → IsThere w → surface_of w (Some t) ≡ Some s → HasPixel s x y
        → fold after_target_stroke (target_pixel w t x y) (map (λ k. own_stroke k) (drawn_strokes (with_back s w) view d x y o)) ≡ target_pixel (painted_by w view d o) t x y
    paint-own w view d None s on is there has = refl
    paint-own w view d (Some paint) s on is there has = draw-own w view d paint view.target s on is there has

    item-own : (w : World) (view : View) (i : Item) (s : Surface) → (is_draw i && is_target t view.target) ≡ true → IsThere w → surface_of w (Some t) ≡ Some s → HasPixel s x y
        → fold after_target_stroke (target_pixel w t x y) (map (λ k. own_stroke k) (strokes_on (Some s) x y w (item_deed view i))) ≡ target_pixel (after_deed w (item_deed view i)) t x y
    item-own w view (draw_item d) s on is there has =
        let v : World = fold set_uniform w d.values in
        let given : World = fold set_uniform (with_back s w) d.values in
        let same : given ≡ with_back s v = values-with s d.values w in
        let kept : surface_of v (Some t) ≡ surface_of w (Some t) = values-surface d.values w is in
        let stays : IsThere v = deeds-kept color depth t.serial (item_deed view (touch_item (record { view = 0; values = d.values })) ∷ []) w is in
        ap (λ o. fold after_target_stroke (pixel_on o x y) (map (λ k. own_stroke k) (draw_strokes given view d x y))) (sym kept)
        ∙ ap (λ u. fold after_target_stroke (target_pixel v t x y) (map (λ k. own_stroke k) (draw_strokes u view d x y))) same
        ∙ ap (λ o. fold after_target_stroke (target_pixel v t x y) (map (λ k. own_stroke k) (drawn_strokes (with_back s v) view d x y o))) (paint-back v s view d (content_of v d.program))
        ∙ paint-own v view d (paint_of v view d (content_of v d.program)) s on stays (kept ∙ there) has
    item-own w view (touch_item u) s on is there has = absurd (both_ways false refl on)
    item-own w view (blit_item b) s on is there has = absurd (both_ways false refl on)

    deed-own : (w : World) (d : Deed) (s : Surface) → draws_on t d ≡ true → IsThere w → surface_of w (Some t) ≡ Some s → HasPixel s x y
        → fold after_target_stroke (target_pixel w t x y) (map (λ k. own_stroke k) (strokes_on (Some s) x y w d)) ≡ target_pixel (after_deed w d) t x y
    deed-own w (clear_deed view) s on is there has = clear-own w view view.target s on is there has
    deed-own w (item_deed view i) s on is there has = item-own w view i s on is there has

    -- ---- a deed

    found-own : (w : World) (d : Deed) (o : Option Surface) → draws_on t d ≡ true → has_pixel o x y ≡ true → IsThere w → surface_of w (Some t) ≡ o
        → fold after_target_stroke (target_pixel w t x y) (map (λ k. own_stroke k) (strokes_on o x y w d)) ≡ target_pixel (after_deed w d) t x y
    found-own w d None on has is there = absurd (both_ways false refl has)
    found-own w d (Some s) on has is there = deed-own w d s on is there (has-there s x y has)

    deed-goes : (w : World) (d : Deed) → IsThere w → fold after_target_stroke (target_pixel w t x y) (target_strokes t x y w d) ≡ target_pixel (after_deed w d) t x y
    deed-goes w d is = go (draws_on t d && has_pixel (surface_of w (Some t)) x y) refl
      where
        go : (b : Bool) → (draws_on t d && has_pixel (surface_of w (Some t)) x y) ≡ b
            → fold after_target_stroke (target_pixel w t x y) (cond b (map (λ k. own_stroke k) (strokes_on (surface_of w (Some t)) x y w d)) (left_pixel (target_pixel w t x y) (target_pixel (after_deed w d) t x y))) ≡ target_pixel (after_deed w d) t x y
        go true e =
            let both = and_parts (draws_on t d) (has_pixel (surface_of w (Some t)) x y) e in
            found-own w d (surface_of w (Some t)) both.0 both.1 is refl
        go false e = left-goes (target_pixel w t x y) (target_pixel (after_deed w d) t x y)

    -- ---- deeds

    made-fold : (n : ℕ) (p : Pixel) (ss : List TargetStroke) → after_target_history p (map (λ s. record { deed = n; stroke = s }) ss) ≡ fold after_target_stroke p ss
    made-fold n p [] = refl
    made-fold n p (s ∷ ss) = made-fold n (after_target_stroke p s) ss

    pub deeds-go : (n : ℕ) (w : World) (ds : List Deed) → IsThere w → after_target_history (target_pixel w t x y) (target_history_from t x y n w ds) ≡ target_pixel (fold after_deed w ds) t x y
    deeds-go n w [] is = refl
    deeds-go n w (d ∷ ds) is =
        let made : List TargetMade = map (λ s. record { deed = n; stroke = s }) (target_strokes t x y w d) in
        let rest : List TargetMade = target_history_from t x y (n + 1) (after_deed w d) ds in
        fold-append (λ (q : Pixel) (m : TargetMade). after_target_stroke q m.stroke) (target_pixel w t x y) made rest
        ∙ ap (λ q. after_target_history q rest) (made-fold n (target_pixel w t x y) (target_strokes t x y w d) ∙ deed-goes w d is)
        ∙ deeds-go (n + 1) (after_deed w d) ds (deeds-kept color depth t.serial (d ∷ []) w is)

-- ---- a frame

pub target-history-law : TargetHistoryLaw
target-history-law w f t x y it = deeds-go t it.color it.depth it.apart x y 0 (begun w f) (deeds f) it.content ∙ ap (λ u. target_pixel u t x y) (steps-law w f)

color-there : (w : World) (t : Handle) (x y : ℕ) (color : ℕ) (depth : Option ℕ) (texels : Texels) → content_of w t ≡ Some (frame_buffer_content color depth) → texels_of (content_in w.things color) ≡ Some texels
    → (target_pixel w t x y).color ≡ slice_index_or texels.texels (y * texels.width + x) no_color
color-there w t x y color None texels is there =
    ap (λ o. (pixel_on (attached_surface w.things o) x y).color) is
    ∙ ap (λ o. (pixel_on (surface_of_parts o None) x y).color) there
color-there w t x y color (Some n) texels is there =
    ap (λ o. (pixel_on (attached_surface w.things o) x y).color) is
    ∙ ap (λ o. (pixel_on (surface_of_parts o (texels_of (content_in w.things n))) x y).color) there

pub target-last-law : TargetLastLaw
target-last-law w f t x y it texels there =
    ap (λ p. p.color) (target-history-law w f t x y it)
    ∙ color-there (frame_step w f) t x y it.color it.depth texels
    (ap (λ u. content_of u t) (sym (steps-law w f)) ∙ deeds-kept it.color it.depth t.serial (deeds f) (begun w f) it.content) there
