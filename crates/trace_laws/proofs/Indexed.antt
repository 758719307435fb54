-- The deeds and histories by index are the definition's.
use Rattle.std.proofs.Common.{◌≡◌, ◌∙◌, ℕ, ◌+◌, Bool, true, false, cond, List, [], ◌∷◌, ◌++◌, map, Option, Some, None, refl, ap, subst}
use Rattle.std.specs.Prelude.{if◌then◌else◌, filter, filter_map, flat_map, fold}
use Rattle.std.specs.List.{AllByRecursion}
use Rattle.gfx_model.specs.Words.{primitive_of}
use Rattle.gfx_model.specs.Vertex.{triangles_of}
use Rattle.gfx_model.specs.Raster.{contains, view_rect}
use Rattle.gfx_model.specs.Views.{View, Views, view_at}
use Rattle.gfx_model.specs.World.{World, Surface, Draw, Item, draw_item, touch_item, blit_item, is_blit, is_of_view, set_uniform, Paint, paint_of, content_of, is_in_cut, placed_facing, draw_vertices, vertex_range, index_range, clear_surface, FrameContent, ordered, entered_views}
use Rattle.store_model.specs.Slots.{at}
use Rattle.store_laws.specs.Standing.{Holding, held_in}
use Rattle.store_laws.specs.ByIndex.{Stores, with_buffers, with_values, textures_out, vertices_at, indices_at, paint_at, on_target, do_by_index, entered_by_index, enter_by_index}
use Rattle.store_laws.specs.Says.{left, there_in, begun_things, AllHold, TargetNames, ItemNames, ItemsName}
use Rattle.store_laws.proofs.LookLaws.{Keeps, set_all, vertices_same, indices_same}
use Rattle.store_laws.proofs.DrawLaws.{clear_one, paint_same, do_all}
use Rattle.store_laws.proofs.MadeLaws.{made_all}
use Rattle.trace_laws.specs.Deeds.{Deed, clear_deed, item_deed, after_deed, deeds_of_view, deeds, begun, worlds_after}
use Rattle.trace_laws.specs.History.{Stroke, clear_stroke, fragments_from, drawn_strokes, item_strokes, on_back, strokes_of, Made, history_from}
use Rattle.trace_laws.specs.ByIndex.{stores_after, deeds_in_view, deeds_in, begun_in, stores_after_each, drawn_strokes_in, item_strokes_in, strokes_in, history_in, IndexedLaw}
use Rattle.trace_laws.proofs.Steps.{fold-append}

-- ---- what deeds name

abbrev pub DeedNames : (ℕ → ℕ) → List ℕ → List Holding → Deed → Type 0
DeedNames place there held (clear_deed view) = TargetNames place there view.target
DeedNames place there held (item_deed view i) = TargetNames place there view.target × ItemNames place there held i

abbrev pub DeedsName : (ℕ → ℕ) → List ℕ → List Holding → List Deed → Type 0
DeedsName place there held ds = AllByRecursion (DeedNames place there held) ds

module _ (place : ℕ → ℕ) (there : List ℕ) (held : List Holding) where
  names-kept : (p : Item → Bool) (items : List Item) → ItemsName place there held items → ItemsName place there held (filter p items)
  names-kept p [] n = tt
  names-kept p (i ∷ items) n = step (p i) (names-kept p items n.1)
    where
      step : (b : Bool) → ItemsName place there held (filter p items) → ItemsName place there held (cond b (i ∷ filter p items) (filter p items))
      step true h = (n.0, h)
      step false h = h

  names-append : (xs ys : List Item) → ItemsName place there held xs → ItemsName place there held ys → ItemsName place there held (xs ++ ys)
  names-append [] ys n m = m
  names-append (x ∷ xs) ys n m = (n.0, names-append xs ys n.1 m)

  items-name : (view : View) (items : List Item) → TargetNames place there view.target → ItemsName place there held items → DeedsName place there held (map (item_deed view) items)
  items-name view [] t n = tt
  items-name view (i ∷ items) t n = ((t, n.0), items-name view items t n.1)

  deeds-append : (xs ys : List Deed) → DeedsName place there held xs → DeedsName place there held ys → DeedsName place there held (xs ++ ys)
  deeds-append [] ys n m = m
  deeds-append (x ∷ xs) ys n m = (n.0, deeds-append xs ys n.1 m)

  pub views-name : (f : FrameContent) (drawn : List Item) (vs : List ℕ) → ((v : ℕ) → TargetNames place there (view_at f.views v).target) → ItemsName place there held f.items → ItemsName place there held drawn
      → DeedsName place there held (flat_map (deeds_of_view f drawn) vs)
  views-name f drawn [] t n m = tt
  views-name f drawn (v ∷ vs) t n m =
      let view : View = view_at f.views v in
      let own : List Item = filter (is_of_view v) (filter is_blit f.items ++ drawn) in
      deeds-append (deeds_of_view f drawn v) (flat_map (deeds_of_view f drawn) vs)
      (t v, items-name view own (t v) (names-kept (is_of_view v) (filter is_blit f.items ++ drawn) (names-append (filter is_blit f.items) drawn (names-kept is_blit f.items n) m)))
      (views-name f drawn vs t n m)

  -- ---- a deed

  pub deed-one : AllHold place there held → (h : Stores) (w : World) (d : Deed) → Keeps place there held h w → DeedNames place there held d → Keeps place there held (stores_after h d) (after_deed w d)
  deed-one a h w (clear_deed view) k n = clear_one place there held h w view a n k
  deed-one a h w (item_deed view i) k n = do_all place there held view (i ∷ []) h w a n.0 k (n.1, tt)

  drawn-same : (h : Stores) (w : World) (view : View) (d : Draw) (x y : ℕ) (o p : Option Paint) → h.back ≡ w.back → vertices_at h.buffers d.vertices ≡ vertex_range w d.vertices → indices_at h.buffers d.indices ≡ index_range w d.indices → o ≡ p
      → drawn_strokes_in h view d x y o ≡ drawn_strokes w view d x y p
  drawn-same h w view d x y o p back vertices indices paint = ap (drawn_strokes_in h view d x y) paint ∙ go p
    where
      go : (q : Option Paint) → drawn_strokes_in h view d x y q ≡ drawn_strokes w view d x y q
      go None = refl
      go (Some q) = λ i.
          let rect = view_rect view.rect (back i).color.width (back i).color.height in
          if is_in_cut view rect d x y then fragments_from 0 d.state q x y (filter_map (placed_facing view rect d) (triangles_of (primitive_of d.state) (draw_vertices (vertices i) (indices i)))) else []

  pub item-same : AllHold place there held → (h : Stores) (w : World) (view : View) (x y : ℕ) (i : Item) → TargetNames place there view.target → Keeps place there held h w → ItemNames place there held i
      → item_strokes_in h view x y i ≡ item_strokes w view x y i
  item-same a h w view x y (draw_item d) t k n =
      let u : Stores = with_buffers h (with_values h.buffers d.values) in
      let v : World = fold set_uniform w d.values in
      let given : Keeps place there held u v = set_all place there held d.values h w k n.1 in
      drawn-same u v view d x y (paint_at u.buffers (textures_out view.target u.textures) d (at u.programs d.program.index)) (paint_of v view d (content_of v d.program)) given.stands.back
      (vertices_same place there held u v d.vertices given n.2) (indices_same place there held u v d.indices given n.3)
      (paint_same place there held u v view d given a t n.0 n.4)
  item-same a h w view x y (touch_item t) tn k n = refl
  item-same a h w view x y (blit_item b) tn k n = refl

  strokes-same : AllHold place there held → (h : Stores) (w : World) (x y : ℕ) (d : Deed) → Keeps place there held h w → DeedNames place there held d → strokes_in x y h d ≡ strokes_of x y w d
  strokes-same a h w x y (clear_deed view) k n = ap (λ (s : Surface). on_back view.target (if contains (view_rect view.rect s.color.width s.color.height) x y then clear_stroke view.clear ∷ [] else [])) k.stands.back
  strokes-same a h w x y (item_deed view i) k n = ap (on_back view.target) (item-same a h w view x y i n.0 k n.1)

  -- ---- deeds

  history-same : AllHold place there held → (x y m : ℕ) (ds : List Deed) (h : Stores) (w : World) → Keeps place there held h w → DeedsName place there held ds → history_in x y m h ds ≡ history_from x y m w ds
  history-same a x y m [] h w k n = refl
  history-same a x y m (d ∷ ds) h w k n =
      ap (λ (ss : List Stroke). map (λ s. record { deed = m; stroke = s }) ss ++ history_in x y (m + 1) (stores_after h d) ds) (strokes-same a h w x y d k n.0)
      ∙ ap (λ (ms : List Made). map (λ s. record { deed = m; stroke = s }) (strokes_of x y w d) ++ ms) (history-same a x y (m + 1) ds (stores_after h d) (after_deed w d) (deed-one a h w d k n.0) n.1)

  steps-same : AllHold place there held → (ds : List Deed) (h : Stores) (w : World) → Keeps place there held h w → DeedsName place there held ds
      → map (λ u. u.back.color) (h ∷ stores_after_each h ds) ≡ map (λ u. u.back.color) (w ∷ worlds_after w ds)
  steps-same a [] h w k n = ap (λ (s : Surface). s.color ∷ []) k.stands.back
  steps-same a (d ∷ ds) h w k n = λ i. (k.stands.back i).color ∷ steps-same a ds (stores_after h d) (after_deed w d) (deed-one a h w d k n.0) n.1 i

-- ---- the frame by index

items-in : (view : View) (items : List Item) (h : Stores) → fold stores_after h (map (item_deed view) items) ≡ fold (do_by_index view) h items
items-in view [] h = refl
items-in view (i ∷ items) h = items-in view items (do_by_index view h i)

views-in : (views : Views) (items drawn : List Item) (vs : List ℕ) (h : Stores) → fold stores_after h (flat_map (deeds_in_view views items drawn) vs) ≡ fold (enter_by_index views items drawn) h vs
views-in views items drawn [] h = refl
views-in views items drawn (v ∷ vs) h =
    let view : View = view_at views v in
    fold-append stores_after h (deeds_in_view views items drawn v) (flat_map (deeds_in_view views items drawn) vs)
    ∙ ap (λ u. fold stores_after u (flat_map (deeds_in_view views items drawn) vs)) (items-in view (filter (is_of_view v) (filter is_blit items ++ drawn)) (on_target h view.target (clear_surface view)))
    ∙ views-in views items drawn vs (enter_by_index views items drawn h v)

pub indexed-law : IndexedLaw
indexed-law place h w f content gone s says =
    let start : World = left content.gone w in
    let there : List ℕ = there_in content w in
    let held : List Holding = held_in (begun_things content w) in
    let first = made_all place f.payloads h start f.pre content.changes says.made s says.apart says.ascends in
    let k : Keeps place there held (begun_in h f) (begun w content) = record { stands = first.0; same = first.1; holds = refl } in
    let P : List Item → Type 0 = λ xs. ItemsName place there held xs in
    let n : DeedsName place there held (deeds content) = views-name place there held content (ordered content.views content.items) (entered_views content) says.targets (subst P says.items says.named_items) (subst P says.ordered says.named) in
    let same : deeds_in f ≡ deeds content = rw (says.views, says.sequence, says.items, says.ordered) refl in
    record {
      back = s.back;
      deeds = same;
      drawn = views-in f.views f.items f.ordered (entered_by_index f) (begun_in h f);
      steps = ap (λ (ds : List Deed). map (λ u. u.back.color) (begun_in h f ∷ stores_after_each (begun_in h f) ds)) same ∙ steps-same place there held says.hold (deeds content) (begun_in h f) (begun w content) k n;
      history = λ x y. ap (history_in x y 0 (begun_in h f)) same ∙ history-same place there held says.hold x y 0 (deeds content) (begun_in h f) (begun w content) k n;
    }
