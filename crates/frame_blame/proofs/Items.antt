-- What items that are prepared did, and marks that are changed.
use Rattle.std.proofs.Common.{◌≡◌, ◌∙◌, ℕ, ◌<◌, ◌≤◌, true, false, is_some, List, [], cond, map, Option, Some, None, refl, sym, ap, subst}
use Rattle.std.specs.Prelude.{fold, filter_map, option_map}
use Rattle.gfx_model.specs.Words.{Handle, primitive_of}
use Rattle.gfx_model.specs.Vertex.{triangles_of}
use Rattle.gfx_model.specs.Raster.{Rect, view_rect}
use Rattle.gfx_model.specs.Frames.{Recorded, Entry, item_of_entry}
use Rattle.gfx_model.specs.Views.{View, Views, view_at, view_count}
use Rattle.gfx_model.specs.World.{Item, draw_item, touch_item, blit_item, Draw, Facing, Paint, is_in_cut, placed_facing, draw_vertices}
use Rattle.store_model.specs.Slots.{at}
use Rattle.store_laws.specs.ByIndex.{Stores, textures_out, vertices_at, indices_at, paint_at}
use Rattle.tri_cover.specs.declared.triangles.Setup.{Setup}
use Rattle.int_raster.specs.declared.lists.Prepared.{Prepared}
use Rattle.int_raster.specs.Seen.{paint_seen, facing_seen}
use Rattle.view_drawing.specs.Prepared.{IsPreparedDraw, IsPreparedBy, IsPreparedItem}
use Rattle.trace_laws.specs.ByIndex.{clear_strokes_in, drawn_strokes_in}
use Rattle.trace_laws.specs.Deeds.{Deed, clear_deed, item_deed}
use Rattle.trace_laws.specs.Doers.{Doer, clear_doer, item_doer}
use Rattle.trace_laws.specs.History.{Stroke, fragments_from, on_back}
use Rattle.frame_tracing.specs.Given.{given_strokes, strokes_prepared}
use Rattle.frame_steps.specs.Doing.{deed_by, in_view}
use Rattle.frame_steps.proofs.Dones.{view-there, view-none}
use Rattle.frame_blame.specs.Done.{strokes_done, view_of_doer}
use Rattle.frame_blame.specs.Marks.{Changes, mark_after, stroked}
use Rattle.frame_blame.specs.declared.marks.Mark.{Mark}

-- ---- marks that are changed

-- nothing is changed
pub changes-none : (w h number : ℕ) (strokes : (x y : ℕ) → List Stroke) (ms : List Mark) → ((x y : ℕ) → strokes x y ≡ []) → Changes w h (stroked number strokes) ms ms
changes-none w h number strokes ms none = record { many = refl; each = λ x y hx hy. sym (ap (fold (mark_after number) _) (none x y)) }

-- the strokes are these
pub changes-by : (w h number : ℕ) (strokes other : (x y : ℕ) → List Stroke) (old new : List Mark) → ((x y : ℕ) → strokes x y ≡ other x y) → Changes w h (stroked number strokes) old new → Changes w h (stroked number other) old new
changes-by w h number strokes other old new same c = record { many = c.many; each = λ x y hx hy. c.each x y hx hy ∙ ap (fold (mark_after number) _) (same x y) }

-- the sides are these
pub changes-in : (v w g h : ℕ) (f : (x y : ℕ) → Mark → Mark) (old new : List Mark) → v ≡ w → g ≡ h → Changes v g f old new → Changes w h f old new
changes-in v w g h f old new e d c = subst (λ k. Changes k h f old new) e (subst (λ k. Changes v k f old new) d c)

-- ---- an item

module _ (h : Stores) (view : View) (x y : ℕ) (back : view.target ≡ None) where
  abbrev by : Draw → Option Handle → List Stroke
  by d t = drawn_strokes_in h view d x y (paint_at h.buffers (textures_out t h.textures) d (at h.programs d.program.index))

  draw-same : (d : Draw) (p : Prepared) (ts : List Setup) (paint : Paint) → IsPreparedDraw h.back.color.width h.back.color.height view d h.buffers paint p ts
      → strokes_prepared p ts x y ≡ drawn_strokes_in h view d x y (Some paint)
  draw-same d p ts paint is =
      let rect : Rect = view_rect view.rect h.back.color.width h.back.color.height in
      let fs : List Facing = filter_map (placed_facing view rect d) (triangles_of (primitive_of d.state) (draw_vertices (vertices_at h.buffers d.vertices) (indices_at h.buffers d.indices))) in
      ap (λ b. cond b (fragments_from 0 p.state (paint_seen p.paint) x y (map (facing_seen p) ts)) []) (is.cut_is x y)
      ∙ ap (λ s. cond (is_in_cut view rect d x y) (fragments_from 0 s (paint_seen p.paint) x y (map (facing_seen p) ts)) []) is.state_is
      ∙ ap (λ q. cond (is_in_cut view rect d x y) (fragments_from 0 d.state q x y (map (facing_seen p) ts)) []) is.paint_is
      ∙ ap (λ (gs : List Facing). cond (is_in_cut view rect d x y) (fragments_from 0 d.state paint x y gs) []) is.facings_are

  some-draw : (d : Draw) (p : Prepared) (ts : List Setup) (o : Option Paint) → IsPreparedBy h.back.color.width h.back.color.height view d h.buffers o (Some p) ts
      → strokes_prepared p ts x y ≡ drawn_strokes_in h view d x y o
  some-draw d p ts None is = absurd is
  some-draw d p ts (Some paint) is = draw-same d p ts paint is

  no-draw : (d : Draw) (ts : List Setup) (o : Option Paint) → IsPreparedBy h.back.color.width h.back.color.height view d h.buffers o None ts → drawn_strokes_in h view d x y o ≡ []
  no-draw d ts None is = refl
  no-draw d ts (Some paint) is = absurd is

  -- what a draw that is prepared did
  pub prepared-strokes : (o : Option Item) (p : Prepared) (ts : List Setup) → IsPreparedItem h.back.color.width h.back.color.height view o h.buffers h.textures h.programs (Some p) ts
      → strokes_prepared p ts x y ≡ given_strokes h view x y o
  prepared-strokes None p ts is = cc is
  prepared-strokes (Some (draw_item d)) p ts is = some-draw d p ts (paint_at h.buffers h.textures d (at h.programs d.program.index)) is ∙ ap (by d) (sym back)
  prepared-strokes (Some (touch_item t)) p ts is = cc is
  prepared-strokes (Some (blit_item b)) p ts is = cc is

  -- what is not prepared did nothing
  pub no-strokes : (o : Option Item) (ts : List Setup) → IsPreparedItem h.back.color.width h.back.color.height view o h.buffers h.textures h.programs None ts → given_strokes h view x y o ≡ []
  no-strokes None ts is = refl
  no-strokes (Some (draw_item d)) ts is = ap (by d) back ∙ no-draw d ts (paint_at h.buffers h.textures d (at h.programs d.program.index)) is
  no-strokes (Some (touch_item t)) ts is = refl
  no-strokes (Some (blit_item b)) ts is = refl

-- ---- a deed

entry-same : (u v : ℕ) (m n : Entry) → item_doer u m ≡ item_doer v n → n ≡ m
entry-same u v m n same = sym (cc same)

pub no-target : (o : Option Handle) → is_some o ≡ false → o ≡ None
no-target None e = refl
no-target (Some t) e = absurd (cc e)

module _ (h : Stores) (vs : Views) (rs : List Recorded) (x y : ℕ) where
  item-on : (view : View) (o : Option Item) → strokes_done h (option_map (item_deed view) o) x y ≡ on_back view.target (given_strokes h view x y o)
  item-on view None = none view.target
    where
      none : (t : Option Handle) → [] ≡ on_back t []
      none None = refl
      none (Some t) = refl
  item-on view (Some i) = refl

  -- what is done in a view that is there
  done-there : (v : ℕ) (o : Option Deed) → v < view_count vs → strokes_done h (in_view vs v o) x y ≡ strokes_done h o x y
  done-there v o lt = ap (λ p. strokes_done h p x y) (view-there vs v o lt)

  -- a deed of a view with a frame buffer does nothing to the back buffer
  pub done-away : (d : Doer) (view : View) (t : Handle) → view_of_doer d < view_count vs → view ≡ view_at vs (view_of_doer d) → view.target ≡ Some t → strokes_done h (deed_by vs rs d) x y ≡ []
  done-away (clear_doer v) view t lt is away =
      done-there v (Some (clear_deed (view_at vs v))) lt ∙ ap (λ u. on_back u.target (clear_strokes_in h u x y)) (sym is) ∙ ap (λ o. on_back o (clear_strokes_in h view x y)) away
  done-away (item_doer v n) view t lt is away =
      done-there v (option_map (item_deed (view_at vs v)) (item_of_entry rs n)) lt ∙ ap (λ u. strokes_done h (option_map (item_deed u) (item_of_entry rs n)) x y) (sym is)
      ∙ item-on view (item_of_entry rs n) ∙ ap (λ o. on_back o (given_strokes h view x y (item_of_entry rs n))) away

  -- a deed of a view that is not there does nothing
  pub done-nowhere : (d : Doer) → view_count vs ≤ view_of_doer d → strokes_done h (deed_by vs rs d) x y ≡ []
  done-nowhere (clear_doer v) le = ap (λ p. strokes_done h p x y) (view-none vs v (Some (clear_deed (view_at vs v))) le)
  done-nowhere (item_doer v n) le = ap (λ p. strokes_done h p x y) (view-none vs v (option_map (item_deed (view_at vs v)) (item_of_entry rs n)) le)

  pub clear-here : (v : ℕ) (view : View) → v < view_count vs → view ≡ view_at vs v → view.target ≡ None → clear_strokes_in h view x y ≡ strokes_done h (deed_by vs rs (clear_doer v)) x y
  clear-here v view lt is back =
      sym (done-there v (Some (clear_deed (view_at vs v))) lt ∙ ap (λ u. on_back u.target (clear_strokes_in h u x y)) (sym is) ∙ ap (λ o. on_back o (clear_strokes_in h view x y)) back)

  pub item-here : (v : ℕ) (n : Entry) (view : View) → v < view_count vs → view ≡ view_at vs v → view.target ≡ None → given_strokes h view x y (item_of_entry rs n) ≡ strokes_done h (deed_by vs rs (item_doer v n)) x y
  item-here v n view lt is back =
      sym (done-there v (option_map (item_deed (view_at vs v)) (item_of_entry rs n)) lt ∙ ap (λ u. strokes_done h (option_map (item_deed u) (item_of_entry rs n)) x y) (sym is)
      ∙ item-on view (item_of_entry rs n) ∙ ap (λ o. on_back o (given_strokes h view x y (item_of_entry rs n))) back)

  -- the same of a doer that is seen so
  pub clear-at : (d : Doer) (v : ℕ) (view : View) → d ≡ clear_doer v → view_of_doer d < view_count vs → view ≡ view_at vs (view_of_doer d) → view.target ≡ None → clear_strokes_in h view x y ≡ strokes_done h (deed_by vs rs d) x y
  clear-at (clear_doer u) v view same lt is back = clear-here u view lt is back
  clear-at (item_doer u n) v view same lt is back = absurd (cc same)

  pub item-at : (d : Doer) (v : ℕ) (n : Entry) (view : View) → d ≡ item_doer v n → view_of_doer d < view_count vs → view ≡ view_at vs (view_of_doer d) → view.target ≡ None
      → given_strokes h view x y (item_of_entry rs n) ≡ strokes_done h (deed_by vs rs d) x y
  item-at (clear_doer u) v n view same lt is back = absurd (cc same)
  item-at (item_doer u m) v n view same lt is back = ap (λ k. given_strokes h view x y (item_of_entry rs k)) (entry-same u v m n same) ∙ item-here u m view lt is back

  -- a deed of a view with some frame buffer
  pub done-elsewhere : (d : Doer) (view : View) → view_of_doer d < view_count vs → view ≡ view_at vs (view_of_doer d) → is_some view.target ≡ true → strokes_done h (deed_by vs rs d) x y ≡ []
  done-elsewhere d view lt is away = go view.target refl away
    where
      go : (o : Option Handle) → view.target ≡ o → is_some o ≡ true → strokes_done h (deed_by vs rs d) x y ≡ []
      go None e some = absurd (cc some)
      go (Some t) e some = done-away d view t lt is e
