-- Marks after deeds.
use Rattle.std.proofs.Common.{◌≡◌, ◌∙◌, ℕ, ◌+◌, ◌<◌, ◌≤◌, List, [], ◌∷◌, ◌++◌, map, length, drop, get_or, Option, Some, None, refl, sym, ap}
use Rattle.std.specs.Prelude.{fold}
use Rattle.gfx_model.specs.Words.{Handle}
use Rattle.gfx_model.specs.Views.{View}
use Rattle.gfx_model.specs.World.{Item, draw_item, touch_item, blit_item, Draw, Paint, clear_surface}
use Rattle.store_model.specs.Slots.{at}
use Rattle.store_laws.specs.ByIndex.{Stores, with_buffers, with_values, vertices_at, indices_at, paint_at, textures_out, on_target, drawn_with, painted_at, do_by_index}
use Rattle.trace_laws.specs.ByIndex.{clear_strokes_in, drawn_strokes_in, draw_strokes_in, item_strokes_in, strokes_in, history_in, stores_after}
use Rattle.trace_laws.specs.Deeds.{Deed, clear_deed, item_deed}
use Rattle.trace_laws.specs.History.{Stroke, Made, on_back}
use Rattle.frame_tracing.specs.Given.{given_strokes}
use Rattle.frame_tracing.specs.Seen.{made_of}
use Rattle.frame_steps.specs.Doing.{stores_after_some}
use Rattle.frame_blame.specs.Done.{strokes_done, strokes_of_some, history_of_these}
use Rattle.frame_blame.specs.Marks.{mark_after, marked}
use Rattle.frame_blame.specs.declared.marks.Mark.{Mark}
use Rattle.frame_blame.proofs.Blames.{stroked-marked, marked-more}
use Rattle.frame_blame.proofs.Draws.{drop-next, drop-past}

-- ---- what a deed did, by the stores after it

module _ (x y : ℕ) where
  clear-done : (h : Stores) (view : View) (t : Option Handle) → on_back t (clear_strokes_in (on_target h t (clear_surface view)) view x y) ≡ on_back t (clear_strokes_in h view x y)
  clear-done h view None = refl
  clear-done h view (Some t) = refl

  -- a draw on the back buffer leaves what it is drawn with
  drawn-same : (view : View) (d : Draw) (t : Option Handle) (p : Paint) (u : Stores)
      → on_back t (drawn_strokes_in (on_target u t (drawn_with view d (vertices_at u.buffers d.vertices) (indices_at u.buffers d.indices) p)) view d x y (paint_at (on_target u t (drawn_with view d (vertices_at u.buffers d.vertices) (indices_at u.buffers d.indices) p)).buffers (textures_out t (on_target u t (drawn_with view d (vertices_at u.buffers d.vertices) (indices_at u.buffers d.indices) p)).textures) d (at (on_target u t (drawn_with view d (vertices_at u.buffers d.vertices) (indices_at u.buffers d.indices) p)).programs d.program.index)))
      ≡ on_back t (drawn_strokes_in u view d x y (paint_at u.buffers (textures_out t u.textures) d (at u.programs d.program.index)))
  drawn-same view d (Some t) p u = refl
  drawn-same view d None p u = go (paint_at u.buffers u.textures d (at u.programs d.program.index))
    where
      go : (q : Option Paint) → drawn_strokes_in (on_target u None (drawn_with view d (vertices_at u.buffers d.vertices) (indices_at u.buffers d.indices) p)) view d x y q ≡ drawn_strokes_in u view d x y q
      go None = refl
      go (Some q) = refl

  painted-same : (view : View) (d : Draw) (o : Option Paint) (u : Stores) → on_back view.target (draw_strokes_in (painted_at view d o u) view d x y) ≡ on_back view.target (draw_strokes_in u view d x y)
  painted-same view d None u = refl
  painted-same view d (Some p) u = drawn-same view d view.target p u

  item-done : (h : Stores) (view : View) (i : Item) → on_back view.target (given_strokes (do_by_index view h i) view x y (Some i)) ≡ on_back view.target (item_strokes_in h view x y i)
  item-done h view (draw_item d) =
      let u : Stores = with_buffers h (with_values h.buffers d.values) in
      painted-same view d (paint_at u.buffers (textures_out view.target u.textures) d (at u.programs d.program.index)) u
  item-done h view (touch_item t) = refl
  item-done h view (blit_item b) = refl

  pub deed-done : (h : Stores) (o : Option Deed) → strokes_done (stores_after_some h o) o x y ≡ strokes_of_some x y h o
  deed-done h None = refl
  deed-done h (Some (clear_deed view)) = clear-done h view view.target
  deed-done h (Some (item_deed view i)) = item-done h view i

  -- where each deed is there
  pub history-each : (n : ℕ) (h : Stores) (ds : List Deed) → history_of_these x y n h (map Some ds) ≡ history_in x y n h ds
  history-each n h [] = refl
  history-each n h (d ∷ ds) = ap (λ (ms : List Made). map (made_of n) (strokes_in x y h d) ++ ms) (history-each (n + 1) (stores_after h d) ds)

  -- ---- one deed more

  module _ {D : Type 0} (deed : D → Option Deed) where
    pub deed-next : (ds : List D) (n : ℕ) (d : D) (h g : Stores) (all m next : Mark) → n < length ds → get_or ds n d ≡ d
        → marked m (history_of_these x y n h (map deed (drop n ds))) ≡ all
        → g ≡ stores_after_some h (deed d) → next ≡ fold (mark_after (n + 1)) m (strokes_done g (deed d) x y)
        → marked next (history_of_these x y (n + 1) g (map deed (drop (n + 1) ds))) ≡ all
    deed-next ds n d h g all m next lt is before stores step =
        let o : Option Deed = deed d in
        let after : Stores = stores_after_some h o in
        let rest : List Made = history_of_these x y (n + 1) after (map deed (drop (n + 1) ds)) in
        let ss : List Stroke = strokes_of_some x y h o in
        let own : next ≡ marked m (map (made_of n) ss) =
        step ∙ ap (λ u. fold (mark_after (n + 1)) m (strokes_done u o x y)) stores ∙ ap (fold (mark_after (n + 1)) m) (deed-done h o) ∙ stroked-marked n m ss in
        ap (λ u. marked next (history_of_these x y (n + 1) u (map deed (drop (n + 1) ds)))) stores
        ∙ ap (λ (k : Mark). marked k rest) own
        ∙ sym (marked-more m (map (made_of n) ss) rest)
        ∙ ap (λ es. marked m (history_of_these x y n h (map deed es))) (sym (drop-next ds n d lt ∙ ap (λ e. e ∷ drop (n + 1) ds) is))
        ∙ before

    pub deed-past : (ds : List D) (n : ℕ) (h : Stores) (all m : Mark) → length ds ≤ n → marked m (history_of_these x y n h (map deed (drop n ds))) ≡ all → m ≡ all
    deed-past ds n h all m le before = ap (λ es. marked m (history_of_these x y n h (map deed es))) (sym (drop-past ds n le)) ∙ before
