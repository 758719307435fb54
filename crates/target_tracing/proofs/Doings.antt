-- What a deed that is done did to a pixel of a frame buffer.
use Rattle.std.proofs.Common.{◌≡◌, ◌≢◌, ◌∙◌, ◌<◌, ◌≤◌, ℕ, ◌+◌, true, false, cond, eqb, List, [], ◌∷◌, ◌++◌, map, Option, Some, None, refl, sym, ap, subst}
use Rattle.std.proofs.lemmas.Bool.{eqb-true, eq-eqb, and_parts, and_from, both_ways}
use Rattle.std.proofs.lemmas.Slice.Eq.{bytes_eq-Decides}
use Rattle.std.specs.Prelude.{◌&&◌, option_map, bytes_eq, IfSome}
use Rattle.gfx_model.specs.Words.{Handle}
use Rattle.gfx_model.specs.Pixel.{Pixel}
use Rattle.gfx_model.specs.Frames.{Entry, Recorded, item_of_entry}
use Rattle.gfx_model.specs.Views.{View, Views, view_at, view_count}
use Rattle.gfx_model.specs.World.{Surface, Draw, Item, draw_item, touch_item, blit_item, Paint, clear_surface}
use Rattle.store_model.specs.Slots.{at}
use Rattle.store_model.specs.Textures.{Textures, TargetSlot, IsTextures, target_out}
use Rattle.store_laws.specs.ByIndex.{Stores, with_buffers, with_values, textures_out, vertices_at, indices_at, paint_at, on_target, drawn_with, painted_at}
use Rattle.store_laws.proofs.SideLaws.{KeepsSides, map_sides, clear_sides}
use Rattle.store_laws.proofs.ListLaws.{out_same}
use Rattle.trace_laws.specs.ByIndex.{clear_strokes_in, drawn_strokes_in, stores_after}
use Rattle.trace_laws.specs.Deeds.{Deed, clear_deed, item_deed}
use Rattle.trace_laws.specs.Doers.{Doer, clear_doer, item_doer}
use Rattle.trace_laws.specs.History.{Stroke}
use Rattle.frame_steps.specs.Doing.{deed_by, stores_after_some}
use Rattle.frame_steps.proofs.Dones.{view-there, view-none}
use Rattle.frame_blame.specs.Done.{view_of_doer}
use Rattle.trace_laws.proofs.Lists.{append-none}
use Rattle.target_laws.specs.Targets.{TargetMade, own_stroke, pixel_on, has_pixel, is_target, draws_on, is_same_word, is_same_pixel, left_stroke, left_pixel}
use Rattle.target_laws.specs.ByIndex.{surface_at, strokes_on_in}
use Rattle.target_tracing.specs.Placed.{strokes_given, standing_strokes}
use Rattle.target_tracing.specs.Surfaces.{surface_in}
use Rattle.target_tracing.specs.Seen.{target_made_of}
use Rattle.target_tracing.specs.Tracing.{is_draw_some, doer_draws, strokes_of_some, Adds}
use Rattle.target_tracing.proofs.After.{apart-in, surface-after}

-- ---- pixels that stay

word-self : (o : Option ℕ) → is_same_word o o ≡ true
word-self None = refl
word-self (Some n) = eq-eqb n n refl

left-none : (p : Pixel) → left_pixel p p ≡ []
left-none p =
    let same : is_same_pixel p p ≡ true = and_from (bytes_eq p.color p.color) (is_same_word p.depth p.depth) ((bytes_eq-Decides p.color p.color).1 refl) (word-self p.depth) in
    ap (λ b. cond b [] (left_stroke p ∷ [])) same

-- ---- a surface in the place of the back buffer

abbrev placed : Surface → ℕ → Stores → Stores
placed s i g = record g { back = s; textures = target_out i g.textures }

-- what a deed did to a pixel of a surface that is taken out of textures, if it is there
abbrev placed-deed : Option Surface → ℕ → Stores → ℕ → ℕ → Deed → List Stroke
placed-deed None i g x y d = []
placed-deed (Some s) i g x y (clear_deed view) = clear_strokes_in (placed s i g) view x y
placed-deed (Some s) i g x y (item_deed view it) = strokes_given (placed s i g) view x y (Some it)

-- fragments depend on the sides of the back buffer and on the buffers
drawn-by : (h g : Stores) (view : View) (d : Draw) (x y : ℕ) (s : Surface) (o : Option Paint) (textures : Textures) (change : Surface → Surface) → KeepsSides change → g.buffers ≡ h.buffers
    → drawn_strokes_in (record g { back = change s; textures = textures }) view d x y o ≡ drawn_strokes_in (record h { back = s }) view d x y o
drawn-by h g view d x y s None textures change k same = refl
drawn-by h g view d x y s (Some p) textures change k same = λ i.
    drawn_strokes_in (record { back = record s { color = record s.color { width = k.wide s i; height = k.high s i } }; buffers = same i; textures = h.textures; programs = h.programs }) view d x y (Some p)

apart-of : (h : Textures) (t : Handle) → IsTextures h → IfSome (at h.targets t.index) (λ s. s.depth ≢ Some s.color)
apart-of h t all = go (at h.targets t.index) refl
  where
    go : (o : Option TargetSlot) → at h.targets t.index ≡ o → IfSome o (λ s. s.depth ≢ Some s.color)
    go None e = tt
    go (Some s) e = apart-in h t.index s all e

module _ (h : Stores) (all : IsTextures h.textures) (t : Handle) (x y : ℕ) (s : Surface) (there : surface_in h.textures t.index ≡ Some s) where
  module _ (r : Handle) (index : r.index ≡ t.index) where
    here : surface_in h.textures r.index ≡ Some s
    here = ap (surface_in h.textures) index ∙ there

    -- after a change of it
    changed-there : (u : Stores) (change : Surface → Surface) → KeepsSides change → u.textures ≡ h.textures → surface_in (on_target u (Some r) change).textures t.index ≡ Some (change s)
    changed-there u change k same =
        ap (surface_in (on_target u (Some r) change).textures) (sym index)
        ∙ surface-after u r change k (subst IsTextures (sym same) all)
        ∙ ap (λ ts. option_map change (surface_in ts r.index)) same ∙ ap (option_map change) here

    -- the textures while it is taken out
    out-there : (u : Stores) (change : Surface → Surface) → KeepsSides change → u.textures ≡ h.textures → target_out t.index (on_target u (Some r) change).textures ≡ target_out t.index u.textures
    out-there u change k same =
        ap (λ n. target_out n (on_target u (Some r) change).textures) (sym index)
        ∙ out_same u (Some r) change k (apart-of u.textures r (subst IsTextures (sym same) all))
        ∙ ap (λ n. target_out n u.textures) index

    clear-done : (view : View) (o : Option Handle) → o ≡ Some r
        → placed-deed (surface_in (on_target h o (clear_surface view)).textures t.index) t.index (on_target h o (clear_surface view)) x y (clear_deed view) ≡ clear_strokes_in (record h { back = s }) view x y
    clear-done view o on =
        ap (λ z. placed-deed (surface_in (on_target h z (clear_surface view)).textures t.index) t.index (on_target h z (clear_surface view)) x y (clear_deed view)) on
        ∙ ap (λ z. placed-deed z t.index (on_target h (Some r) (clear_surface view)) x y (clear_deed view)) (changed-there h (clear_surface view) (clear_sides view) refl)

    -- a draw with what it paints with
    draw-done : (u : Stores) (view : View) (d : Draw) (o : Option Paint) → u.textures ≡ h.textures → view.target ≡ Some r → paint_at u.buffers (target_out t.index u.textures) d (at u.programs d.program.index) ≡ o
        → placed-deed (surface_in (painted_at view d o u).textures t.index) t.index (painted_at view d o u) x y (item_deed view (draw_item d)) ≡ drawn_strokes_in (record u { back = s }) view d x y o
    draw-done u view d None same on is =
        ap (λ ts. placed-deed (surface_in ts t.index) t.index u x y (item_deed view (draw_item d))) same
        ∙ ap (λ z. placed-deed z t.index u x y (item_deed view (draw_item d))) there
        ∙ ap (drawn_strokes_in (placed s t.index u) view d x y) is
    draw-done u view d (Some p) same on is =
        let f : Surface → Surface = drawn_with view d (vertices_at u.buffers d.vertices) (indices_at u.buffers d.indices) p in
        let k : KeepsSides f = record { wide = λ z. refl; high = λ z. refl; deep = λ z. map_sides _ z.depth } in
        let g : Stores = on_target u (Some r) f in
        ap (λ z. placed-deed (surface_in (on_target u z f).textures t.index) t.index (on_target u z f) x y (item_deed view (draw_item d))) on
        ∙ ap (λ z. placed-deed z t.index g x y (item_deed view (draw_item d))) (changed-there u f k same)
        ∙ ap (λ ts. drawn_strokes_in (placed (f s) t.index g) view d x y (paint_at u.buffers ts d (at u.programs d.program.index))) (out-there u f k same)
        ∙ ap (drawn_strokes_in (placed (f s) t.index g) view d x y) is
        ∙ drawn-by u g view d x y s (Some p) (target_out t.index g.textures) f k refl

  target-some : (o : Option Handle) → is_target t o ≡ true → (r : Handle) × (o ≡ Some r) × (r.index ≡ t.index)
  target-some None on = absurd (both_ways false refl on)
  target-some (Some r) on = (r, refl, eqb-true r.index t.index (and_parts (eqb r.index t.index) (eqb r.serial t.serial) on).0)

  pub own-done : (d : Deed) → draws_on t d ≡ true → placed-deed (surface_in (stores_after h d).textures t.index) t.index (stores_after h d) x y d ≡ strokes_on_in (Some s) x y h d
  own-done (clear_deed view) on =
      let r = target-some view.target on in
      clear-done r.0 r.2 view view.target r.1
  own-done (item_deed view (draw_item d)) on =
      let r = target-some view.target on in
      let u : Stores = with_buffers h (with_values h.buffers d.values) in
      let out : target_out t.index u.textures ≡ textures_out view.target u.textures = ap (λ n. target_out n u.textures) (sym r.2) ∙ ap (λ z. textures_out z u.textures) (sym r.1) in
      draw-done r.0 r.2 u view d (paint_at u.buffers (textures_out view.target u.textures) d (at u.programs d.program.index)) refl r.1 (ap (λ ts. paint_at u.buffers ts d (at u.programs d.program.index)) out)
  own-done (item_deed view (touch_item i)) on = absurd (both_ways false refl on)
  own-done (item_deed view (blit_item b)) on = absurd (both_ways false refl on)

-- ---- a doer's deed

module _ (rs : List Recorded) (t : Handle) (x y : ℕ) (view : View) where
  -- the deed of a doer in a view
  abbrev pub deed-in : Doer → Option Deed
  deed-in (clear_doer v) = Some (clear_deed view)
  deed-in (item_doer v n) = option_map (item_deed view) (item_of_entry rs n)

  pub deed-there : (vs : Views) (d : Doer) → view_of_doer d < view_count vs → view ≡ view_at vs (view_of_doer d) → deed_by vs rs d ≡ deed-in d
  deed-there vs (clear_doer v) lt is = view-there vs v (Some (clear_deed (view_at vs v))) lt ∙ ap (λ u. Some (clear_deed u)) (sym is)
  deed-there vs (item_doer v n) lt is = view-there vs v (option_map (item_deed (view_at vs v)) (item_of_entry rs n)) lt ∙ ap (λ u. option_map (item_deed u) (item_of_entry rs n)) (sym is)

  -- a deed that is a clear or a draw on a frame buffer that has the pixel
  deed-own : (h : Stores) (d : Deed) (o : Option Surface) → IsTextures h.textures → surface_in h.textures t.index ≡ o → draws_on t d ≡ true → has_pixel o x y ≡ true
      → map (λ k. own_stroke k) (placed-deed (surface_in (stores_after h d).textures t.index) t.index (stores_after h d) x y d) ≡ strokes_of_some t x y h (Some d)
  deed-own h d None all there on has = absurd (both_ways false refl has)
  deed-own h d (Some s) all there on has =
      let own : (draws_on t d && has_pixel (surface_in h.textures t.index) x y) ≡ true = and_from (draws_on t d) (has_pixel (surface_in h.textures t.index) x y) on (ap (λ o. has_pixel o x y) there ∙ has) in
      ap (map (λ k. own_stroke k)) (own-done h all t x y s there d on)
      ∙ ap (λ o. map (λ k. own_stroke k) (strokes_on_in o x y h d)) (sym there)
      ∙ sym (ap (λ b. cond b (map (λ k. own_stroke k) (strokes_on_in (surface_at h t) x y h d)) (left_pixel (pixel_on (surface_at h t) x y) (pixel_on (surface_at (stores_after h d) t) x y))) own)

  standing-clear : (o : Option Surface) (i v : ℕ) (g : Stores) → standing_strokes o i g view x y rs (clear_doer v) ≡ placed-deed o i g x y (clear_deed view)
  standing-clear None i v g = refl
  standing-clear (Some s) i v g = refl

  standing-item : (o : Option Surface) (i v : ℕ) (n : Entry) (g : Stores) (it : Item) → item_of_entry rs n ≡ Some it → standing_strokes o i g view x y rs (item_doer v n) ≡ placed-deed o i g x y (item_deed view it)
  standing-item None i v n g it is = refl
  standing-item (Some s) i v n g it is = ap (strokes_given (placed s i g) view x y) is

  item-own : (h g : Stores) (v : ℕ) (n : Entry) (o : Option Item) → item_of_entry rs n ≡ o → IsTextures h.textures → (is_draw_some o && is_target t view.target) ≡ true → has_pixel (surface_in h.textures t.index) x y ≡ true
      → g ≡ stores_after_some h (option_map (item_deed view) o) → map (λ k. own_stroke k) (standing_strokes (surface_in g.textures t.index) t.index g view x y rs (item_doer v n)) ≡ strokes_of_some t x y h (option_map (item_deed view) o)
  item-own h g v n None is all on has done = absurd (both_ways false refl on)
  item-own h g v n (Some it) is all on has done =
      ap (map (λ k. own_stroke k)) (standing-item (surface_in g.textures t.index) t.index v n g it is)
      ∙ ap (λ (u : Stores). map (λ k. own_stroke k) (placed-deed (surface_in u.textures t.index) t.index u x y (item_deed view it))) done
      ∙ deed-own h (item_deed view it) (surface_in h.textures t.index) all refl on has

  -- what a deed did that is a clear or a draw on the frame buffer
  pub own-strokes : (h g : Stores) (d : Doer) → IsTextures h.textures → doer_draws t view rs d ≡ true → has_pixel (surface_in h.textures t.index) x y ≡ true → g ≡ stores_after_some h (deed-in d)
      → map (λ k. own_stroke k) (standing_strokes (surface_in g.textures t.index) t.index g view x y rs d) ≡ strokes_of_some t x y h (deed-in d)
  own-strokes h g (clear_doer v) all on has done =
      ap (map (λ k. own_stroke k)) (standing-clear (surface_in g.textures t.index) t.index v g)
      ∙ ap (λ (u : Stores). map (λ k. own_stroke k) (placed-deed (surface_in u.textures t.index) t.index u x y (clear_deed view))) done
      ∙ deed-own h (clear_deed view) (surface_in h.textures t.index) all refl on has
  own-strokes h g (item_doer v n) all on has done = item-own h g v n (item_of_entry rs n) refl all on has done

  other-some : (h g : Stores) (d : Deed) → (draws_on t d && has_pixel (surface_in h.textures t.index) x y) ≡ false → g ≡ stores_after h d
      → left_pixel (pixel_on (surface_in h.textures t.index) x y) (pixel_on (surface_in g.textures t.index) x y) ≡ strokes_of_some t x y h (Some d)
  other-some h g d other done =
      ap (λ (u : Stores). left_pixel (pixel_on (surface_in h.textures t.index) x y) (pixel_on (surface_in u.textures t.index) x y)) done
      ∙ sym (ap (λ b. cond b (map (λ k. own_stroke k) (strokes_on_in (surface_at h t) x y h d)) (left_pixel (pixel_on (surface_at h t) x y) (pixel_on (surface_at (stores_after h d) t) x y))) other)

  other-item : (h g : Stores) (o : Option Item) → ((is_draw_some o && is_target t view.target) && has_pixel (surface_in h.textures t.index) x y) ≡ false → g ≡ stores_after_some h (option_map (item_deed view) o)
      → left_pixel (pixel_on (surface_in h.textures t.index) x y) (pixel_on (surface_in g.textures t.index) x y) ≡ strokes_of_some t x y h (option_map (item_deed view) o)
  other-item h g None other done =
      ap (λ (u : Stores). left_pixel (pixel_on (surface_in h.textures t.index) x y) (pixel_on (surface_in u.textures t.index) x y)) done ∙ left-none (pixel_on (surface_in h.textures t.index) x y)
  other-item h g (Some it) other done = other-some h g (item_deed view it) other done

  -- what another deed left
  pub other-strokes : (h g : Stores) (d : Doer) → (doer_draws t view rs d && has_pixel (surface_in h.textures t.index) x y) ≡ false → g ≡ stores_after_some h (deed-in d)
      → left_pixel (pixel_on (surface_in h.textures t.index) x y) (pixel_on (surface_in g.textures t.index) x y) ≡ strokes_of_some t x y h (deed-in d)
  other-strokes h g (clear_doer v) other done = other-some h g (clear_deed view) other done
  other-strokes h g (item_doer v n) other done = other-item h g (item_of_entry rs n) other done

-- a deed of a view that is not there
pub deed-nowhere : (vs : Views) (rs : List Recorded) (d : Doer) → view_count vs ≤ view_of_doer d → deed_by vs rs d ≡ None
deed-nowhere vs rs (clear_doer v) le = view-none vs v (Some (clear_deed (view_at vs v))) le
deed-nowhere vs rs (item_doer v n) le = view-none vs v (option_map (item_deed (view_at vs v)) (item_of_entry rs n)) le

-- ---- strokes put behind others

module _ (vs : Views) (rs : List Recorded) (t : Handle) (x y n : ℕ) (h : Stores) (d : Doer) where
  pub adds-nowhere : (g : Stores) (old : List TargetMade) → view_count vs ≤ view_of_doer d → g ≡ stores_after_some h (deed_by vs rs d) → Adds t x y n h (deed_by vs rs d) old old g
  adds-nowhere g old le done = record {
    made = sym (append-none old) ∙ ap (λ o. old ++ map (target_made_of n) (strokes_of_some t x y h o)) (sym (deed-nowhere vs rs d le));
    done = done;
  }

  module _ (view : View) (lt : view_of_doer d < view_count vs) (is : view ≡ view_at vs (view_of_doer d)) where
    there : deed_by vs rs d ≡ deed-in rs t x y view d
    there = deed-there rs t x y view vs d lt is

    pub adds-own : (g end : Stores) (old new : List TargetMade) (ss : List Stroke) → IsTextures h.textures → doer_draws t view rs d ≡ true → has_pixel (surface_in h.textures t.index) x y ≡ true
        → g ≡ stores_after_some h (deed_by vs rs d) → end ≡ g → ss ≡ standing_strokes (surface_in g.textures t.index) t.index g view x y rs d
        → new ≡ old ++ map (target_made_of n) (map (λ k. own_stroke k) ss) → Adds t x y n h (deed_by vs rs d) old new end
    adds-own g end old new ss all on has done same are put = record {
      made = put ∙ ap (λ ks. old ++ map (target_made_of n) (map (λ k. own_stroke k) ks)) are
          ∙ ap (λ ks. old ++ map (target_made_of n) ks) (own-strokes rs t x y view h g d all on has (done ∙ ap (stores_after_some h) there))
          ∙ ap (λ o. old ++ map (target_made_of n) (strokes_of_some t x y h o)) (sym there);
      done = same ∙ done;
    }

    pub adds-other : (g end : Stores) (old new : List TargetMade) (before after : Pixel) → (doer_draws t view rs d && has_pixel (surface_in h.textures t.index) x y) ≡ false
        → g ≡ stores_after_some h (deed_by vs rs d) → end ≡ g → before ≡ pixel_on (surface_in h.textures t.index) x y → after ≡ pixel_on (surface_in g.textures t.index) x y
        → new ≡ old ++ map (target_made_of n) (left_pixel before after) → Adds t x y n h (deed_by vs rs d) old new end
    adds-other g end old new before after other done same was now put = record {
      made = put ∙ ap (λ p. old ++ map (target_made_of n) (left_pixel p after)) was
          ∙ ap (λ p. old ++ map (target_made_of n) (left_pixel (pixel_on (surface_in h.textures t.index) x y) p)) now
          ∙ ap (λ ks. old ++ map (target_made_of n) ks) (other-strokes rs t x y view h g d other (done ∙ ap (stores_after_some h) there))
          ∙ ap (λ o. old ++ map (target_made_of n) (strokes_of_some t x y h o)) (sym there);
      done = same ∙ done;
    }
