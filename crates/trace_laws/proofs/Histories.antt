-- A pixel of the back buffer after what it goes through.
use Rattle.std.proofs.Common.{◌≡◌, ◌∙◌, ℕ, ◌+◌, Bool, true, false, cond, List, [], ◌∷◌, map, Option, Some, None, refl, sym, ap, subst}
use Rattle.std.specs.Prelude.{fold, take}
use Rattle.gfx_model.specs.Words.{Handle}
use Rattle.gfx_model.specs.Raster.{Texels, Rect, contains, covers, view_rect}
use Rattle.gfx_model.specs.Pixel.{Pixel}
use Rattle.gfx_model.specs.Views.{View}
use Rattle.gfx_model.specs.World.{Surface, World, Draw, Item, draw_item, touch_item, blit_item, UniformSet, set_uniform, Blit, copied, texels_of, content_of, Paint, Facing, covered_step, facing_step, after_facing, facings_of, is_in_cut, drawn_on, painted_by, paint_of, cleared, clear_surface, surface_of, with_changed, on_surface, do_item, FrameContent, frame_step}
use Rattle.trace_laws.specs.Deeds.{Deed, clear_deed, item_deed, after_deed, deeds, begun}
use Rattle.trace_laws.specs.History.{Stroke, clear_stroke, after_stroke, fragment_of, fragments_from, drawn_strokes, item_strokes, clear_strokes, on_back, strokes_of, Made, history_from, after_history, pixel_at}
use Rattle.trace_laws.specs.Laws.{HasPixel, HistoryLaw, LeastLaw, LastLaw}
use Rattle.trace_laws.proofs.Steps.{fold-append, steps-law}
use Rattle.pass_laws.proofs.Pixels.{Keeps, tested_keeps}
use Rattle.pass_laws.proofs.Steps.{clear_keeps, facings_keep}
use Rattle.trace_laws.proofs.Pixels.{pixel-changed, has-changed, pixel-color}

-- ---- strokes

pub strokes-cond : (b : Bool) (p : Pixel) (ss : List Stroke) → fold after_stroke p (cond b ss []) ≡ cond b (fold after_stroke p ss) p
strokes-cond true p ss = refl
strokes-cond false p ss = refl

pub fragments-fold : (n state : ℕ) (paint : Paint) (x y : ℕ) (p : Pixel) (fs : List Facing) → fold after_stroke p (fragments_from n state paint x y fs) ≡ fold (facing_step state paint x y) p fs
fragments-fold n state paint x y p [] = refl
fragments-fold n state paint x y p (f ∷ fs) = go (covers f.triangle x y) (λ q. fragments-fold (n + 1) state paint x y q fs)
  where
    rest : List Stroke
    rest = fragments_from (n + 1) state paint x y fs

    go : (b : Bool) → ((q : Pixel) → fold after_stroke q (fragments_from (n + 1) state paint x y fs) ≡ fold (facing_step state paint x y) q fs)
        → fold after_stroke p (cond b (fragment_of n state paint x y f ∷ fragments_from (n + 1) state paint x y fs) (fragments_from (n + 1) state paint x y fs)) ≡ fold (facing_step state paint x y) (cond b (covered_step state paint f x y p) p) fs
    go true h = h (covered_step state paint f x y p)
    go false h = h p

-- ---- the back buffer

back-kept : (w : World) (h : Handle) (change : Surface → Surface) (o : Option Surface) → (with_changed w (Some h) change o).back ≡ w.back
back-kept w h change None = refl
back-kept w h change (Some s) = refl

values-back : (values : List UniformSet) (w : World) → (fold set_uniform w values).back ≡ w.back
values-back [] w = refl
values-back (v ∷ vs) w = values-back vs (set_uniform w v)

copied-back : (w : World) (b : Blit) (o : Option Texels) → (copied w b o).back ≡ w.back
copied-back w b None = refl
copied-back w b (Some t) = refl

module _ (x y : ℕ) where
  -- the pixel of a surface after strokes is that of another, and is there
  pub record Goes (before : Surface) (strokes : List Stroke) (after : Surface) : Type 0 where
    pub goes : fold after_stroke (pixel_at before x y) strokes ≡ pixel_at after x y
    pub has : HasPixel after x y
    pub wide : after.color.width ≡ before.color.width

  stays : (s t : Surface) → t ≡ s → HasPixel s x y → Goes s [] t
  stays s t same has = record { goes = ap (λ u. pixel_at u x y) (sym same); has = subst (λ u. HasPixel u x y) (sym same) has; wide = ap (λ u. u.color.width) same }

  clear-goes : (w : World) (view : View) (o : Option Handle) → HasPixel w.back x y → Goes w.back (on_back o (clear_strokes w view x y)) (on_surface w o (clear_surface view)).back
  clear-goes w view None has =
      let s : Surface = w.back in
      let change : ℕ → ℕ → Pixel → Pixel = λ a b p. cond (contains (view_rect view.rect s.color.width s.color.height) a b) (cleared view.clear p) p in
      let keeps : Keeps change = λ a b p o f. tested_keeps (contains (view_rect view.rect s.color.width s.color.height) a b) (cleared view.clear p) p o (clear_keeps view.clear p o f) f in
      record {
        goes = strokes-cond (contains (view_rect view.rect s.color.width s.color.height) x y) (pixel_at s x y) (clear_stroke view.clear ∷ []) ∙ sym (pixel-changed change keeps s x y has);
        has = has-changed change keeps s x y has;
        wide = refl;
      }
  clear-goes w view (Some h) has = stays w.back _ (back-kept w h (clear_surface view) (surface_of w (Some h))) has

  draw-goes : (w : World) (view : View) (d : Draw) (paint : Paint) (o : Option Handle) → HasPixel w.back x y
      → Goes w.back (on_back o (drawn_strokes w view d x y (Some paint))) (on_surface w o (drawn_on w view d paint)).back
  draw-goes w view d paint None has =
      let s : Surface = w.back in
      let rect : Rect = view_rect view.rect s.color.width s.color.height in
      let fs : List Facing = facings_of w view rect d in
      let change : ℕ → ℕ → Pixel → Pixel = λ a b p. cond (is_in_cut view rect d a b) (fold (after_facing d paint a b) p fs) p in
      let keeps : Keeps change = λ a b p o f. tested_keeps (is_in_cut view rect d a b) (fold (after_facing d paint a b) p fs) p o (facings_keep d.state paint a b p fs o f) f in
      record {
        goes = strokes-cond (is_in_cut view rect d x y) (pixel_at s x y) (fragments_from 0 d.state paint x y fs)
            ∙ ap (λ q. cond (is_in_cut view rect d x y) q (pixel_at s x y)) (fragments-fold 0 d.state paint x y (pixel_at s x y) fs)
            ∙ sym (pixel-changed change keeps s x y has);
        has = has-changed change keeps s x y has;
        wide = refl;
      }
  draw-goes w view d paint (Some h) has = stays w.back _ (back-kept w h (drawn_on w view d paint) (surface_of w (Some h))) has

  no-strokes : (o : Option Handle) → on_back o [] ≡ []
  no-strokes None = refl
  no-strokes (Some h) = refl

  paint-goes : (w : World) (view : View) (d : Draw) (paint : Option Paint) → HasPixel w.back x y → Goes w.back (on_back view.target (drawn_strokes w view d x y paint)) (painted_by w view d paint).back
  paint-goes w view d None has = subst (λ ss. Goes w.back ss w.back) (sym (no-strokes view.target)) (stays w.back w.back refl has)
  paint-goes w view d (Some paint) has = draw-goes w view d paint view.target has

  item-goes : (w : World) (view : View) (i : Item) → HasPixel w.back x y → Goes w.back (on_back view.target (item_strokes w view x y i)) (do_item view w i).back
  item-goes w view (draw_item d) has =
      let given : World = fold set_uniform w d.values in
      let same : given.back ≡ w.back = values-back d.values w in
      let paint : Option Paint = paint_of given view d (content_of given d.program) in
      subst (λ s. Goes s (on_back view.target (drawn_strokes given view d x y paint)) (painted_by given view d paint).back) same
      (paint-goes given view d paint (subst (λ s. HasPixel s x y) (sym same) has))
  item-goes w view (touch_item t) has = subst (λ ss. Goes w.back ss (fold set_uniform w t.values).back) (sym (no-strokes view.target)) (stays w.back _ (values-back t.values w) has)
  item-goes w view (blit_item b) has =
      subst (λ ss. Goes w.back ss (do_item view w (blit_item b)).back) (sym (no-strokes view.target)) (stays w.back _ (copied-back w b (texels_of (content_of w b.source))) has)

  deed-goes : (w : World) (d : Deed) → HasPixel w.back x y → Goes w.back (strokes_of x y w d) (after_deed w d).back
  deed-goes w (clear_deed view) has = clear-goes w view view.target has
  deed-goes w (item_deed view i) has = item-goes w view i has

  made-fold : (n : ℕ) (p : Pixel) (ss : List Stroke) → after_history p (map (λ s. record { deed = n; stroke = s }) ss) ≡ fold after_stroke p ss
  made-fold n p [] = refl
  made-fold n p (s ∷ ss) = made-fold n (after_stroke p s) ss

  pub record GoesOn (before : Surface) (strokes : List Made) (after : Surface) : Type 0 where
    pub goes : after_history (pixel_at before x y) strokes ≡ pixel_at after x y
    pub has : HasPixel after x y
    pub wide : after.color.width ≡ before.color.width

  deeds-go : (n : ℕ) (w : World) (ds : List Deed) → HasPixel w.back x y → GoesOn w.back (history_from x y n w ds) (fold after_deed w ds).back
  deeds-go n w [] has = record { goes = refl; has = has; wide = refl }
  deeds-go n w (d ∷ ds) has =
      let one = deed-goes w d has in
      let rest = deeds-go (n + 1) (after_deed w d) ds one.has in
      let made : List Made = map (λ s. record { deed = n; stroke = s }) (strokes_of x y w d) in
      record {
        goes = fold-append (λ (q : Pixel) (m : Made). after_stroke q m.stroke) (pixel_at w.back x y) made (history_from x y (n + 1) (after_deed w d) ds)
            ∙ ap (λ q. after_history q (history_from x y (n + 1) (after_deed w d) ds)) (made-fold n (pixel_at w.back x y) (strokes_of x y w d) ∙ one.goes)
            ∙ rest.goes;
        has = rest.has;
        wide = rest.wide ∙ one.wide;
      }

pub least-law : LeastLaw
least-law w f x y n has = (deeds-go x y 0 (begun w f) (take n (deeds f)) has).goes

pub history-law : HistoryLaw
history-law w f x y has = (deeds-go x y 0 (begun w f) (deeds f) has).goes ∙ ap (λ u. pixel_at u.back x y) (steps-law w f)

-- the frame step keeps the width of the back buffer, and that it has the pixel
pub frame-has : (x y : ℕ) (w : World) (f : FrameContent) → HasPixel w.back x y → ((frame_step w f).back.color.width ≡ w.back.color.width) × HasPixel (frame_step w f).back x y
frame-has x y w f has =
    let all = deeds-go x y 0 (begun w f) (deeds f) has in
    (ap (λ u. u.back.color.width) (sym (steps-law w f)) ∙ all.wide, subst (λ u. HasPixel u.back x y) (steps-law w f) all.has)

pub last-law : LastLaw
last-law w f x y has = ap (λ p. p.color) (history-law w f x y has) ∙ pixel-color (frame_step w f).back x y (frame-has x y w f has).1
