-- Two draws onto the back buffer that cover no pixel in common may be made in either order.
use Rattle.std.proofs.Common.{◌≡◌, ℕ, ◌+◌, Bool, true, false, ◌||◌, cond, List, [], ◌∷◌, Option, Some, None, refl, sym, ap, ◌∙◌, zero, suc, ◌<◌, ◌≤◌, length, subst, arith}
use Rattle.std.specs.Prelude.{◌&&◌, ◌*◌, ◌/◌, ◌%◌, if◌then◌else◌, fold}
use Rattle.std.specs.List.{list_any}
use Rattle.std.proofs.Math.Nat.{mod-lt, mul_comm, zero-mul, div-lt_iff_lt-mul}
use Rattle.gfx_model.specs.Number.{map_from}
use Rattle.gfx_model.specs.Words.{Handle, int, solid, vertex_color, textured, textured_color}
use Rattle.gfx_model.specs.Raster.{Rect, covers, view_rect}
use Rattle.gfx_model.specs.Pixel.{Pixel}
use Rattle.gfx_model.specs.Views.{View}
use Rattle.gfx_model.specs.World.{pixels_of, surface_with, on_each_pixel, World, Surface, Draw, Item, draw_item, touch_item, blit_item, Paint, Facing, is_in_cut, covered_step, after_facing, Content, layout_content, vertex_content, index_content, texture_content, frame_buffer_content, program_content, uniform_content, content_of, set_uniform, target_color, is_serial, texels_of, texels_unless_target, bound_handle, sampled_stage, stage_name, newest_value, sampled_texels, paint_sample, paint_product, facings_of, paint_of, drawn, drawn_on, painted_by, draw_on, on_surface, do_item}
use Rattle.pass_laws.proofs.Pixels.{Keeps, each_twice, tested_keeps}
use Rattle.pass_laws.proofs.Steps.{facings_keep}
use Rattle.cover_laws.specs.Covered.{back_rect, covers_pixel, MayPass}
use Rattle.cover_laws.proofs.Worlds.{IsWithin, within_sized, joined_short, same_facings}

-- ---- a pixel that a draw does not cover

-- a pixel after a draw's triangles, where it lies in the cut
abbrev pixel_after : View → Rect → Draw → Paint → List Facing → ℕ → ℕ → Pixel → Pixel
pixel_after view rect d paint facings x y p = if is_in_cut view rect d x y then fold (after_facing d paint x y) p facings else p

abbrev covered : View → Rect → Draw → List Facing → ℕ → ℕ → Bool
covered view rect d facings x y = is_in_cut view rect d x y && list_any (λ f. covers f.triangle x y) facings

no_facing : (d : Draw) (paint : Paint) (x y : ℕ) (p : Pixel) (facings : List Facing) → list_any (λ f. covers f.triangle x y) facings ≡ false → fold (after_facing d paint x y) p facings ≡ p
no_facing d paint x y p [] h = refl
no_facing d paint x y p (f ∷ fs) h = by (covers f.triangle x y) refl h (no_facing d paint x y p fs)
  where
    by : (b : Bool) → covers f.triangle x y ≡ b → (b || list_any (λ f. covers f.triangle x y) fs) ≡ false → (list_any (λ f. covers f.triangle x y) fs ≡ false → fold (after_facing d paint x y) p fs ≡ p)
        → fold (after_facing d paint x y) (cond (covers f.triangle x y) (covered_step d.state paint f x y p) p) fs ≡ p
    by true e h later = absurd (cc h)
    by false e h later = ap (λ b. fold (after_facing d paint x y) (cond b (covered_step d.state paint f x y p) p) fs) e ∙ later h

uncovered : (view : View) (rect : Rect) (d : Draw) (paint : Paint) (facings : List Facing) (x y : ℕ) → covered view rect d facings x y ≡ false → (p : Pixel) → pixel_after view rect d paint facings x y p ≡ p
uncovered view rect d paint facings x y h p = by (is_in_cut view rect d x y) h
  where
    by : (b : Bool) → (b && list_any (λ f. covers f.triangle x y) facings) ≡ false → (if b then fold (after_facing d paint x y) p facings else p) ≡ p
    by true h = no_facing d paint x y p facings h
    by false h = refl

-- two changes of which one leaves the pixel
one_leaves : (a b : Bool) (f g : Pixel → Pixel) (p : Pixel) → (a && b) ≡ false → (a ≡ false → (q : Pixel) → f q ≡ q) → (b ≡ false → (q : Pixel) → g q ≡ q) → g (f p) ≡ f (g p)
one_leaves true b f g p h hf hg = hg h (f p) ∙ ap f (sym (hg h p))
one_leaves false b f g p h hf hg = ap g (hf refl p) ∙ sym (hf refl (g p))

-- ---- surfaces

map_from-same_at : {A B : Type 0} (f g : ℕ → A → B) (n m : ℕ) (xs : List A) → ((k : ℕ) (v : A) → k < length xs → f (n + k) v ≡ g (m + k) v) → map_from f n xs ≡ map_from g m xs
map_from-same_at f g n m [] h = refl
map_from-same_at f g n m (x ∷ xs) h =
    let n0 : n ≡ n + 0 = omega arith in
    let m0 : m + 0 ≡ m = omega arith in
    let head : f n x ≡ g m x = ap (λ k. f k x) n0 ∙ h 0 x (omega arith) ∙ ap (λ k. g k x) m0 in
    let tail : map_from f (n + 1) xs ≡ map_from g (m + 1) xs =
    map_from-same_at f g (n + 1) (m + 1) xs (λ k v b.
    let nk : n + 1 + k ≡ n + suc k = omega arith in
    let mk : m + suc k ≡ m + 1 + k = omega arith in
    ap (λ j. f j v) nk ∙ h (suc k) v (omega (arith, b)) ∙ ap (λ j. g j v) mk) in
    ap (λ y. y ∷ map_from f (n + 1) xs) head ∙ ap (λ ys. g m x ∷ ys) tail

-- a place of a surface has a column and a row
has_width : (w h k : ℕ) → k < w * h → 0 < w
has_width zero h k lt = absurd (let none : 0 * h ≡ 0 = zero-mul h in omega (arith, none, lt))
has_width (suc w) h k lt = omega arith

in_row : (w h k : ℕ) → k < w * h → k / w < h
in_row w h k lt = (div-lt_iff_lt-mul (has_width w h k lt)).1 (subst (λ (n : ℕ). k < n) (mul_comm w h) lt)

-- two changes that may be made in either order at each pixel of a surface
each_within : (f g : ℕ → ℕ → Pixel → Pixel) → Keeps f → Keeps g → (s : Surface) → length s.color.texels ≤ s.color.width * s.color.height
    → ((x y : ℕ) (p : Pixel) → x < s.color.width → y < s.color.height → g x y (f x y p) ≡ f x y (g x y p)) → on_each_pixel g (on_each_pixel f s) ≡ on_each_pixel f (on_each_pixel g s)
each_within f g kf kg s few e = each_twice f g kf s ∙ ap (λ ps. surface_with ps s) (map_from-same_at one two 0 0 (pixels_of s) same_at) ∙ sym (each_twice g f kg s)
  where
    one : ℕ → Pixel → Pixel
    one i p = g (i % s.color.width) (i / s.color.width) (f (i % s.color.width) (i / s.color.width) p)

    two : ℕ → Pixel → Pixel
    two i p = f (i % s.color.width) (i / s.color.width) (g (i % s.color.width) (i / s.color.width) p)

    same_at : (k : ℕ) (p : Pixel) → k < length (pixels_of s) → one (0 + k) p ≡ two (0 + k) p
    same_at k p lt =
        let short : length (pixels_of s) ≤ length s.color.texels = joined_short s.color.texels s.depth in
        let at : 0 + k < s.color.width * s.color.height = omega (arith, lt, short, few) in
        e ((0 + k) % s.color.width) ((0 + k) / s.color.width) p (mod-lt (0 + k) (has_width s.color.width s.color.height (0 + k) at)) (in_row s.color.width s.color.height (0 + k) at)

surfaces_apart : (w : World) (view : View) (a b : Draw) (pa pb : Paint) (s : Surface)
    → length s.color.texels ≤ s.color.width * s.color.height
    → ((x y : ℕ) → x < s.color.width → y < s.color.height → (covered view (view_rect view.rect s.color.width s.color.height) a (facings_of w view (view_rect view.rect s.color.width s.color.height) a) x y
    && covered view (view_rect view.rect s.color.width s.color.height) b (facings_of w view (view_rect view.rect s.color.width s.color.height) b) x y) ≡ false)
    → drawn_on w view b pb (drawn_on w view a pa s) ≡ drawn_on w view a pa (drawn_on w view b pb s)
surfaces_apart w view a b pa pb s few apart = each_within f g kf kg s few (λ x y p lx ly. one_leaves (covered view rect a fa x y) (covered view rect b fb x y) (f x y) (g x y) p (apart x y lx ly) (λ h. uncovered view rect a pa fa x y h) (λ h. uncovered view rect b pb fb x y h))
  where
    rect : Rect
    rect = view_rect view.rect s.color.width s.color.height

    fa : List Facing
    fa = facings_of w view rect a

    fb : List Facing
    fb = facings_of w view rect b

    f : ℕ → ℕ → Pixel → Pixel
    f = pixel_after view rect a pa fa

    g : ℕ → ℕ → Pixel → Pixel
    g = pixel_after view rect b pb fb

    kf : Keeps f
    kf x y p o h = tested_keeps (is_in_cut view rect a x y) (fold (after_facing a pa x y) p fa) p o (facings_keep a.state pa x y p fa o h) h

    kg : Keeps g
    kg x y p o h = tested_keeps (is_in_cut view rect b x y) (fold (after_facing b pb x y) p fb) p o (facings_keep b.state pb x y p fb o h) h

-- ---- worlds

-- a surface after a draw with a paint, if there is one
abbrev drawn_by : World → View → Draw → Option Paint → Surface → Surface
drawn_by w view d None s = s
drawn_by w view d (Some paint) s = drawn_on w view d paint s

-- what a draw paints with
abbrev own_paint : World → View → Draw → Option Paint
own_paint w view d = paint_of w view d (content_of w d.program)

abbrev backed : World → Surface → World
backed w s = record w { back = s }

back_drawn : (w : World) (view : View) (d : Draw) (o : Option Paint) → view.target ≡ None → painted_by w view d o ≡ backed w (drawn_by w view d o w.back)
back_drawn w view d None e = refl
back_drawn w view d (Some paint) e = ap (λ t. on_surface w t (drawn_on w view d paint)) e

plain_step : (w : World) (view : View) (d : Draw) → d.values ≡ [] → view.target ≡ None → do_item view w (draw_item d) ≡ backed w (drawn_by w view d (own_paint w view d) w.back)
plain_step w view d e t = ap (λ vs. draw_on (fold set_uniform w vs) view d) e ∙ back_drawn w view d (own_paint w view d) t

drawn_apart : (w : World) (view : View) (a b : Draw) (oa ob : Option Paint) (s : Surface)
    → length s.color.texels ≤ s.color.width * s.color.height
    → ((x y : ℕ) → x < s.color.width → y < s.color.height → (covered view (view_rect view.rect s.color.width s.color.height) a (facings_of w view (view_rect view.rect s.color.width s.color.height) a) x y
    && covered view (view_rect view.rect s.color.width s.color.height) b (facings_of w view (view_rect view.rect s.color.width s.color.height) b) x y) ≡ false)
    → drawn_by w view b ob (drawn_by w view a oa s) ≡ drawn_by w view a oa (drawn_by w view b ob s)
drawn_apart w view a b None None s few apart = refl
drawn_apart w view a b None (Some pb) s few apart = refl
drawn_apart w view a b (Some pa) None s few apart = refl
drawn_apart w view a b (Some pa) (Some pb) s few apart = surfaces_apart w view a b pa pb s few apart

-- another back buffer changes neither what a draw paints with nor its triangles
target_same : (w : World) (s : Surface) (t : Option Handle) → target_color (backed w s) t ≡ target_color w t
target_same w s None = refl
target_same w s (Some h) = refl

texels_same : (w : World) (s : Surface) (view : View) (o : Option Handle) → texels_unless_target (backed w s) view o ≡ texels_unless_target w view o
texels_same w s view None = refl
texels_same w s view (Some h) = ap (λ c. if is_serial h.serial c then None else texels_of (content_of w h)) (target_same w s view.target)

sampled_same : (w : World) (s : Surface) (view : View) (d : Draw) → sampled_texels (backed w s) view d ≡ sampled_texels w view d
sampled_same w s view d = texels_same w s view (bound_handle d.textures (sampled_stage (newest_value stage_name int w.things)))

paint_same : (w : World) (s : Surface) (view : View) (d : Draw) (o : Option Content) → paint_of (backed w s) view d o ≡ paint_of w view d o
paint_same w s view d None = refl
paint_same w s view d (Some (layout_content l)) = refl
paint_same w s view d (Some (vertex_content l b)) = refl
paint_same w s view d (Some (index_content b)) = refl
paint_same w s view d (Some (texture_content f t)) = refl
paint_same w s view d (Some (frame_buffer_content c z)) = refl
paint_same w s view d (Some (program_content solid)) = refl
paint_same w s view d (Some (program_content vertex_color)) = refl
paint_same w s view d (Some (program_content textured)) = ap (λ x. Some (paint_sample x)) (sampled_same w s view d)
paint_same w s view d (Some (program_content textured_color)) = ap (λ x. Some (paint_product x)) (sampled_same w s view d)
paint_same w s view d (Some (uniform_content n v)) = refl

drawn_same : (w : World) (s : Surface) (view : View) (d : Draw) (o : Option Paint) (on : Surface) → drawn_by (backed w s) view d o on ≡ drawn_by w view d o on
drawn_same w s view d None on = refl
drawn_same w s view d (Some paint) on =
    ap (λ fs. drawn view (view_rect view.rect on.color.width on.color.height) d paint fs on) (same_facings (backed w s) w view (view_rect view.rect on.color.width on.color.height) d refl)

two_draws : (w : World) (view : View) (a b : Draw) → a.values ≡ [] → b.values ≡ [] → view.target ≡ None
    → do_item view (do_item view w (draw_item a)) (draw_item b) ≡ backed w (drawn_by w view b (own_paint w view b) (drawn_by w view a (own_paint w view a) w.back))
two_draws w view a b ea eb t =
    let s : Surface = drawn_by w view a (own_paint w view a) w.back in
    ap (λ z. do_item view z (draw_item b)) (plain_step w view a ea t) ∙ plain_step (backed w s) view b eb t
    ∙ ap (backed w) (drawn_same w s view b (own_paint (backed w s) view b) s ∙ ap (λ o. drawn_by w view b o s) (paint_same w s view b (content_of w b.program)))

-- a pixel is covered in one world of the frame as in another
same_cover : (w u : World) (view : View) (d : Draw) (x y : ℕ) → IsWithin w u → covers_pixel u view d x y ≡ covers_pixel w view d x y
same_cover w u view d x y h =
    let rect : back_rect u view ≡ back_rect w view = λ k. view_rect view.rect (h.width k) (h.height k) in
    ap (λ r. covered view r d (facings_of u view r d) x y) rect ∙ ap (λ fs. covered view (back_rect w view) d fs x y) (same_facings u w view (back_rect w view) d h.things)

draws_pass : (w u : World) (view : View) (a b : Draw) → IsWithin w u → MayPass w view (draw_item a) (draw_item b) → do_item view (do_item view u (draw_item a)) (draw_item b) ≡ do_item view (do_item view u (draw_item b)) (draw_item a)
draws_pass w u view a b h (ea, eb, t, apart) =
    two_draws u view a b ea eb t
    ∙ ap (backed u) (drawn_apart u view a b (own_paint u view a) (own_paint u view b) u.back (within_sized w u h) (λ x y lx ly. (λ k. same_cover w u view a x y h k && same_cover w u view b x y h k) ∙ apart x y (let e = h.width in omega (arith, lx, e)) (let e = h.height in omega (arith, ly, e))))
    ∙ sym (two_draws u view b a eb ea t)

-- two items that may pass each other
pub items_pass : (w u : World) (view : View) (i j : Item) → IsWithin w u → MayPass w view i j → do_item view (do_item view u i) j ≡ do_item view (do_item view u j) i
items_pass w u view (draw_item a) (draw_item b) h m = draws_pass w u view a b h m
items_pass w u view (draw_item a) (touch_item b) h m = absurd m
items_pass w u view (draw_item a) (blit_item b) h m = absurd m
items_pass w u view (touch_item a) (draw_item b) h m = absurd m
items_pass w u view (touch_item a) (touch_item b) h m = absurd m
items_pass w u view (touch_item a) (blit_item b) h m = absurd m
items_pass w u view (blit_item a) (draw_item b) h m = absurd m
items_pass w u view (blit_item a) (touch_item b) h m = absurd m
items_pass w u view (blit_item a) (blit_item b) h m = absurd m
