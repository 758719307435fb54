-- What a frame does keeps the back buffer whole.
use Rattle.std.proofs.Common.{◌≡◌, ◌∙◌, ℕ, zero, suc, ◌+◌, ◌*◌, ◌/◌, ◌%◌, Bool, true, false, cond, not, ◌^◌, List, [], ◌∷◌, ◌++◌, length, map, replicate, Option, Some, None, refl, sym, ap, arith}
use Rattle.std.specs.Prelude.{⊤, filter, option_map}
use Rattle.std.specs.List.{AllByRecursion, fold}
use Rattle.gfx_model.specs.Number.{zip_with}
use Rattle.std.proofs.lemmas.List.{length-map, length-replicate}
use Rattle.gfx_model.specs.Number.{is_bit_set, map_from, u32_at}
use Rattle.gfx_model.specs.Words.{Handle, depth_test_of}
use Rattle.gfx_model.specs.Vertex.{Color}
use Rattle.gfx_model.specs.Raster.{Texels, Rect, contains, view_rect, no_color, covers, fragment_at}
use Rattle.gfx_model.specs.Pixel.{Pixel, Shaded, pixel_step, step_by_depth, passes_stencil, passes_depth}
use Rattle.gfx_model.specs.Views.{View, view_at}
use Rattle.gfx_model.specs.World.{Surface, World, first_world, joined_pixels, depth_bytes, pixels_of, with_texel_list, on_each_pixel, cleared, clear_surface, on_surface, with_changed, surface_of, set_uniform, UniformSet, copied, texels_of, content_of, Item, draw_item, touch_item, blit_item, Draw, Paint, paint_of, painted_by, drawn_on, Facing, after_facing, painted, is_in_cut, facings_of, do_item, enter_view, FrameContent, ordered, entered_views, frame_step, begin_frame, is_of_view, is_blit}
use Rattle.scene_model.specs.Fold.{FramePlan, plans}
use Rattle.scene_model.specs.Journal.{Journal, frame_content, pictures_from}
use Rattle.picture_laws.specs.Whole.{IsFour, AreWhole, ClearsToColors, ClearedLaw}

-- ---- pixels

-- so many pixels, of colours of four bytes
abbrev ArePixels : ℕ → List Pixel → Type 0
ArePixels n ps = (length ps ≡ n) × AllByRecursion (λ p. IsFour p.color) ps

-- a change of a pixel keeps colours of four bytes
abbrev KeepsFour : (ℕ → ℕ → Pixel → Pixel) → Type 0
KeepsFour f = (x y : ℕ) (p : Pixel) → IsFour p.color → IsFour (f x y p).color

-- depth texels, if there are any, for so many pixels
abbrev AreDeep : ℕ → Option Texels → Type 0
AreDeep n None = ⊤
AreDeep n (Some d) = length d.texels ≡ n

plain-pixels : (cs : List Color) → AllByRecursion IsFour cs → AllByRecursion (λ p. IsFour p.color) (joined_pixels cs None)
plain-pixels [] four = tt
plain-pixels (c ∷ cs) four = (four.0, plain-pixels cs four.1)

deep-pixels : (cs zs : List Color) → length zs ≡ length cs → AllByRecursion IsFour cs
    → ArePixels (length cs) (zip_with (λ c z. record { color = c; depth = Some (u32_at z 0) }) cs zs)
deep-pixels [] zs same four = (refl, tt)
deep-pixels (c ∷ cs) [] same four = absurd (omega (arith, same))
deep-pixels (c ∷ cs) (z ∷ zs) same four =
    let rest = deep-pixels cs zs (omega (arith, same)) four.1 in
    (ap suc rest.0, (four.0, rest.1))

joined : (cs : List Color) (depth : Option Texels) (n : ℕ) → length cs ≡ n → AreDeep n depth → AllByRecursion IsFour cs → ArePixels n (joined_pixels cs depth)
joined cs None n many deep four = (length-map cs (λ c. record { color = c; depth = None }) ∙ many, plain-pixels cs four)
joined cs (Some d) n many deep four = let both = deep-pixels cs d.texels (deep ∙ sym many) four in (both.0 ∙ many, both.1)

changed : (f : ℕ → ℕ → Pixel → Pixel) (width i : ℕ) (ps : List Pixel) (n : ℕ) → KeepsFour f → ArePixels n ps → ArePixels n (map_from (λ i p. f (i % width) (i / width) p) i ps)
changed f width i [] n keeps are = (are.0, tt)
changed f width i (p ∷ ps) n keeps are =
    let rest = changed f width (i + 1) ps (length ps) keeps (refl, are.1.1) in
    (ap suc rest.0 ∙ are.0, (keeps (i % width) (i / width) p are.1.0, rest.1))

colors-four : (ps : List Pixel) → AllByRecursion (λ p. IsFour p.color) ps → AllByRecursion IsFour (map (λ p. p.color) ps)
colors-four [] four = tt
colors-four (p ∷ ps) four = (four.0, colors-four ps four.1)

-- ---- surfaces

record IsWhole (width height : ℕ) (s : Surface) : Type 0 where
  color : AreWhole width height s.color
  deep : AreDeep (width * height) s.depth

deep-with : (n : ℕ) (depth : Option Texels) (texels : List Color) → length texels ≡ n → AreDeep n (option_map (with_texel_list texels) depth)
deep-with n None texels many = tt
deep-with n (Some d) texels many = many

each-kept : (f : ℕ → ℕ → Pixel → Pixel) (width height : ℕ) (s : Surface) → KeepsFour f → IsWhole width height s → IsWhole width height (on_each_pixel f s)
each-kept f width height s keeps whole =
    let n : ℕ = width * height in
    let before : ArePixels n (pixels_of s) = joined s.color.texels s.depth n whole.color.many whole.deep whole.color.four in
    let pixels = map_from (λ i p. f (i % s.color.width) (i / s.color.width) p) 0 (pixels_of s) in
    let after : ArePixels n pixels = changed f s.color.width 0 (pixels_of s) n keeps before in
    record {
      color = record {
        width_is = whole.color.width_is;
        height_is = whole.color.height_is;
        many = length-map pixels (λ p. p.color) ∙ after.0;
        four = colors-four pixels after.1;
      };
      deep = deep-with n s.depth (map (λ p. depth_bytes p.depth) pixels) (length-map pixels (λ p. depth_bytes p.depth) ∙ after.0);
    }

either-four : (b : Bool) (c d : Color) → IsFour c → IsFour d → IsFour (cond b c d)
either-four true c d x y = x
either-four false c d x y = y

either-pixel : (b : Bool) (p q : Pixel) → IsFour p.color → IsFour q.color → IsFour (cond b p q).color
either-pixel true p q x y = x
either-pixel false p q x y = y

clear-keeps : (view : View) (s : Surface) → IsFour view.clear.color
    → KeepsFour (λ x y p. cond (contains (view_rect view.rect s.color.width s.color.height) x y) (cleared view.clear p) p)
clear-keeps view s four x y p own =
    either-pixel (contains (view_rect view.rect s.color.width s.color.height) x y) (cleared view.clear p) p (either-four (is_bit_set view.clear.flags 0) view.clear.color p.color four own) own

step-four : (p : Pixel) (shaded : Shaded) (state word : ℕ) → IsFour p.color → IsFour (pixel_step p shaded state word).color
step-four p shaded state word own = go p.depth
  where
    go : (depth : Option ℕ) → IsFour (step_by_depth p.color depth shaded state word).color
    go None = refl
    go (Some d) = tests (not (passes_stencil word (d / 2 ^ 24))) (not (passes_depth (depth_test_of state) shaded.depth (d % 2 ^ 24))) _ _ _ own own refl
      where
        tests : (a b : Bool) (x y z : Pixel) → IsFour x.color → IsFour y.color → IsFour z.color → IsFour (cond a x (cond b y z)).color
        tests true b x y z fx fy fz = fx
        tests false true x y z fx fy fz = fy
        tests false false x y z fx fy fz = fz

facings-four : (d : Draw) (paint : Paint) (x y : ℕ) (p : Pixel) (fs : List Facing) → IsFour p.color → IsFour (fold (after_facing d paint x y) p fs).color
facings-four d paint x y p [] own = own
facings-four d paint x y p (f ∷ fs) own =
    let fragment = fragment_at f.triangle x y in
    let next = pixel_step p (record { color = painted paint fragment; depth = fragment.depth }) d.state f.stencil in
    facings-four d paint x y (after_facing d paint x y p f) fs (either-pixel (covers f.triangle x y) next p (step-four p (record { color = painted paint fragment; depth = fragment.depth }) d.state f.stencil own) own)

-- what a clear and a draw do to a pixel
abbrev clear_pixel : View → Surface → ℕ → ℕ → Pixel → Pixel
clear_pixel view s x y p = cond (contains (view_rect view.rect s.color.width s.color.height) x y) (cleared view.clear p) p

abbrev draw_pixel : View → Rect → Draw → Paint → List Facing → ℕ → ℕ → Pixel → Pixel
draw_pixel view rect d paint fs x y p = cond (is_in_cut view rect d x y) (fold (after_facing d paint x y) p fs) p

draw-keeps : (view : View) (rect : Rect) (d : Draw) (paint : Paint) (fs : List Facing) → KeepsFour (λ x y p. cond (is_in_cut view rect d x y) (fold (after_facing d paint x y) p fs) p)
draw-keeps view rect d paint fs x y p own = either-pixel (is_in_cut view rect d x y) (fold (after_facing d paint x y) p fs) p (facings-four d paint x y p fs own) own

-- ---- worlds

module _ (width height : ℕ) where
  abbrev Kept : World → Type 0
  Kept w = IsWhole width height w.back

  surface-kept : (w : World) (target : Option Handle) (change : Surface → Surface) → ((s : Surface) → IsWhole width height s → IsWhole width height (change s)) → Kept w → Kept (on_surface w target change)
  surface-kept w None change keeps own = keeps w.back own
  surface-kept w (Some h) change keeps own = go (surface_of w (Some h))
    where
      go : (o : Option Surface) → Kept (with_changed w (Some h) change o)
      go None = own
      go (Some s) = own

  values-kept : (values : List UniformSet) (w : World) → Kept w → Kept (fold set_uniform w values)
  values-kept [] w own = own
  values-kept (v ∷ vs) w own = values-kept vs (set_uniform w v) own

  draw-kept : (w : World) (view : View) (d : Draw) (paint : Option Paint) → Kept w → Kept (painted_by w view d paint)
  draw-kept w view d None own = own
  draw-kept w view d (Some paint) own =
      surface-kept w view.target (drawn_on w view d paint) (λ s whole.
      let rect = view_rect view.rect s.color.width s.color.height in
      each-kept (draw_pixel view rect d paint (facings_of w view rect d)) width height s (draw-keeps view rect d paint (facings_of w view rect d)) whole) own

  item-kept : (view : View) (w : World) (i : Item) → Kept w → Kept (do_item view w i)
  item-kept view w (blit_item b) own = go (texels_of (content_of w b.source))
    where
      go : (o : Option Texels) → Kept (copied w b o)
      go None = own
      go (Some t) = own
  item-kept view w (touch_item t) own = values-kept t.values w own
  item-kept view w (draw_item d) own =
      let given = fold set_uniform w d.values in
      draw-kept given view d (paint_of given view d (content_of given d.program)) (values-kept d.values w own)

  items-kept : (view : View) (items : List Item) (w : World) → Kept w → Kept (fold (do_item view) w items)
  items-kept view [] w own = own
  items-kept view (i ∷ items) w own = items-kept view items (do_item view w i) (item-kept view w i own)

  view-kept : (f : FrameContent) (items : List Item) (w : World) (v : ℕ) → ClearsToColors f.views → Kept w → Kept (enter_view f items w v)
  view-kept f items w v four own =
      let view = view_at f.views v in
      items-kept view (filter (is_of_view v) (filter is_blit f.items ++ items)) (on_surface w view.target (clear_surface view))
      (surface-kept w view.target (clear_surface view) (λ s whole. each-kept (clear_pixel view s) width height s (clear-keeps view s (four v)) whole) own)

  views-kept : (f : FrameContent) (items : List Item) (vs : List ℕ) (w : World) → ClearsToColors f.views → Kept w → Kept (fold (enter_view f items) w vs)
  views-kept f items [] w four own = own
  views-kept f items (v ∷ vs) w four own = views-kept f items vs (enter_view f items w v) four (view-kept f items w v four own)

  frame-kept : (w : World) (f : FrameContent) → ClearsToColors f.views → Kept w → Kept (frame_step w f)
  frame-kept w f four own = views-kept f (ordered f.views f.items) (entered_views f) (begin_frame f.gone f.changes w) four own

  pictures-kept : (w : World) (ps : List FramePlan) (j : Journal) → AllByRecursion (λ p. ClearsToColors p.views) ps → Kept w → AllByRecursion (AreWhole width height) (pictures_from w ps j)
  pictures-kept w [] j four own = tt
  pictures-kept w (p ∷ ps) [] four own = tt
  pictures-kept w (p ∷ ps) (entries ∷ rest) four own =
      let next = frame-kept w (frame_content p entries) four.0 own in
      (next.color, pictures-kept (frame_step w (frame_content p entries)) ps rest four.1 next)

zeros-four : (n : ℕ) → AllByRecursion IsFour (replicate n no_color)
zeros-four zero = tt
zeros-four (suc n) = (refl, zeros-four n)

first-whole : (width height : ℕ) → IsWhole width height (first_world width height).back
first-whole width height =
    let n : ℕ = width * height in
    record {
      color = record { width_is = refl; height_is = refl; many = length-replicate n no_color; four = zeros-four n };
      deep = length-replicate n no_color;
    }

pub cleared-law : ClearedLaw
cleared-law s j four = pictures-kept s.width s.height (first_world s.width s.height) (plans s) j four (first-whole s.width s.height)
