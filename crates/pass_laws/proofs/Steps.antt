-- A clear that may be made before a draw.
use Rattle.std.proofs.Common.{◌≡◌, inl, inr, ℕ, ◌+◌, Bool, true, false, List, [], ◌∷◌, Option, Some, None, refl, sym, ap, ◌∙◌, arith}
use Rattle.std.specs.Prelude.{◌&&◌, ◌*◌, ◌/◌, ◌%◌, ◌^◌, not, if◌then◌else◌, fold, filter_map}
use Rattle.gfx_model.specs.Words.{primitive_of, depth_test_of, writes_depth, on_stencil_fail, on_depth_fail, on_pass}
use Rattle.gfx_model.specs.Vertex.{Color, triangles_of}
use Rattle.gfx_model.specs.Raster.{Texels, Rect, contains, covers, fragment_at, passes_scissor, view_rect}
use Rattle.gfx_model.specs.Pixel.{Pixel, Shaded, passes_stencil, passes_depth, stencil_by, stored_color, step_with_depth, pixel_step}
use Rattle.gfx_model.specs.Views.{View, Clear}
use Rattle.gfx_model.specs.World.{Surface, Draw, Paint, Facing, painted, is_in_cut, covered_step, facing_step, after_facing, cleared, cleared_color, cleared_depth, cleared_word, clear_surface, placed_facing, draw_vertices}
use Rattle.store_model.specs.Buffers.{Buffers}
use Rattle.store_laws.specs.ByIndex.{vertices_at, indices_at}
use Rattle.store_laws.specs.Listed.{painted_in}
use Rattle.pass_laws.specs.Passed.{ClearsNothing, ClearsBefore}
use Rattle.pass_laws.proofs.Pixels.{Fits, Keeps, each_apart, tested_apart, tested_keeps}

-- ---- what keeps depth words

pub clear_keeps : (c : Clear) (p : Pixel) (o : Option Texels) → Fits o p → Fits o (cleared c p)
clear_keeps c p None f = ap (cleared_depth c) f
clear_keeps c p (Some d) f = (cleared_word c f.0, ap (cleared_depth c) f.1)

abbrev HasWord : Pixel → Type 0
HasWord p = (w : ℕ) × (p.depth ≡ Some w)

either : (b : Bool) (p q : Pixel) → HasWord p → HasWord q → HasWord (if b then p else q)
either true p q a b = a
either false p q a b = b

deep_step : (color : Color) (depth stencil : ℕ) (shaded : Shaded) (state word : ℕ) → HasWord (step_with_depth color depth stencil shaded state word)
deep_step color depth stencil shaded state word =
    either (not (passes_stencil word stencil))
    (record { color = color; depth = Some (depth + 2 ^ 24 * stencil_by word (on_stencil_fail word) stencil) })
    (if not (passes_depth (depth_test_of state) shaded.depth depth)
    then record { color = color; depth = Some (depth + 2 ^ 24 * stencil_by word (on_depth_fail word) stencil) }
    else record { color = stored_color state shaded.color color; depth = Some ((if writes_depth state then shaded.depth else depth) + 2 ^ 24 * stencil_by word (on_pass word) stencil) })
    (depth + 2 ^ 24 * stencil_by word (on_stencil_fail word) stencil, refl)
    (either (not (passes_depth (depth_test_of state) shaded.depth depth))
    (record { color = color; depth = Some (depth + 2 ^ 24 * stencil_by word (on_depth_fail word) stencil) })
    (record { color = stored_color state shaded.color color; depth = Some ((if writes_depth state then shaded.depth else depth) + 2 ^ 24 * stencil_by word (on_pass word) stencil) })
    (depth + 2 ^ 24 * stencil_by word (on_depth_fail word) stencil, refl)
    ((if writes_depth state then shaded.depth else depth) + 2 ^ 24 * stencil_by word (on_pass word) stencil, refl))

step_keeps : (p : Pixel) (shaded : Shaded) (state word : ℕ) (o : Option Texels) → Fits o p → Fits o (pixel_step p shaded state word)
step_keeps p shaded state word None f = ap (λ z. (pixel_step (record { color = p.color; depth = z }) shaded state word).depth) f
step_keeps p shaded state word (Some d) f =
    let has = deep_step p.color (f.0 % 2 ^ 24) (f.0 / 2 ^ 24) shaded state word in
    (has.0, ap (λ z. (pixel_step (record { color = p.color; depth = z }) shaded state word).depth) f.1 ∙ has.1)

pub facings_keep : (state : ℕ) (paint : Paint) (x y : ℕ) (p : Pixel) (facings : List Facing) (o : Option Texels) → Fits o p → Fits o (fold (facing_step state paint x y) p facings)
facings_keep state paint x y p [] o f = f
facings_keep state paint x y p (t ∷ ts) o f =
    facings_keep state paint x y (facing_step state paint x y p t) ts o
    (tested_keeps (covers t.triangle x y) (covered_step state paint t x y p) p o
    (step_keeps p (record { color = painted paint (fragment_at t.triangle x y); depth = (fragment_at t.triangle x y).depth }) state t.stencil o f) f)

-- ---- a clear and a draw

cut_apart : (a b c d : Bool) → (a && d) ≡ false → (((a && b) && c) && d) ≡ false
cut_apart true true true d e = e
cut_apart true true false d e = refl
cut_apart true false c d e = refl
cut_apart false b c d e = refl

-- ---- a clear of nothing

color_same : (c : Clear) (n : ClearsNothing c) (old : Color) → cleared_color c old ≡ old
color_same c n old = ap (λ (b : Bool). if b then c.color else old) n.color

word_same : (c : Clear) (n : ClearsNothing c) (word : ℕ) → cleared_word c word ≡ word
word_same c n word = (λ i. (if n.depth i then c.depth else word % 2 ^ 24) + 2 ^ 24 * (if n.stencil i then c.stencil else word / 2 ^ 24)) ∙ kept
  where
    kept : word % 2 ^ 24 + 2 ^ 24 * (word / 2 ^ 24) ≡ word
    kept = omega arith

depth_same : (c : Clear) (n : ClearsNothing c) (o : Option ℕ) → cleared_depth c o ≡ o
depth_same c n None = refl
depth_same c n (Some word) = ap Some (word_same c n word)

cleared_same : (c : Clear) (n : ClearsNothing c) (p : Pixel) → cleared c p ≡ p
cleared_same c n p = λ i. record { color = color_same c n p.color i; depth = depth_same c n p.depth i }

tested_same : (b : Bool) (q p : Pixel) → q ≡ p → (if b then q else p) ≡ p
tested_same true q p e = e
tested_same false q p e = refl

-- ---- either

pub painted_after : (v w : View) (d : Draw) (b : Buffers) (o : Option Paint) (s : Surface) → ClearsBefore v w → clear_surface w (painted_in v d b o s) ≡ painted_in v d b o (clear_surface w s)
painted_after v w d b None s a = refl
painted_after v w d b (Some paint) s a = each_apart f g kf kg (λ x y p. one x y p a) s
  where
    rect : Rect
    rect = view_rect v.rect s.color.width s.color.height

    facings : List Facing
    facings = filter_map (placed_facing v rect d) (triangles_of (primitive_of d.state) (draw_vertices (vertices_at b d.vertices) (indices_at b d.indices)))

    f : ℕ → ℕ → Pixel → Pixel
    f x y p = if is_in_cut v rect d x y then fold (after_facing d paint x y) p facings else p

    g : ℕ → ℕ → Pixel → Pixel
    g x y p = if contains (view_rect w.rect s.color.width s.color.height) x y then cleared w.clear p else p

    kf : Keeps f
    kf x y p o h = tested_keeps (is_in_cut v rect d x y) (fold (after_facing d paint x y) p facings) p o (facings_keep d.state paint x y p facings o h) h

    kg : Keeps g
    kg x y p o h = tested_keeps (contains (view_rect w.rect s.color.width s.color.height) x y) (cleared w.clear p) p o (clear_keeps w.clear p o h) h

    -- a clear of nothing leaves each pixel
    left : ClearsNothing w.clear → (x y : ℕ) (p : Pixel) → g x y p ≡ p
    left n x y p = tested_same (contains (view_rect w.rect s.color.width s.color.height) x y) (cleared w.clear p) p (cleared_same w.clear n p)

    one : (x y : ℕ) (p : Pixel) → ClearsBefore v w → g x y (f x y p) ≡ f x y (g x y p)
    one x y p (inl apart) =
        tested_apart (is_in_cut v rect d x y) (contains (view_rect w.rect s.color.width s.color.height) x y) (λ q. fold (after_facing d paint x y) q facings) (cleared w.clear) p
        (cut_apart (contains rect x y) (passes_scissor v.scissor x y) (passes_scissor d.scissor x y) (contains (view_rect w.rect s.color.width s.color.height) x y)
        (apart s.color.width s.color.height x y))
    one x y p (inr n) = left n x y (f x y p) ∙ ap (f x y) (sym (left n x y p))
