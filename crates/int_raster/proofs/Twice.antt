-- A colour and a depth that are stored twice.
use Rattle.std.proofs.Common.{◌≡◌, ◌≤◌, ◌+◌, ◌*◌, ◌/◌, ◌%◌, ◌^◌, ℕ, Bool, true, false, not, ◌||◌, if◌then◌else◌, Option, None, Some, List, refl, ap, sym, ◌∙◌, arith}
use Rattle.gfx_model.specs.Number.{map_from}
use Rattle.gfx_model.specs.Vertex.{Color}
use Rattle.gfx_model.specs.Words.{depth_test_of, writes_depth}
use Rattle.gfx_model.specs.Pixel.{Pixel, passes_depth, stored_color, step_by_depth, pixel_step}
use Rattle.gfx_model.proofs.PixelLaws.{map_from-map_from}
use Rattle.tri_cover.specs.declared.triangles.Setup.{Setup}
use Rattle.int_raster.specs.declared.lists.Prepared.{Prepared}
use Rattle.int_raster.specs.declared.opaque.Level.{Level}
use Rattle.int_raster.specs.Joined.{either}
use Rattle.int_raster.specs.Painted.{IsOpaque, bytes_of}
use Rattle.int_raster.specs.Places.{by_place, below, where_test}
use Rattle.int_raster.specs.Rules.{IsLevel}
use Rattle.int_raster.specs.Seen.{step_seen}
use Rattle.int_raster.proofs.Along.{stored_opaque}
use Rattle.int_raster.proofs.Changes.{map_from-same}
use Rattle.int_raster.proofs.Tested.{made}

-- ---- one pixel

by_test : (pass : Bool) (new other : Color) (b d s v : ℕ) → other ≡ new → b ≡ d → d + s ≡ v → (if not pass then made new (d + s) else made other (b + s)) ≡ made new v
by_test true new other b d s v eo eb ev = (λ i. made (eo i) (eb i + s)) ∙ ap (made new) ev
by_test false new other b d s v eo eb ev = ap (made new) ev

-- a pixel that has the colour and the depth stays
settled : (state depth v : ℕ) (c new : Color) → IsOpaque state → bytes_of c ≡ new → (if writes_depth state then depth else v % 2 ^ 24) ≡ v % 2 ^ 24 →
    pixel_step (made new v) (record { color = c; depth = depth }) state 0 ≡ made new v
settled state depth v c new h en ev =
    by_test (passes_depth (depth_test_of state) depth (v % 2 ^ 24)) new (stored_color state c new) (if writes_depth state then depth else v % 2 ^ 24) (v % 2 ^ 24) (2 ^ 24 * (v / 2 ^ 24)) v
    (sym (stored_opaque state c new h) ∙ en) ev (omega arith)

kept_part : (writes : Bool) (depth w v : ℕ) → depth ≤ 16777215 → v ≡ (if writes then depth else w % 2 ^ 24) + 2 ^ 24 * (w / 2 ^ 24) → (if writes then depth else v % 2 ^ 24) ≡ v % 2 ^ 24
kept_part true depth w v h e = omega (arith, h, e)
kept_part false depth w v h e = refl

abbrev Twice : (state depth : ℕ) (c : Color) → Pixel → Type 0
Twice state depth c p = pixel_step p (record { color = c; depth = depth }) state 0 ≡ p

-- the pixel after one more step, whether the first one passed
after_step : (pass : Bool) (state depth w : ℕ) (c old : Color) → passes_depth (depth_test_of state) depth (w % 2 ^ 24) ≡ pass → IsOpaque state → depth ≤ 16777215 →
    Twice state depth c (if not pass then made old (w % 2 ^ 24 + 2 ^ 24 * (w / 2 ^ 24)) else made (stored_color state c old) ((if writes_depth state then depth else w % 2 ^ 24) + 2 ^ 24 * (w / 2 ^ 24)))
after_step true state depth w c old e h few =
    settled state depth ((if writes_depth state then depth else w % 2 ^ 24) + 2 ^ 24 * (w / 2 ^ 24)) c (stored_color state c old) h (stored_opaque state c old h)
    (kept_part (writes_depth state) depth w ((if writes_depth state then depth else w % 2 ^ 24) + 2 ^ 24 * (w / 2 ^ 24)) few refl)
after_step false state depth w c old e h few =
    let same : w % 2 ^ 24 + 2 ^ 24 * (w / 2 ^ 24) ≡ w = omega arith in
    ap (λ v. pixel_step (made old v) (record { color = c; depth = depth }) state 0) same
    ∙ (λ i. if not (e i) then made old (w % 2 ^ 24 + 2 ^ 24 * (w / 2 ^ 24)) else made (stored_color state c old) ((if writes_depth state then depth else w % 2 ^ 24) + 2 ^ 24 * (w / 2 ^ 24)))

flat_twice : (state depth : ℕ) (c old : Color) → IsOpaque state → stored_color state c (stored_color state c old) ≡ stored_color state c old
flat_twice state depth c old h = sym (stored_opaque state c (stored_color state c old) h) ∙ stored_opaque state c old h

step_twice : (state depth : ℕ) (c old : Color) (z : Option ℕ) → IsOpaque state → depth ≤ 16777215 → Twice state depth c (step_by_depth old z (record { color = c; depth = depth }) state 0)
step_twice state depth c old None h few = ap (λ n. record { color = n; depth = None }) (flat_twice state depth c old h)
step_twice state depth c old (Some w) h few = after_step (passes_depth (depth_test_of state) depth (w % 2 ^ 24)) state depth w c old refl h few

-- ---- triangles of one colour and one depth

-- what such a triangle does to a pixel
level_step : (l : Level) (d : Prepared) (s : Setup) (x y : ℕ) (p : Pixel) → IsLevel l d s → step_seen d s x y p ≡ pixel_step p (record { color = l.color; depth = l.depth }) d.state 0
level_step l d s x y p h = λ i. pixel_step p (record { color = sym (h.paints x y) i; depth = sym (h.depths x y) i }) d.state (h.plain.plain i)

-- two such triangles do the same to a pixel
pub same_step : (l : Level) (d : Prepared) (s t : Setup) (x y : ℕ) (p : Pixel) → IsLevel l d s → IsLevel l d t → step_seen d t x y p ≡ step_seen d s x y p
same_step l d s t x y p h k = level_step l d t x y p k ∙ sym (level_step l d s x y p h)

-- the second time such a triangle changes nothing
pub stored_twice : (l : Level) (d : Prepared) (s : Setup) (x y : ℕ) (p : Pixel) → IsLevel l d s → step_seen d s x y (step_seen d s x y p) ≡ step_seen d s x y p
stored_twice l d s x y p h =
    let once = level_step l d s x y p h in
    ap (step_seen d s x y) once
    ∙ level_step l d s x y (pixel_step p (record { color = l.color; depth = l.depth }) d.state 0) h
    ∙ step_twice d.state l.depth l.color p.color p.depth h.plain.opaque h.few
    ∙ sym once

-- ---- two triangles on a band

two_tests : {A : Type 0} (p q : Bool) (f g : A → A) (u : A) → ((v : A) → g v ≡ f v) → f (f u) ≡ f u → (if q then g (if p then f u else u) else (if p then f u else u)) ≡ (if p || q then f u else u)
two_tests true true f g u same twice = same (f u) ∙ twice
two_tests true false f g u same twice = refl
two_tests false true f g u same twice = same u
two_tests false false f g u same twice = refl

-- two changes that do the same, and nothing more the second time, are one where either of their tests holds
pub either_once : {A : Type 0} (p q : ℕ → ℕ → Bool) (f g : ℕ → ℕ → A → A) (w top : ℕ) (xs : List A) → ((x y : ℕ) (u : A) → g x y u ≡ f x y u) → ((x y : ℕ) (u : A) → f x y (f x y u) ≡ f x y u) →
    map_from (by_place w (below top (where_test (either p q) f))) 0 xs ≡ map_from (by_place w (below top (where_test q g))) 0 (map_from (by_place w (below top (where_test p f))) 0 xs)
either_once p q f g w top xs same twice =
    sym (map_from-map_from (by_place w (below top (where_test p f))) (by_place w (below top (where_test q g))) 0 xs
    ∙ map_from-same (λ i u. by_place w (below top (where_test q g)) i (by_place w (below top (where_test p f)) i u)) (by_place w (below top (where_test (either p q) f))) xs
    (λ i u b. let x = i % w in let y = top + i / w in two_tests (p x y) (q x y) (f x y) (g x y) u (same x y) (twice x y u)))
