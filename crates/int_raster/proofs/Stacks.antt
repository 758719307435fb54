-- Bands that stand one below the other, and bands that are whole surfaces.
use Rattle.std.proofs.Common.{◌≡◌, ℕ, ◌+◌, ◌*◌, ◌/◌, ◌%◌, ◌<◌, Some, None, List, [], ◌∷◌, ◌++◌, length, map, fold, refl, ap, sym, ◌∙◌, arith}
use Rattle.std.proofs.lemmas.List.{length-map, map-append}
use Rattle.std.proofs.Math.Nat.{mul-add-div, mul-add-mod_self_left}
use Rattle.gfx_model.specs.Number.{map_from, u32_at}
use Rattle.gfx_model.specs.Vertex.{Color}
use Rattle.gfx_model.specs.Pixel.{Pixel}
use Rattle.gfx_model.specs.World.{Surface, depth_bytes, on_each_pixel}
use Rattle.gfx_model.proofs.PixelLaws.{map_from-append}
use Rattle.int_raster.specs.Drawing.{PreparedDraw, prepared_step, drawn_prepared}
use Rattle.int_raster.specs.Wiping.{Wiping, wiped_step, wiped}
use Rattle.int_raster.specs.Places.{flat_pixel, flat_pixels, deep_pixels, by_place, below}
use Rattle.int_raster.specs.Bands.{Deep, deep, flat_after, deep_after, flat_made, deep_made, flat_drawn, deep_drawn, flat_wiped, deep_wiped}
use Rattle.int_raster.proofs.Changes.{map_from-same_at, length-map_from}
use Rattle.int_raster.proofs.Along.{length-deep}

-- the rows from one on, changed as a part of the band, are changed as a band of their own

later_rows : {A : Type 0} (f : ℕ → ℕ → A → A) (w top n m : ℕ) (xs : List A) → 0 < w → m ≡ w * n → map_from (by_place w (below top f)) m xs ≡ map_from (by_place w (below (top + n) f)) 0 xs
later_rows f w top n m xs pw e =
    map_from-same_at (by_place w (below top f)) (by_place w (below (top + n) f)) m 0 xs
    (λ k v b.
    let place : m + k ≡ w * n + k = ap (λ j. j + k) e in
    let column : (m + k) % w ≡ (0 + k) % w = ap (λ j. j % w) place ∙ mul-add-mod_self_left w n k ∙ ap (λ j. j % w) (omega arith) in
    let row : (m + k) / w ≡ n + (0 + k) / w = ap (λ j. j / w) place ∙ mul-add-div pw n k ∙ ap (λ j. n + j / w) (omega arith) in
    let rows : top + (n + (0 + k) / w) ≡ top + n + (0 + k) / w = omega arith in
    (λ i. f (column i) (top + row i) v) ∙ ap (λ j. f ((0 + k) % w) j v) rows)

pixels_in_two : (f : ℕ → ℕ → Pixel → Pixel) (w top n : ℕ) (xs ys : List Pixel) → 0 < w → length xs ≡ w * n →
    map_from (by_place w (below top f)) 0 (xs ++ ys) ≡ map_from (by_place w (below top f)) 0 xs ++ map_from (by_place w (below (top + n) f)) 0 ys
pixels_in_two f w top n xs ys pw e =
    let next : 0 + length xs ≡ w * n = omega (arith, e) in
    map_from-append (by_place w (below top f)) 0 xs ys
    ∙ ap (λ zs. map_from (by_place w (below top f)) 0 xs ++ zs) (later_rows f w top n (0 + length xs) ys pw next)

-- ---- without depth

length_flat : (w : ℕ) (f : ℕ → ℕ → Pixel → Pixel) (cs : List Color) → length (flat_after w f cs) ≡ length cs
length_flat w f cs =
    length-map (map_from (by_place w f) 0 (flat_pixels cs)) (λ p. p.color) ∙ length-map_from (by_place w f) 0 (flat_pixels cs) ∙ length-map cs flat_pixel

flat_in_two : (f : ℕ → ℕ → Pixel → Pixel) (w top n : ℕ) (a b : List Color) → 0 < w → length a ≡ w * n →
    flat_after w (below top f) (a ++ b) ≡ flat_after w (below top f) a ++ flat_after w (below (top + n) f) b
flat_in_two f w top n a b pw e =
    ap (λ ps. map (λ p. p.color) (map_from (by_place w (below top f)) 0 ps)) (map-append flat_pixel a b)
    ∙ ap (map (λ p. p.color)) (pixels_in_two f w top n (flat_pixels a) (flat_pixels b) pw (length-map a flat_pixel ∙ e))
    ∙ map-append (λ p. p.color) (map_from (by_place w (below top f)) 0 (flat_pixels a)) (map_from (by_place w (below (top + n) f)) 0 (flat_pixels b))

-- what steps make of a band is what they make of its two parts
pub flat_stack : {D : Type 0} (step : D → ℕ → ℕ → Pixel → Pixel) (w top n : ℕ) (a b : List Color) (ds : List D) → 0 < w → length a ≡ w * n →
    flat_made step w top (a ++ b) ds ≡ flat_made step w top a ds ++ flat_made step w (top + n) b ds
flat_stack step w top n a b [] pw e = refl
flat_stack step w top n a b (d ∷ ds) pw e =
    ap (λ cs. flat_made step w top cs ds) (flat_in_two (step d) w top n a b pw e)
    ∙ flat_stack step w top n (flat_after w (below top (step d)) a) (flat_after w (below (top + n) (step d)) b) ds pw (length_flat w (below top (step d)) a ∙ e)

-- steps keep the length of a band
pub length_made : {D : Type 0} (step : D → ℕ → ℕ → Pixel → Pixel) (w top : ℕ) (a : List Color) (ds : List D) → length (flat_made step w top a ds) ≡ length a
length_made step w top a [] = refl
length_made step w top a (d ∷ ds) = length_made step w top (flat_after w (below top (step d)) a) ds ∙ length_flat w (below top (step d)) a

-- ---- with depth

abbrev pub stack : Deep → Deep → Deep
stack s t = deep (s.colors ++ t.colors) (s.depths ++ t.depths)

deep-append : (a b y z : List Color) → length y ≡ length a → deep_pixels (a ++ b) (y ++ z) ≡ deep_pixels a y ++ deep_pixels b z
deep-append [] b [] z e = refl
deep-append [] b (q ∷ y) z e = cc
deep-append (c ∷ a) b [] z e = cc
deep-append (c ∷ a) b (q ∷ y) z e = ap (λ ps. record { color = c; depth = Some (u32_at q 0) } ∷ ps) (deep-append a b y z (omega (arith, e)))

deep_lengths : (w : ℕ) (f : ℕ → ℕ → Pixel → Pixel) (s : Deep) → length s.depths ≡ length s.colors → (length (deep_after w f s).colors ≡ length s.colors) × (length (deep_after w f s).depths ≡ length s.colors)
deep_lengths w f s e =
    let pixels = map_from (by_place w f) 0 (deep_pixels s.colors s.depths) in
    let all : length pixels ≡ length s.colors = length-map_from (by_place w f) 0 (deep_pixels s.colors s.depths) ∙ length-deep s.colors s.depths e in
    (length-map pixels (λ p. p.color) ∙ all, length-map pixels (λ p. depth_bytes p.depth) ∙ all)

deep_in_two : (f : ℕ → ℕ → Pixel → Pixel) (w top n : ℕ) (s t : Deep) → 0 < w → length s.colors ≡ w * n → length s.depths ≡ length s.colors →
    deep_after w (below top f) (stack s t) ≡ stack (deep_after w (below top f) s) (deep_after w (below (top + n) f) t)
deep_in_two f w top n s t pw e l =
    let up = map_from (by_place w (below top f)) 0 (deep_pixels s.colors s.depths) in
    let low = map_from (by_place w (below (top + n) f)) 0 (deep_pixels t.colors t.depths) in
    let pixels : map_from (by_place w (below top f)) 0 (deep_pixels (s.colors ++ t.colors) (s.depths ++ t.depths)) ≡ up ++ low =
    ap (map_from (by_place w (below top f)) 0) (deep-append s.colors t.colors s.depths t.depths l)
    ∙ pixels_in_two f w top n (deep_pixels s.colors s.depths) (deep_pixels t.colors t.depths) pw (length-deep s.colors s.depths l ∙ e) in
    (λ i. deep (map (λ p. p.color) (pixels i)) (map (λ p. depth_bytes p.depth) (pixels i)))
    ∙ (λ i. deep (map-append (λ p. p.color) up low i) (map-append (λ p. depth_bytes p.depth) up low i))

pub deep_stack : {D : Type 0} (step : D → ℕ → ℕ → Pixel → Pixel) (w top n : ℕ) (s t : Deep) (ds : List D) → 0 < w → length s.colors ≡ w * n → length s.depths ≡ length s.colors →
    deep_made step w top (stack s t) ds ≡ stack (deep_made step w top s ds) (deep_made step w (top + n) t ds)
deep_stack step w top n s t [] pw e l = refl
deep_stack step w top n s t (d ∷ ds) pw e l =
    let lengths = deep_lengths w (below top (step d)) s l in
    ap (λ b. deep_made step w top b ds) (deep_in_two (step d) w top n s t pw e l)
    ∙ deep_stack step w top n (deep_after w (below top (step d)) s) (deep_after w (below (top + n) (step d)) t) ds pw (lengths.0 ∙ e) (lengths.1 ∙ sym lengths.0)

-- steps keep the lengths of a band
pub lengths_made : {D : Type 0} (step : D → ℕ → ℕ → Pixel → Pixel) (w top : ℕ) (s : Deep) (ds : List D) → length s.depths ≡ length s.colors →
    (length (deep_made step w top s ds).colors ≡ length s.colors) × (length (deep_made step w top s ds).depths ≡ length s.colors)
lengths_made step w top s [] e = (refl, e)
lengths_made step w top s (d ∷ ds) e =
    let lengths = deep_lengths w (below top (step d)) s e in
    let rest = lengths_made step w top (deep_after w (below top (step d)) s) ds (lengths.1 ∙ sym lengths.0) in
    (rest.0 ∙ lengths.0, rest.1 ∙ lengths.0)

-- ---- whole surfaces

from_the_top : (f : ℕ → ℕ → Pixel → Pixel) → f ≡ below 0 f
from_the_top f = (λ i x y p. let row : y ≡ 0 + y = omega arith in f x (row i) p)

-- a surface whose pixels are changed, step after step
abbrev pub surface_made : {D : Type 0} → (D → ℕ → ℕ → Pixel → Pixel) → Surface → List D → Surface
surface_made step s ds = fold (λ x d. on_each_pixel (step d) x) s ds

flat_steps : {D : Type 0} (step : D → ℕ → ℕ → Pixel → Pixel) (w h : ℕ) (cs : List Color) (ds : List D) →
    surface_made step (record { color = record { width = w; height = h; texels = cs }; depth = None }) ds
    ≡ record { color = record { width = w; height = h; texels = flat_made step w 0 cs ds }; depth = None }
flat_steps step w h cs [] = refl
flat_steps step w h cs (d ∷ ds) =
    flat_steps step w h (flat_after w (step d) cs) ds
    ∙ (λ i. record { color = record { width = w; height = h; texels = flat_made step w 0 (flat_after w (from_the_top (step d) i) cs) ds }; depth = None })

deep_steps : {D : Type 0} (step : D → ℕ → ℕ → Pixel → Pixel) (w h v k : ℕ) (b : Deep) (ds : List D) →
    surface_made step (record { color = record { width = w; height = h; texels = b.colors }; depth = Some (record { width = v; height = k; texels = b.depths }) }) ds
    ≡ record { color = record { width = w; height = h; texels = (deep_made step w 0 b ds).colors }; depth = Some (record { width = v; height = k; texels = (deep_made step w 0 b ds).depths }) }
deep_steps step w h v k b [] = refl
deep_steps step w h v k b (d ∷ ds) =
    deep_steps step w h v k (deep_after w (step d) b) ds
    ∙ (λ i. let s = deep_made step w 0 (deep_after w (from_the_top (step d) i) b) ds in record { color = record { width = w; height = h; texels = s.colors }; depth = Some (record { width = v; height = k; texels = s.depths }) })

-- draws on a whole surface
pub flat_surface : (w h : ℕ) (cs : List Color) (ds : List PreparedDraw) →
    fold drawn_prepared (record { color = record { width = w; height = h; texels = cs }; depth = None }) ds
    ≡ record { color = record { width = w; height = h; texels = flat_drawn w 0 cs ds }; depth = None }
flat_surface w h cs ds = flat_steps prepared_step w h cs ds

pub deep_surface : (w h v k : ℕ) (b : Deep) (ds : List PreparedDraw) →
    fold drawn_prepared (record { color = record { width = w; height = h; texels = b.colors }; depth = Some (record { width = v; height = k; texels = b.depths }) }) ds
    ≡ record { color = record { width = w; height = h; texels = (deep_drawn w 0 b ds).colors }; depth = Some (record { width = v; height = k; texels = (deep_drawn w 0 b ds).depths }) }
deep_surface w h v k b ds = deep_steps prepared_step w h v k b ds

-- wipes, and draws after them, on a whole surface
pub flat_whole : (w h : ℕ) (cs : List Color) (ws : List Wiping) (ds : List PreparedDraw) →
    fold drawn_prepared (fold wiped (record { color = record { width = w; height = h; texels = cs }; depth = None }) ws) ds
    ≡ record { color = record { width = w; height = h; texels = flat_drawn w 0 (flat_wiped w 0 cs ws) ds }; depth = None }
flat_whole w h cs ws ds =
    ap (λ s. fold drawn_prepared s ds) (flat_steps wiped_step w h cs ws) ∙ flat_surface w h (flat_wiped w 0 cs ws) ds

pub deep_whole : (w h v k : ℕ) (b : Deep) (ws : List Wiping) (ds : List PreparedDraw) →
    fold drawn_prepared (fold wiped (record { color = record { width = w; height = h; texels = b.colors }; depth = Some (record { width = v; height = k; texels = b.depths }) }) ws) ds
    ≡ record { color = record { width = w; height = h; texels = (deep_drawn w 0 (deep_wiped w 0 b ws) ds).colors }; depth = Some (record { width = v; height = k; texels = (deep_drawn w 0 (deep_wiped w 0 b ws) ds).depths }) }
deep_whole w h v k b ws ds =
    ap (λ s. fold drawn_prepared s ds) (deep_steps wiped_step w h v k b ws) ∙ deep_surface w h v k (deep_wiped w 0 b ws) ds

-- ---- two parts that were changed apart

pub flat_wiped_joined : (w top n : ℕ) (u v r t : ℕ) (a b cs : List Color) (ws : List Wiping) (ds : List PreparedDraw) {x y : List Color} →
    x ≡ flat_drawn u r (flat_wiped u r a ws) ds → y ≡ flat_drawn v t (flat_wiped v t b ws) ds → u ≡ w → v ≡ w → r ≡ top → t ≡ top + n → a ++ b ≡ cs → 0 < w → length a ≡ w * n →
    x ++ y ≡ flat_drawn w top (flat_wiped w top cs ws) ds
flat_wiped_joined w top n u v r t a b cs ws ds front back eu ev er et whole pw l =
    (λ i. front i ++ back i)
    ∙ (λ i. flat_drawn (eu i) (er i) (flat_wiped (eu i) (er i) a ws) ds ++ flat_drawn (ev i) (et i) (flat_wiped (ev i) (et i) b ws) ds)
    ∙ sym (flat_stack prepared_step w top n (flat_wiped w top a ws) (flat_wiped w (top + n) b ws) ds pw (length_made wiped_step w top a ws ∙ l))
    ∙ ap (λ ps. flat_drawn w top ps ds) (sym (flat_stack wiped_step w top n a b ws pw l) ∙ ap (λ ps. flat_wiped w top ps ws) whole)

pub deep_wiped_joined : (w top n : ℕ) (u v r t : ℕ) (s p : Deep) (cs zs : List Color) (ws : List Wiping) (ds : List PreparedDraw) {x y z q : List Color} →
    deep x z ≡ deep_drawn u r (deep_wiped u r s ws) ds → deep y q ≡ deep_drawn v t (deep_wiped v t p ws) ds → u ≡ w → v ≡ w → r ≡ top → t ≡ top + n → s.colors ++ p.colors ≡ cs → s.depths ++ p.depths ≡ zs → 0 < w → length s.colors ≡ w * n → length s.depths ≡ length s.colors →
    deep (x ++ y) (z ++ q) ≡ deep_drawn w top (deep_wiped w top (deep cs zs) ws) ds
deep_wiped_joined w top n u v r t s p cs zs ws ds front back eu ev er et whole deeps pw l same =
    let lengths = lengths_made wiped_step w top s ws same in
    (λ i. stack (front i) (back i))
    ∙ (λ i. stack (deep_drawn (eu i) (er i) (deep_wiped (eu i) (er i) s ws) ds) (deep_drawn (ev i) (et i) (deep_wiped (ev i) (et i) p ws) ds))
    ∙ sym (deep_stack prepared_step w top n (deep_wiped w top s ws) (deep_wiped w (top + n) p ws) ds pw (lengths.0 ∙ l) (lengths.1 ∙ sym lengths.0))
    ∙ ap (λ b. deep_drawn w top b ds) (sym (deep_stack wiped_step w top n s p ws pw l same) ∙ (λ i. deep_wiped w top (deep (whole i) (deeps i)) ws))

-- the same without wipes
pub flat_joined : (w top n : ℕ) (u v r t : ℕ) (a b cs : List Color) (ds : List PreparedDraw) {x y : List Color} →
    x ≡ flat_drawn u r a ds → y ≡ flat_drawn v t b ds → u ≡ w → v ≡ w → r ≡ top → t ≡ top + n → a ++ b ≡ cs → 0 < w → length a ≡ w * n →
    x ++ y ≡ flat_drawn w top cs ds
flat_joined w top n u v r t a b cs ds front back eu ev er et whole pw l = flat_wiped_joined w top n u v r t a b cs [] ds front back eu ev er et whole pw l

pub deep_joined : (w top n : ℕ) (u v r t : ℕ) (s p : Deep) (cs zs : List Color) (ds : List PreparedDraw) {x y z q : List Color} →
    deep x z ≡ deep_drawn u r s ds → deep y q ≡ deep_drawn v t p ds → u ≡ w → v ≡ w → r ≡ top → t ≡ top + n → s.colors ++ p.colors ≡ cs → s.depths ++ p.depths ≡ zs → 0 < w → length s.colors ≡ w * n → length s.depths ≡ length s.colors →
    deep (x ++ y) (z ++ q) ≡ deep_drawn w top (deep cs zs) ds
deep_joined w top n u v r t s p cs zs ds front back eu ev er et whole deeps pw l same = deep_wiped_joined w top n u v r t s p cs zs [] ds front back eu ev er et whole deeps pw l same
