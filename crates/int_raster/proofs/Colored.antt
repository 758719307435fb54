-- Changes of colours alone are changes of pixels.
use Rattle.std.proofs.Common.{◌≡◌, ℕ, ◌+◌, ◌-◌, ◌*◌, ◌&&◌, nat_le, nat_lt, ◌/◌, ◌%◌, ◌^◌, Bool, true, false, if◌then◌else◌, List, [], ◌∷◌, length, refl, sym, arith}
use Rattle.gfx_model.specs.Number.{map_from, u32_at}
use Rattle.gfx_model.specs.Vertex.{Color}
use Rattle.gfx_model.specs.Pixel.{Pixel}
use Rattle.gfx_model.specs.Raster.{fragment_at}
use Rattle.gfx_model.specs.World.{painted}
use Rattle.fix_math.specs.Seen.{rect_seen}
use Rattle.tri_cover.specs.Shown.{setup_seen}
use Rattle.tri_cover.specs.declared.triangles.Setup.{Setup}
use Rattle.int_raster.specs.declared.lists.Prepared.{Prepared}
use Rattle.int_raster.specs.declared.opaque.Rule.{Rule}
use Rattle.int_raster.specs.Places.{flat_pixel, flat_pixels, deep_pixel, deep_pixels, by_place, below, spanned, in_row, is_drawn}
use Rattle.int_raster.specs.Rules.{IsRule, IsOver, IsFree}
use Rattle.int_raster.specs.Seen.{paint_seen, facing_seen, step_seen, change_seen, color_seen, color_change}
use Rattle.int_raster.proofs.Tested.{deep_after, kept_is, over_passes}

flat_if : (b : Bool) (u v : Color) → flat_pixel (if b then u else v) ≡ (if b then flat_pixel u else flat_pixel v)
flat_if true u v = refl
flat_if false u v = refl

-- on a surface without depth
pub flat_colored : (d : Prepared) (s : Setup) (w top n : ℕ) (cs : List Color) →
    flat_pixels (map_from (by_place w (below top (color_change d s))) n cs) ≡ map_from (by_place w (below top (change_seen d s))) n (flat_pixels cs)
flat_colored d s w top n [] = refl
flat_colored d s w top n (c ∷ cs) =
    let x = n % w in
    let y = top + n / w in
    (λ i. flat_if (is_drawn (rect_seen d.cut) (facing_seen d s) x y) (color_seen d s x y c) c i ∷ flat_colored d s w top (n + 1) cs i)

deep_if : (b : Bool) (u v z : Color) (p : Pixel) → deep_pixel u z ≡ p → deep_pixel (if b then u else v) z ≡ (if b then p else deep_pixel v z)
deep_if true u v z p e = e
deep_if false u v z p e = refl

-- on a surface with depth
pub deep_colored : (d : Prepared) (s : Setup) (w top n : ℕ) (cs zs : List Color) → IsFree d s → length zs ≡ length cs →
    deep_pixels (map_from (by_place w (below top (color_change d s))) n cs) zs ≡ map_from (by_place w (below top (change_seen d s))) n (deep_pixels cs zs)
deep_colored d s w top n [] zs free e = refl
deep_colored d s w top n (c ∷ cs) [] free e = cc
deep_colored d s w top n (c ∷ cs) (z ∷ zs) free e =
    let x = n % w in
    let y = top + n / w in
    (λ i. deep_if (is_drawn (rect_seen d.cut) (facing_seen d s) x y) (color_seen d s x y c) c z (step_seen d s x y (deep_pixel c z)) (free x y c z) i
    ∷ deep_colored d s w top (n + 1) cs zs free (omega (arith, e)) i)

-- in a span of a row
pub span_colored : (d : Prepared) (s : Setup) (start y first after n : ℕ) (cs zs : List Color) → IsFree d s → length zs ≡ length cs →
    deep_pixels (map_from (spanned (in_row start y (color_seen d s)) first after) n cs) zs ≡ map_from (spanned (in_row start y (step_seen d s)) first after) n (deep_pixels cs zs)
span_colored d s start y first after n [] zs free e = refl
span_colored d s start y first after n (c ∷ cs) [] free e = cc
span_colored d s start y first after n (c ∷ cs) (z ∷ zs) free e =
    let x = n - start in
    (λ i. deep_if (nat_le first n && nat_lt n after) (color_seen d s x y c) c z (step_seen d s x y (deep_pixel c z)) (free x y c z) i
    ∷ span_colored d s start y first after (n + 1) cs zs free (omega (arith, e)) i)

-- where every depth passes and none is stored
pub free_where : (r : Rule) (d : Prepared) (s : Setup) → IsRule r d.state → IsOver r → (facing_seen d s).stencil ≡ 0 → IsFree d s
free_where r d s rule over plain x y c z =
    let word = u32_at z 0 in
    let fragment = fragment_at (setup_seen s).triangle x y in
    let color = painted (paint_seen d.paint) fragment in
    let kept : word ≡ word % 2 ^ 24 + 2 ^ 24 * (word / 2 ^ 24) = omega arith in
    deep_after d s x y word word fragment.depth color c (color_seen d s x y c) z z plain refl refl refl refl
    (kept_is r d.state word fragment.depth word c color (color_seen d s x y c) true false rule (over_passes r fragment.depth (word % 2 ^ 24) over) (sym over.writes) refl kept)
