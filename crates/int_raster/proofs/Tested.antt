-- A draw without a stencil that stores all channels as they are painted.
use Rattle.std.proofs.Common.{◌≡◌, ℕ, ◌+◌, ◌*◌, ◌/◌, ◌%◌, ◌^◌, Bool, true, false, not, ◌&&◌, if◌then◌else◌, Some, refl, ap, sym, ◌∙◌}
use Rattle.std.specs.Prelude.{◌==◌, nat_lt}
use Rattle.gfx_model.specs.Vertex.{Color}
use Rattle.gfx_model.specs.Words.{depth_test_of, writes_depth}
use Rattle.gfx_model.specs.Pixel.{Pixel, passes_depth, stored_color, pixel_step}
use Rattle.int_raster.specs.declared.opaque.Rule.{Rule}
use Rattle.gfx_model.specs.Number.{u32_at}
use Rattle.gfx_model.specs.Raster.{fragment_at}
use Rattle.gfx_model.specs.World as world
use Rattle.tri_cover.specs.Shown.{setup_seen}
use Rattle.tri_cover.specs.declared.triangles.Setup.{Setup}
use Rattle.int_raster.specs.declared.lists.Prepared.{Prepared}
use Rattle.int_raster.specs.Seen.{paint_seen, facing_seen, step_seen}
use Rattle.int_raster.specs.Places.{deep_pixel}
use Rattle.int_raster.specs.Rules.{IsRule, IsOver, IsPlain, by_order}
use Rattle.int_raster.specs.Painted.{IsOpaque, bytes_of}
use Rattle.int_raster.proofs.Along.{stored_opaque}

abbrev pub made : Color → ℕ → Pixel
made c word = record { color = c; depth = Some word }

by_pass : (b w : Bool) (old new : Color) (depth d s : ℕ) →
    made (if b then new else old) ((if b && w then depth else d) + s) ≡ (if not b then made old (d + s) else made new ((if w then depth else d) + s))
by_pass true w old new depth d s = refl
by_pass false w old new depth d s = refl

-- what is stored where a colour is kept and a depth is tested
pub kept_is : (r : Rule) (state word depth kept : ℕ) (old color painted : Color) (pass both : Bool) → IsRule r state →
    pass ≡ by_order r depth (word % 2 ^ 24) → both ≡ (pass && r.writes) →
    painted ≡ (if pass then stored_color state color old else old) → kept ≡ (if both then depth else word % 2 ^ 24) + 2 ^ 24 * (word / 2 ^ 24) →
    made painted kept ≡ pixel_step (made old word) (record { color = color; depth = depth }) state 0
kept_is r state word depth kept old color painted pass both k hp hb hc hk =
    let d = word % 2 ^ 24 in
    let s = 2 ^ 24 * (word / 2 ^ 24) in
    let test : pass ≡ passes_depth (depth_test_of state) depth d = hp ∙ k.test depth d in
    let second : kept ≡ (if pass && writes_depth state then depth else d) + s = hk ∙ ap (λ b. (if b then depth else d) + s) (hb ∙ ap (λ b. pass && b) k.stores) in
    (λ i. made (hc i) (second i))
    ∙ by_pass pass (writes_depth state) old (stored_color state color old) depth d s
    ∙ (λ i. if not (test i) then made old (d + s) else made (stored_color state color old) ((if writes_depth state then depth else d) + s))

pub stored_is : (r : Rule) (state word depth kept : ℕ) (old color painted : Color) (pass both : Bool) → IsOpaque state → IsRule r state →
    pass ≡ by_order r depth (word % 2 ^ 24) → both ≡ (pass && r.writes) →
    painted ≡ (if pass then bytes_of color else old) → kept ≡ (if both then depth else word % 2 ^ 24) + 2 ^ 24 * (word / 2 ^ 24) →
    made painted kept ≡ pixel_step (made old word) (record { color = color; depth = depth }) state 0
stored_is r state word depth kept old color painted pass both h k hp hb hc hk =
    kept_is r state word depth kept old color painted pass both k hp hb (hc ∙ ap (λ c. if pass then c else old) (stored_opaque state color old h)) hk

-- what is stored at a covered pixel is the pixel after the triangle
pub deep_after : (d : Prepared) (t : Setup) (x y word kept depth : ℕ) (color old painted before z : Color) → (facing_seen d t).stencil ≡ 0 →
    word ≡ u32_at before 0 → u32_at z 0 ≡ kept →
    color ≡ world.painted (paint_seen d.paint) (fragment_at (setup_seen t).triangle x y) → depth ≡ (fragment_at (setup_seen t).triangle x y).depth →
    made painted kept ≡ pixel_step (made old word) (record { color = color; depth = depth }) d.state 0 →
    deep_pixel painted z ≡ step_seen d t x y (deep_pixel old before)
deep_after d t x y word kept depth color old painted before z plain hw hz hc hd e =
    ap (made painted) hz ∙ e ∙ (λ i. pixel_step (made old (hw i)) (record { color = hc i; depth = hd i }) d.state (sym plain i))

pub plain_deep : (r : Rule) (d : Prepared) (t : Setup) (x y word kept depth : ℕ) (color old painted before z : Color) → IsPlain r d t →
    word ≡ u32_at before 0 → u32_at z 0 ≡ kept →
    color ≡ world.painted (paint_seen d.paint) (fragment_at (setup_seen t).triangle x y) → depth ≡ (fragment_at (setup_seen t).triangle x y).depth →
    made painted kept ≡ pixel_step (made old word) (record { color = color; depth = depth }) d.state 0 →
    deep_pixel painted z ≡ step_seen d t x y (deep_pixel old before)
plain_deep r d t x y word kept depth color old painted before z h = deep_after d t x y word kept depth color old painted before z h.plain

-- the same where every depth passes and none is stored
pub over_passes : (r : Rule) (a b : ℕ) → IsOver r → true ≡ by_order r a b
over_passes r a b h = rw (h.less, h.equal, h.greater) (choice (nat_lt a b) (a == b))
  where
    choice : (p q : Bool) → true ≡ (if p then true else (if q then true else true))
    choice true q = refl
    choice false true = refl
    choice false false = refl

-- the same where any step is made
pub shaded_step : (d : Prepared) (t : Setup) (x y depth : ℕ) (color : Color) (p q : Pixel) →
    color ≡ world.painted (paint_seen d.paint) (fragment_at (setup_seen t).triangle x y) → depth ≡ (fragment_at (setup_seen t).triangle x y).depth →
    q ≡ pixel_step p (record { color = color; depth = depth }) d.state (facing_seen d t).stencil → q ≡ step_seen d t x y p
shaded_step d t x y depth color p q hc hd e = e ∙ (λ i. pixel_step p (record { color = hc i; depth = hd i }) d.state (facing_seen d t).stencil)
