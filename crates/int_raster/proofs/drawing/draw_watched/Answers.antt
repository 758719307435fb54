use Rattle.std.proofs.Common.{◌≡◌, None, Some, option_map, fold, ap, sym, ◌∙◌}
use Rattle.fix_math.specs.Lending.{refilled}
use Rattle.fix_math.specs.Seen.{texels_seen}
use Rattle.int_raster.specs.Drawing.{drawn_prepared}
use Rattle.int_raster.specs.Bands.{deep, flat_drawn, deep_drawn, flat_wiped, deep_wiped}
use Rattle.int_raster.specs.Wiping.{wiped, wipes_seen}
use Rattle.int_raster.proofs.Wholes.{refill}
use Rattle.int_raster.proofs.Stacks.{flat_whole, deep_whole}
use Rattle.int_raster.proofs.drawing.draw_watched.Goals as goal

pub returns-in-None-clause-drawn : goal.returns-in-None-clause-drawn
returns-in-None-clause-drawn g c =
    let s = c.args.surface.now in
    let w = s.color.width in
    let h = s.color.height in
    let old = s.color.texels in
    let new = c.flat_bands.new.colors in
    let ws = wipes_seen c.args.wipes.now in
    let ds = c.args.list.now in
    let none : c.args.surface.now.depth ≡ None = c.in-None.is in
    let lent : c.as_mut_slice-colors.result.now ≡ c.args.surface.now.color.texels = c.as_mut_slice-colors.ensures.value in
    let back : refilled old new ≡ new = refill old new (rw lent at c.flat_bands.auto.colors) in
    let drawn : new ≡ flat_drawn w 0 (flat_wiped w 0 old ws) ds = rw lent at c.flat_bands.ensures in
    (λ i. record { color = record { width = w; height = h; texels = (back ∙ drawn) i }; depth = option_map texels_seen (none i) })
    ∙ sym (flat_whole w h old ws ds)
    ∙ sym (λ i. fold drawn_prepared (fold wiped (record { color = record { width = w; height = h; texels = old }; depth = option_map texels_seen (none i) }) ws) ds)

pub returns-clause-drawn : goal.returns-clause-drawn
returns-clause-drawn g c =
    let s = c.args.surface.now in
    let d = c.in-Some.depth in
    let w = s.color.width in
    let h = s.color.height in
    let old = s.color.texels in
    let new = c.deep_bands.new.colors in
    let before = d.texels in
    let after = c.deep_bands.new.depths in
    let ws = wipes_seen c.args.wipes.now in
    let ds = c.args.list.now in
    let some : c.args.surface.now.depth ≡ Some d = c.in-Some.is in
    let lent : c.as_mut_slice-colors.result.now ≡ c.args.surface.now.color.texels = c.as_mut_slice-colors.ensures.value in
    let lent_too : c.as_mut_slice-depths.result.now ≡ c.in-Some.depth.texels = c.as_mut_slice-depths.ensures.value in
    let back : refilled old new ≡ new = refill old new (rw lent at c.deep_bands.auto.colors) in
    let back_deep : refilled before after ≡ after = refill before after (rw lent_too at c.deep_bands.auto.depths) in
    let drawn : deep new after ≡ deep_drawn w 0 (deep_wiped w 0 (deep old before) ws) ds = rw (lent, lent_too) at c.deep_bands.ensures in
    (λ i. record { color = record { width = w; height = h; texels = (back ∙ ap (λ b. b.colors) drawn) i }; depth = Some (record { width = d.width; height = d.height; texels = (back_deep ∙ ap (λ b. b.depths) drawn) i }) })
    ∙ sym (deep_whole w h d.width d.height (deep old before) ws ds)
    ∙ sym (λ i. fold drawn_prepared (fold wiped (record { color = record { width = w; height = h; texels = old }; depth = option_map texels_seen (some i) }) ws) ds)
