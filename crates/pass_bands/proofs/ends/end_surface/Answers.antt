use Rattle.std.proofs.Common.{◌≡◌, None, Some, option_map, fold, ap, sym, ◌∙◌}
use Rattle.fix_math.specs.Lending.{refilled}
use Rattle.fix_math.specs.Seen.{texels_seen}
use Rattle.int_raster.specs.Drawing.{drawn_prepared}
use Rattle.int_raster.specs.Bands.{deep, flat_drawn, deep_drawn}
use Rattle.int_raster.proofs.Wholes.{refill}
use Rattle.int_raster.proofs.Stacks.{flat_surface, deep_surface}
use Rattle.pass_bands.specs.Drawn.{work_seen}
use Rattle.pass_bands.proofs.ends.end_surface.Goals as goal

pub returns-in-None-clause-drawn : goal.returns-in-None-clause-drawn
returns-in-None-clause-drawn c =
    let s = c.args.surface.now in
    let w = s.color.width in
    let h = s.color.height in
    let old = s.color.texels in
    let new = c.end_flat.new.colors in
    let ds = work_seen c.args.work.now in
    let none : c.args.surface.now.depth ≡ None = c.in-None.is in
    let lent : c.as_mut_slice-colors.result.now ≡ c.args.surface.now.color.texels = c.as_mut_slice-colors.ensures.value in
    let back : refilled old new ≡ new = refill old new (rw lent at c.end_flat.auto.colors) in
    let drawn : new ≡ flat_drawn w 0 old ds = rw (lent, c.new-rows.ensures.width, c.new-rows.ensures.top) at c.end_flat.ensures in
    (λ i. record { color = record { width = w; height = h; texels = (back ∙ drawn) i }; depth = option_map texels_seen (none i) })
    ∙ sym (flat_surface w h old ds)
    ∙ sym (λ i. fold drawn_prepared (record { color = record { width = w; height = h; texels = old }; depth = option_map texels_seen (none i) }) ds)

pub returns-clause-drawn : goal.returns-clause-drawn
returns-clause-drawn c =
    let s = c.args.surface.now in
    let d = c.in-Some.depth in
    let w = s.color.width in
    let h = s.color.height in
    let old = s.color.texels in
    let new = c.end_deep.new.colors in
    let before = d.texels in
    let after = c.end_deep.new.depths in
    let ds = work_seen c.args.work.now in
    let some : c.args.surface.now.depth ≡ Some d = c.in-Some.is in
    let lent : c.as_mut_slice-colors.result.now ≡ c.args.surface.now.color.texels = c.as_mut_slice-colors.ensures.value in
    let lent_too : c.as_mut_slice.result.now ≡ c.in-Some.depth.texels = c.as_mut_slice.ensures.value in
    let back : refilled old new ≡ new = refill old new (rw lent at c.end_deep.auto.colors) in
    let back_deep : refilled before after ≡ after = refill before after (rw lent_too at c.end_deep.auto.depths) in
    let drawn : deep new after ≡ deep_drawn w 0 (deep old before) ds = rw (lent, lent_too, c.new-rows.ensures.width, c.new-rows.ensures.top) at c.end_deep.ensures in
    (λ i. record { color = record { width = w; height = h; texels = (back ∙ ap (λ b. b.colors) drawn) i }; depth = Some (record { width = d.width; height = d.height; texels = (back_deep ∙ ap (λ b. b.depths) drawn) i }) })
    ∙ sym (deep_surface w h d.width d.height (deep old before) ds)
    ∙ sym (λ i. fold drawn_prepared (record { color = record { width = w; height = h; texels = old }; depth = option_map texels_seen (some i) }) ds)
