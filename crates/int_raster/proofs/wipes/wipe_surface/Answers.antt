use Rattle.std.proofs.Common.{◌≡◌, [], ◌∷◌, None, Some, option_map, ap, sym, ◌∙◌}
use Rattle.fix_math.specs.Lending.{refilled}
use Rattle.fix_math.specs.Seen.{texels_seen}
use Rattle.int_raster.specs.Bands.{deep, flat_wiped, deep_wiped}
use Rattle.int_raster.specs.Wiping.{wipe_seen, wiped}
use Rattle.int_raster.proofs.Wholes.{refill}
use Rattle.int_raster.proofs.Stacks.{flat_whole, deep_whole}
use Rattle.int_raster.proofs.wipes.wipe_surface.Goals as goal

pub returns-in-None-clause-wiped : goal.returns-in-None-clause-wiped
returns-in-None-clause-wiped c =
    let s = c.args.surface.now in
    let w = s.color.width in
    let h = s.color.height in
    let old = s.color.texels in
    let new = c.wipe_flat.new.colors in
    let made = wipe_seen c.args.wipe.now in
    let none : c.args.surface.now.depth ≡ None = c.in-None.is in
    let lent : c.as_mut_slice-colors.result.now ≡ c.args.surface.now.color.texels = c.as_mut_slice-colors.ensures.value in
    let back : refilled old new ≡ new = refill old new (rw lent at c.wipe_flat.auto.colors) in
    let done : new ≡ flat_wiped w 0 old (made ∷ []) = rw lent at c.wipe_flat.ensures in
    (λ i. record { color = record { width = w; height = h; texels = (back ∙ done) i }; depth = option_map texels_seen (none i) })
    ∙ sym (flat_whole w h old (made ∷ []) [])
    ∙ sym (λ i. wiped (record { color = record { width = w; height = h; texels = old }; depth = option_map texels_seen (none i) }) made)

pub returns-in-Some-clause-wiped : goal.returns-in-Some-clause-wiped
returns-in-Some-clause-wiped c =
    let s = c.args.surface.now in
    let d = c.in-Some.depth in
    let w = s.color.width in
    let h = s.color.height in
    let old = s.color.texels in
    let new = c.wipe_deep.new.colors in
    let before = d.texels in
    let after = c.wipe_deep.new.depths in
    let made = wipe_seen c.args.wipe.now in
    let some : c.args.surface.now.depth ≡ Some d = c.in-Some.is in
    let lent : c.as_mut_slice-colors.result.now ≡ c.args.surface.now.color.texels = c.as_mut_slice-colors.ensures.value in
    let lent_too : c.as_mut_slice.result.now ≡ c.in-Some.depth.texels = c.as_mut_slice.ensures.value in
    let back : refilled old new ≡ new = refill old new (rw lent at c.wipe_deep.auto.colors) in
    let back_deep : refilled before after ≡ after = refill before after (rw lent_too at c.wipe_deep.auto.depths) in
    let done : deep new after ≡ deep_wiped w 0 (deep old before) (made ∷ []) = rw (lent, lent_too) at c.wipe_deep.ensures in
    (λ i. record { color = record { width = w; height = h; texels = (back ∙ ap (λ b. b.colors) done) i }; depth = Some (record { width = d.width; height = d.height; texels = (back_deep ∙ ap (λ b. b.depths) done) i }) })
    ∙ sym (deep_whole w h d.width d.height (deep old before) (made ∷ []) [])
    ∙ sym (λ i. wiped (record { color = record { width = w; height = h; texels = old }; depth = option_map texels_seen (some i) }) made)
