use Rattle.std.proofs.Common.{ap, sym, ◌∙◌, arith}
use Rattle.gfx_model.specs.Number.{zip_with, byte_product, int_at}
use Rattle.gfx_model.specs.Raster.{fragment_at}
use Rattle.gfx_model.specs.World as world
use Rattle.int_raster.specs.Seen.{paint_seen}
use Rattle.fix_math.specs.Seen.{texels_seen}
use Rattle.tri_cover.specs.Shown.{setup_seen}
use Rattle.int_raster.specs.Painted.{place_at}
use Rattle.int_raster.proofs.Samples.{sample_same}
use Rattle.int_raster.proofs.painters.painter_for.Goals as goal

pub returns-in-Texture : goal.returns-in-Texture
returns-in-Texture c x y hx hy near covered =
    let f = fragment_at (setup_seen c.args.setup.now).triangle x y in
    let p = c.place_for.result in
    let t = c.in-Texture.texels.now in
    let same = c.place_for.ensures x y hx hy near covered in
    sample_same (texels_seen t) (int_at f.texcoord 0) (int_at f.texcoord 1) (place_at p.u x y) (place_at p.v x y) (omega (arith, t.wide)) (omega (arith, t.high)) same.0 same.1
    ∙ ap (λ q. world.painted (paint_seen q) f) (sym c.in-Texture.is)

pub returns-in_ok-shade-in-TexColor : goal.returns-in_ok-shade-in-TexColor
returns-in_ok-shade-in-TexColor c x y hx hy near covered =
    let f = fragment_at (setup_seen c.args.setup.now).triangle x y in
    let p = c.place_for-place.result in
    let t = c.in-TexColor.texels.now in
    let same = c.place_for-place.ensures x y hx hy near covered in
    let color = c.in_ok-shade-in-TexColor.ensures x y near covered in
    (λ i.
    zip_with byte_product
    (sample_same (texels_seen t) (int_at f.texcoord 0) (int_at f.texcoord 1) (place_at p.u x y) (place_at p.v x y) (omega (arith, t.wide)) (omega (arith, t.high)) same.0 same.1 i)
    (color i))
    ∙ ap (λ q. world.painted (paint_seen q) f) (sym c.in-TexColor.is)
