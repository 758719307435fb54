use Rattle.std.proofs.Common.{◌≡◌, ◌+◌, length, ap, ◌∙◌}
use Rattle.gfx_model.specs.Number.{map_from}
use Rattle.fix_math.specs.Lending.{refilled}
use Rattle.texture_store.specs.Block.{in_block, texel_of_row}
use Rattle.texture_store.proofs.CutLaws.{refill, rows_fit}
use Rattle.texture_store.proofs.pictures.copy_cut.Goals as goal

pub copy_rows-requires-clause-below : goal.copy_rows-requires-clause-below
copy_rows-requires-clause-below c =
    rows_fit (c.args.cut.now.dy + c.args.cut.now.h) c.args.texels.now.height c.args.texels.now.width (length c.as_mut_slice-to.result.now) c.requires.below
    (ap length c.as_mut_slice-to.ensures.value ∙ c.args.texels.now.whole)

pub returns : goal.returns
returns c =
    let w = c.args.texels.now.width in
    let h = c.args.texels.now.height in
    let old = c.args.texels.now.texels in
    let new = c.copy_rows.new.to in
    let cut = c.args.cut.now in
    let lent : c.as_mut_slice-to.result.now ≡ c.args.texels.now.texels = c.as_mut_slice-to.ensures.value in
    let back : refilled old new ≡ new = refill old new (c.copy_rows.auto.to ∙ ap length lent) in
    let rows = c.copy_rows.ensures ∙ ap (map_from (in_block w cut.dx cut.dy cut.w cut.h (texel_of_row c.args.from.now c.args.from_width cut.dx cut.dy cut.sx cut.sy)) 0) lent in
    (λ i. record { width = w; height = h; texels = back i }) ∙ (λ i. record { width = w; height = h; texels = rows i })
