use Rattle.std.proofs.Common.{◌∙◌}
use Rattle.gfx_model.specs.Number.{zip_with, byte_product}
use Rattle.int_raster.specs.Painted.{shade_at}
use Rattle.int_raster.proofs.pieces.product_piece.Goals as goal

pub returns : goal.returns
returns c x low high =
    c.tint_by_four.ensures x low high
    ∙ (λ i. zip_with byte_product (c.texture_piece.ensures x low high i) (shade_at c.args.shade.now x c.args.piece.now.y))
