use Rattle.std.proofs.Common.{arith, refl}
use Rattle.int_raster.proofs.Held.{held_none, held_more, held_all}
use Rattle.int_raster.proofs.pieces.solid_piece.Goals as goal

pub loop-x-init : goal.loop-x-init
loop-x-init c = held_none (λ x. c.args.color) c.args.piece.now.first c.args.colors.now

pub loop-x-preserved : goal.loop-x-preserved
loop-x-preserved c =
    held_more (λ x. c.args.color) c.args.piece.now.first c.loop-x.x c.loop-x.colors c.args.color c.loop-x.invariant c.loop-x.auto.x
    (omega (arith, c.loop-x-test.true, c.loop-x.auto.colors, c.loop-x.auto.x, c.requires.room)) refl

pub returns : goal.returns
returns c = held_all (λ x. c.args.color) c.args.piece.now.first c.loop-x.x c.args.piece.now.after c.loop-x.colors c.loop-x.invariant (omega arith)
