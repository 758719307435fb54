use Rattle.std.proofs.Common.{◌≡◌, ◌/◌, ◌^◌, [], ◌∷◌, arith, ◌∙◌}
use Rattle.gfx_model.specs.Vertex.{Color}
use Rattle.int_raster.proofs.Ramped.{ramp_more}
use Rattle.int_raster.specs.Painted.{shade_at}
use Rattle.int_raster.proofs.Held.{held_none, held_more, held_all}
use Rattle.int_raster.proofs.pieces.shade_piece.Goals as goal

pub returns-then-shades_by_four : goal.returns-then-shades_by_four
returns-then-shades_by_four c = c.shades_by_four.ensures c.if-shades_by_four.true

pub loop-x-init : goal.loop-x-init
loop-x-init c = record {
  red = c.value_at-red.ensures;
  green = c.value_at-green.ensures;
  blue = c.value_at-blue.ensures;
  alpha = c.value_at-alpha.ensures;
  held = held_none (λ x. shade_at c.args.shade.now x c.args.piece.now.y) c.args.piece.now.first c.shades_by_four.new.colors;
}

pub loop-x-preserved : goal.loop-x-preserved
loop-x-preserved c =
    let s = c.args.piece.now in
    let r = c.args.shade.now in
    let i = c.loop-x.invariant in
    let bytes : Color = c.loop-x.red / 2 ^ 56 ∷ c.loop-x.green / 2 ^ 56 ∷ c.loop-x.blue / 2 ^ 56 ∷ c.loop-x.alpha / 2 ^ 56 ∷ [] in
    let shade : bytes ≡ shade_at r c.loop-x.x s.y = (λ j. i.red j / 2 ^ 56 ∷ i.green j / 2 ^ 56 ∷ i.blue j / 2 ^ 56 ∷ i.alpha j / 2 ^ 56 ∷ []) in
    record {
      red = ramp_more r.red c.loop-x.x s.y c.loop-x.red i.red;
      green = ramp_more r.green c.loop-x.x s.y c.loop-x.green i.green;
      blue = ramp_more r.blue c.loop-x.x s.y c.loop-x.blue i.blue;
      alpha = ramp_more r.alpha c.loop-x.x s.y c.loop-x.alpha i.alpha;
      held = held_more (λ x. shade_at r x s.y) s.first c.loop-x.x c.loop-x.colors c.packed.result i.held c.loop-x.auto.x
          (omega (arith, c.loop-x-test.true, c.loop-x.auto.colors, c.loop-x.auto.x, c.requires.room)) (c.packed.ensures ∙ shade);
    }

pub returns : goal.returns
returns c = held_all (λ x. shade_at c.args.shade.now x c.args.piece.now.y) c.args.piece.now.first c.loop-x.x c.args.piece.now.after c.loop-x.colors c.loop-x.invariant.held (omega arith)
