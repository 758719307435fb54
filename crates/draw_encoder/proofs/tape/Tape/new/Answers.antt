use Rattle.std.proofs.Common.{ℕ, List, arith, sym, subst}
use Rattle.draw_encoder.specs.declared.items.Item.{Item}
use Rattle.draw_encoder.specs.declared.items.UniformSet.{UniformSet}
use Rattle.draw_encoder.specs.TapeLists.{AreRanges}
use Rattle.draw_encoder.proofs.tape.Tape.new.Goals as goal

pub invariant_of-result : goal.invariant_of-result
invariant_of-result c = let within = c.plain.ensures.within 0 in record {
  room = c.requires;
  items = (omega (arith, c.in_ok-items.ensures.len), omega (arith, c.in_ok-items.ensures.capacity));
  bytes = (omega (arith, c.in_ok-bytes.ensures.len), omega (arith, c.in_ok-bytes.ensures.capacity));
  uniforms = (omega (arith, c.in_ok-uniforms.ensures.len), omega (arith, c.in_ok-uniforms.ensures.capacity));
  ranges = let P : List Item × List ℕ × List UniformSet → Type 0 = λ x. AreRanges c.plain.result 0 x.0 x.1 x.2 in
      subst P (λ j. (sym c.in_ok-items.ensures.items j, sym c.in_ok-bytes.ensures.items j, sym c.in_ok-uniforms.ensures.items j)) (record { pending = omega arith; vertices = within.0; indices = within.1; within = tt });
}
