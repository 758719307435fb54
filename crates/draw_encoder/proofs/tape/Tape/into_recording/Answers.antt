use Rattle.std.proofs.Common.{ℕ, List, length, arith, ap, ◌∙◌, sym, subst}
use Rattle.std.specs.List.{AllByRecursion}
use Rattle.draw_encoder.specs.Seen.{items_seen, uniforms_seen, numbers_of, HasRangesWithin}
use Rattle.draw_encoder.specs.declared.items.Item.{Item}
use Rattle.draw_encoder.specs.declared.items.UniformSet.{UniformSet}
use Rattle.draw_encoder.proofs.tape.Tape.into_recording.Goals as goal

pub returns-clause-same : goal.returns-clause-same
returns-clause-same c =
    let i = c.self.inside in
    let is = c.from_vec.ensures in
    let bs = c.from_vec-2.ensures in
    let us = c.from_vec-3.ensures in
    let k = c.self.invariant in record {
      frame = ap (λ t. t.recorder.frame) c.self.view_is;
      items = (λ j. items_seen (bs j) (us j) (is j)) ∙ ap (λ t. t.recorder.items) c.self.view_is;
      sets = ap uniforms_seen us ∙ ap (λ t. t.sets) c.self.view_is;
      numbers = ap numbers_of is ∙ ap (λ t. t.numbers) c.self.view_is;
      few = omega (arith, ap length is, i.items.ok.0, k.items.0, k.room);
      within = let P : List ℕ × List UniformSet × List Item → Type 0 = λ x. AllByRecursion (HasRangesWithin (length x.0) (length x.1)) x.2 in subst P (λ j. (sym bs j, sym us j, sym is j)) k.ranges.within;
    }
