use Rattle.std.proofs.Common.{arith, ap, ◌∙◌}
use Rattle.gfx_model.specs.Recorder as calls
use Rattle.gfx_words.specs.Seen.{value_seen}
use Rattle.draw_encoder.specs.Seen.{uniform_seen}
use Rattle.draw_encoder.specs.TapeViews.{with_set}
use Rattle.draw_encoder.proofs.Ranges.{value_set, more_values}
use Rattle.draw_encoder.proofs.tape.Tape.set_uniform.Goals as goal

pub returns : goal.returns
returns c =
    let i = c.self.inside in
    value_set i.frame i.views i.room i.current i.pending_at i.items.items i.bytes.items i.uniforms.items c.self.invariant.ranges c.args.set _ c.push_reserved.ensures.items ∙ ap (with_set (uniform_seen c.args.set) (calls.set_uniform c.args.set.uniform (value_seen c.args.set.value))) c.self.view_is

pub invariant_of-self : goal.invariant_of-self
invariant_of-self c =
    let i = c.self.inside in
    let used = ap (λ t. t.recorder.used_uniforms) c.self.view_is in
    let room = ap (λ t. t.recorder.room.uniforms) c.self.view_is in
    let k = c.self.invariant in record {
      room = k.room;
      items = k.items;
      bytes = k.bytes;
      uniforms = (omega (arith, i.uniforms.ok.0, c.requires, c.push_reserved.ensures.len), omega (arith, k.uniforms.1, c.push_reserved.ensures.capacity));
      ranges = more_values i.frame i.views i.room i.current i.pending_at i.items.items i.bytes.items i.uniforms.items c.self.invariant.ranges c.args.set _ c.push_reserved.ensures.items;
    }
