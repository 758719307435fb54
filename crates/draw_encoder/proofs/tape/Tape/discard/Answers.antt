use Rattle.std.proofs.Common.{length}
use Rattle.draw_encoder.proofs.tape.Tape.discard.Goals as goal

pub invariant_of-self : goal.invariant_of-self
invariant_of-self c =
    let i = c.self.inside in
    let k = c.self.invariant in
    let state = c.discard.ensures.within (length i.bytes.items) (k.ranges.vertices, k.ranges.indices) in
    record {
      room = k.room;
      items = k.items;
      bytes = k.bytes;
      uniforms = k.uniforms;
      ranges = record { pending = k.ranges.pending; vertices = state.0; indices = state.1; within = k.ranges.within };
    }
