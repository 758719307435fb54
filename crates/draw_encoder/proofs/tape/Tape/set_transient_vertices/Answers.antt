use Rattle.std.proofs.Common.{◌≡◌, ◌+◌, ◌++◌, length, if◌then◌else◌, is_ok, arith, ap, ◌∙◌, refl}
use Rattle.gfx_model.specs.Recorder as calls
use Rattle.draw_encoder.specs.TapeViews.{with_call}
use Rattle.draw_encoder.proofs.Ranges.{transient_vertices, more_bytes, wider_indices}
use Rattle.draw_encoder.proofs.tape.Tape.set_transient_vertices.Goals as goal

pub returns : goal.returns
returns c =
    let i = c.self.inside in
    let more = c.args.bytes.now in
    let e : c.extend_from_slice.new.self.items ≡ i.bytes.items ++ more = c.extend_from_slice.ensures.items ∙ ap (λ r. if is_ok r then i.bytes.items ++ more else i.bytes.items) c.unwrap.ensures in
    transient_vertices i.frame i.views i.room i.current i.pending_at i.items.items i.bytes.items i.uniforms.items c.self.invariant.ranges c.args.layout more _ _ _ e (c.len-at.ensures ∙ i.bytes.ok.0) refl ∙ ap (with_call (calls.set_transient_vertices c.args.layout more)) c.self.view_is

pub invariant_of-self : goal.invariant_of-self
invariant_of-self c =
    let i = c.self.inside in
    let more = c.args.bytes.now in
    let e : c.extend_from_slice.new.self.items ≡ i.bytes.items ++ more = c.extend_from_slice.ensures.items ∙ ap (λ r. if is_ok r then i.bytes.items ++ more else i.bytes.items) c.unwrap.ensures in
    let n = c.extend_from_slice.ensures.len ∙ ap (λ r. if is_ok r then i.bytes.len + length more else i.bytes.len) c.unwrap.ensures in
    let used = ap (λ t. t.recorder.used_bytes) c.self.view_is in
    let room = ap (λ t. t.recorder.room.bytes) c.self.view_is in
    let k = c.self.invariant in record {
      room = k.room;
      items = k.items;
      bytes = (omega (arith, i.bytes.ok.0, c.requires), omega (arith, k.bytes.1, c.extend_from_slice.ensures.capacity));
      uniforms = k.uniforms;
      ranges = more_bytes i.frame i.views i.room i.current i.pending_at i.items.items i.bytes.items i.uniforms.items c.self.invariant.ranges _ more _ e (let l = ap length e in omega (arith, c.len-at.ensures, i.bytes.ok.0)) (wider_indices i.frame i.views i.room i.current i.pending_at i.items.items i.bytes.items i.uniforms.items c.self.invariant.ranges more _ e);
    }
