use Rattle.std.proofs.Common.{◌-◌, arith, ap, ◌∙◌, length}
use Rattle.std.proofs.lemmas.List.{length-map}
use Rattle.gfx_model.specs.Recorder as calls
use Rattle.draw_encoder.specs.declared.items.Item.TheVariants as kinds
use Rattle.draw_encoder.specs.Seen.{item_seen, HasRangesWithin}
use Rattle.draw_encoder.specs.TapeViews.{with_item}
use Rattle.draw_encoder.proofs.Ranges.{more_items, touched}
use Rattle.draw_encoder.proofs.tape.Tape.touch.Goals as goal

pub returns : goal.returns
returns c =
    let i = c.self.inside in
    touched i.frame i.views i.room i.current i.pending_at i.items.items i.bytes.items i.uniforms.items c.self.invariant.ranges _ c.args.number c.args.view c.len-all.result _ c.put_item.ensures.items (c.len-all.ensures ∙ i.uniforms.ok.0) c.discard.ensures.seen ∙ ap (with_item c.args.number (calls.touch c.args.view)) c.self.view_is

pub invariant_of-self : goal.invariant_of-self
invariant_of-self c =
    let i = c.self.inside in
    let k = c.self.invariant in
    let state = c.discard.ensures.within (length i.bytes.items) (k.ranges.vertices, k.ranges.indices) in
    let all = c.len-all.ensures ∙ i.uniforms.ok.0 in
    let item : HasRangesWithin (length i.bytes.items) (length i.uniforms.items) (kinds.Touch (record { view = c.args.view; number = c.args.number; values_at = i.pending_at; values = c.len-all.result - i.pending_at })) = omega (arith, all, k.ranges.pending) in
    let used = ap (λ t. length t.recorder.items) c.self.view_is in
    let room = ap (λ t. t.recorder.room.items) c.self.view_is in
    record {
      room = k.room;
      items = (omega (arith, used, room, c.requires, c.put_item.ensures.len, i.items.ok.0, length-map i.items.items (item_seen i.bytes.items i.uniforms.items)), omega (arith, k.items.1, c.put_item.ensures.capacity));
      bytes = k.bytes;
      uniforms = k.uniforms;
      ranges = more_items i.frame i.views i.room i.current i.pending_at i.items.items i.bytes.items i.uniforms.items c.self.invariant.ranges _ _ _ _ c.put_item.ensures.items (omega (arith, all)) state.0 state.1 item;
    }
