use Rattle.gfx_words.specs.Seen.{value_seen}
use Rattle.store_model.specs.Buffers.{with_slot_value}
use Rattle.buffer_store.proofs.SearchLaws.{changed_end}
use Rattle.buffer_store.proofs.uniform.Uniforms.set.Goals as goal

pub invariant_of-self : goal.invariant_of-self
invariant_of-self c = rw c.set_value.ensures (changed_end (with_slot_value (value_seen c.args.value)) c.self.inside.end c.args.index c.self.inside.row c.self.invariant)
