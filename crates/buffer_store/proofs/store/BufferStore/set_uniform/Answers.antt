use Rattle.std.proofs.Common.{ap, ◌∙◌}
use Rattle.gfx_words.specs.Seen.{value_seen}
use Rattle.store_model.specs.Slots.{at}
use Rattle.store_model.specs.Buffers.{with_slot_value}
use Rattle.store_model.proofs.SlotLaws.{changed_none}
use Rattle.buffer_store.proofs.store.BufferStore.set_uniform.Goals as goal

pub returns-clause-nothing : goal.returns-clause-nothing
returns-clause-nothing c none =
    ap (λ x. record { layouts = c.self.inside.layouts; vertices = c.self.inside.vertices; indices = c.self.inside.indices; uniforms = x })
    (c.set.ensures ∙ changed_none (with_slot_value (value_seen c.args.value)) c.self.inside.uniforms c.args.index (ap (λ s. at s.uniforms c.args.index) c.self.view_is ∙ none))
    ∙ c.self.view_is
