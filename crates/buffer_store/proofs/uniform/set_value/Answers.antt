use Rattle.std.proofs.Common.{ap, ◌∙◌}
use Rattle.gfx_words.specs.Seen.{value_seen}
use Rattle.store_model.specs.Slots.{filled_at}
use Rattle.store_model.specs.Buffers.{with_slot_value}
use Rattle.store_model.proofs.SlotLaws.{changed_again}
use Rattle.buffer_store.proofs.uniform.set_value.Goals as goal

pub returns-in-Some : goal.returns-in-Some
returns-in-Some c =
    c.put.ensures ∙ ap (filled_at c.args.index c.set.new.self) c.in-Some.ensures.left
    ∙ changed_again (with_slot_value (value_seen c.args.value)) c.args.uniforms.now c.args.index c.in-Some.uniform c.set.new.self c.in-Some.ensures.taken c.set.ensures
