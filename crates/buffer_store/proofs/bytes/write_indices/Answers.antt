use Rattle.std.proofs.Common.{ap, ◌∙◌}
use Rattle.gfx_model.specs.World.{with_bytes_at}
use Rattle.store_model.specs.Slots.{filled_at}
use Rattle.store_model.proofs.SlotLaws.{changed_again}
use Rattle.buffer_store.proofs.bytes.write_indices.Goals as goal

pub returns-in-Some : goal.returns-in-Some
returns-in-Some c =
    c.put.ensures ∙ ap (filled_at c.args.index c.write.new.self) c.in-Some.ensures.left
    ∙ changed_again (with_bytes_at c.args.offset c.args.new.now) c.args.indices.now c.args.index c.in-Some.buffer c.write.new.self c.in-Some.ensures.taken c.write.ensures
