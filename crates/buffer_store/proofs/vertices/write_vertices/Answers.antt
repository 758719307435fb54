use Rattle.std.proofs.Common.{ap, ◌∙◌}
use Rattle.store_model.specs.Slots.{filled_at}
use Rattle.store_model.specs.Buffers.{with_new_bytes}
use Rattle.store_model.proofs.SlotLaws.{changed_again}
use Rattle.buffer_store.proofs.vertices.write_vertices.Goals as goal

pub returns-in-Some : goal.returns-in-Some
returns-in-Some c =
    c.put.ensures ∙ ap (filled_at c.args.index c.write.new.self) c.in-Some.ensures.left
    ∙ changed_again (with_new_bytes c.args.offset c.args.new.now) c.args.vertices.now c.args.index c.in-Some.buffer c.write.new.self c.in-Some.ensures.taken c.write.ensures
