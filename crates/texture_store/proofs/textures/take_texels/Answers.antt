use Rattle.std.proofs.Common.{ap, ◌∙◌}
use Rattle.store_model.specs.Slots.{filled_at}
use Rattle.store_model.specs.Textures.{slot_out}
use Rattle.store_model.proofs.SlotLaws.{changed_again}
use Rattle.texture_store.proofs.textures.take_texels.Goals as goal

pub returns-in-Some-clause-left : goal.returns-in-Some-clause-left
returns-in-Some-clause-left c =
    c.put.ensures ∙ ap (filled_at c.args.index c.take-texels.new.self) c.in-Some.ensures.left
    ∙ changed_again slot_out c.args.textures.now c.args.index c.in-Some.texture c.take-texels.new.self c.in-Some.ensures.taken c.take-texels.ensures.left
