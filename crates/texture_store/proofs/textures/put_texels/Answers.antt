use Rattle.std.proofs.Common.{ap, ◌∙◌}
use Rattle.fix_math.specs.Seen.{texels_seen}
use Rattle.store_model.specs.Slots.{filled_at}
use Rattle.store_model.specs.Textures.{slot_with}
use Rattle.store_model.proofs.SlotLaws.{changed_again}
use Rattle.texture_store.proofs.textures.put_texels.Goals as goal

pub returns-in-Some : goal.returns-in-Some
returns-in-Some c =
    c.put-in-Some.ensures ∙ ap (filled_at c.args.index c.put.new.self) c.in-Some.ensures.left
    ∙ changed_again (slot_with (texels_seen c.args.texels)) c.args.textures.now c.args.index c.in-Some.texture c.put.new.self c.in-Some.ensures.taken c.put.ensures
