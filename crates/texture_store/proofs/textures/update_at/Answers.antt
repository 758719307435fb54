use Rattle.std.proofs.Common.{ap, ◌∙◌}
use Rattle.gfx_model.specs.World.{with_texels_in}
use Rattle.fix_math.specs.Seen.{rect_seen}
use Rattle.store_model.specs.Slots.{filled_at}
use Rattle.store_model.specs.Textures.{with_texels_here}
use Rattle.store_model.proofs.SlotLaws.{changed_again}
use Rattle.texture_store.proofs.textures.update_at.Goals as goal

pub returns-in-Some : goal.returns-in-Some
returns-in-Some c =
    c.put.ensures ∙ ap (filled_at c.args.index c.update.new.self) c.in-Some.ensures.left
    ∙ changed_again (with_texels_here (with_texels_in (rect_seen c.args.rect.now) c.args.bytes.now)) c.args.textures.now c.args.index c.in-Some.texture c.update.new.self c.in-Some.ensures.taken c.update.ensures
