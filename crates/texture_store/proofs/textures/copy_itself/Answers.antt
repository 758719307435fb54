use Rattle.std.proofs.Common.{ap, ◌∙◌}
use Rattle.store_model.specs.Slots.{filled_at}
use Rattle.store_model.specs.Textures.{with_texels_here, copied_region}
use Rattle.texture_store.specs.Seen.{region_seen}
use Rattle.texture_store.proofs.TextureLaws.{over_put}
use Rattle.texture_store.proofs.textures.copy_itself.Goals as goal

pub returns-in-Some-clause-copied : goal.returns-in-Some-clause-copied
returns-in-Some-clause-copied c =
    over_put c.copy_within-done.result (with_texels_here (λ t. copied_region (region_seen c.args.copy.now) t t)) c.args.textures.now c.put.new.self c.args.copy.now.dst c.in-Some.texture c.copy_within-done.new.self
    c.copy_within-done.ensures.copied (c.put.ensures ∙ ap (filled_at c.args.copy.now.dst c.copy_within-done.new.self) c.in-Some.ensures.left) c.in-Some.ensures.taken
