use Rattle.store_model.specs.Textures.{copied_region}
use Rattle.texture_store.specs.Seen.{region_seen}
use Rattle.texture_store.proofs.TakeLaws.{over_clause}
use Rattle.texture_store.proofs.textures.copy_over.Goals as goal

pub returns-clause-copied : goal.returns-clause-copied
returns-clause-copied c = over_clause c.copy_itself-done.result (copied_region (region_seen c.args.copy.now)) c.args.textures.now c.copy_itself-done.new.textures c.args.copy.now.dst c.args.copy.now.src c.requires c.copy_itself-done.ensures.copied
