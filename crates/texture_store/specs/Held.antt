-- Texels that are here or taken out, as the definitions see them.
use Rattle.fix_math.specs.Seen.{texels_seen}
use Rattle.store_model.specs.Textures as model
use Rattle.texture_store.specs.declared.texture.Held.{Held}
use Rattle.texture_store.specs.declared.texture.Held.TheVariants as held

-- texels, or the sides of those that are taken out
abbrev pub held_seen : Held → model.Held
held_seen (held.Here texels) = model.here (texels_seen texels)
held_seen (held.Taken width height) = model.taken width height
