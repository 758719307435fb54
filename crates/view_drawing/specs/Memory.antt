-- What takes memory in a view that is entered.
use Rattle.std.specs.Prelude.{◌≡◌, ◌≢◌, false, List, Option, None}
use Rattle.gfx_model.specs.Words.{ProgramKind}
use Rattle.gfx_model.specs.World.{Blit, Draw, Item, draw_item}
use Rattle.store_model.specs.Slots.{at}
use Rattle.store_model.specs.Textures.{Textures, texels_at, region_of}
use Rattle.texture_store.specs.Cut.{writes_nothing}

-- an item is a draw whose program is there
abbrev pub CanDraw : List (Option ProgramKind) → Item → Type 0
CanDraw programs i = (d : Draw) × ((i ≡ draw_item d) × (at programs d.program.index ≢ None))

-- a blit is within one texture, and something is left of its region
abbrev pub CopiesWithin : Textures → Blit → Type 0
CopiesWithin h b = (b.source.index ≡ b.destination.index) × (writes_nothing (region_of b) (texels_at h b.source.index) ≡ false)
