-- Blits one after another.
use Rattle.std.proofs.Common.{◌≡◌, List, [], ◌∷◌, map, refl, ap, ◌∙◌}
use Rattle.std.specs.Prelude.{fold}
use Rattle.gfx_model.specs.Views.{View}
use Rattle.gfx_model.specs.World.{Blit, blit_item}
use Rattle.store_model.specs.Textures.{Textures}
use Rattle.store_laws.specs.ByIndex.{Stores, with_textures, blit_in, do_by_index}

blits_in_turn : (view : View) (h : Stores) (blits : List Blit) → with_textures h (fold blit_in h.textures blits) ≡ fold (do_by_index view) h (map blit_item blits)
blits_in_turn view h [] = refl
blits_in_turn view h (b ∷ blits) = blits_in_turn view (with_textures h (blit_in h.textures b)) blits

pub blits_copied : (view : View) (h : Stores) (blits : List Blit) (t : Textures) → t ≡ fold blit_in h.textures blits → with_textures h t ≡ fold (do_by_index view) h (map blit_item blits)
blits_copied view h blits t e = ap (with_textures h) e ∙ blits_in_turn view h blits
