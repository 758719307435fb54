use Rattle.std.proofs.Common.{◌≡◌, None, ap, subst, ◌∙◌}
use Rattle.std.specs.Prelude.{option_and_then, MatchOption, Option}
use Rattle.gfx_model.specs.Raster.{Texels}
use Rattle.store_model.specs.Slots.{filled_at}
use Rattle.store_model.specs.Textures.{slot_texels, texels_in_row, with_texels_here, copied_region}
use Rattle.store_model.proofs.SlotLaws.{at_other}
use Rattle.texture_store.specs.Seen.{region_seen}
use Rattle.texture_store.proofs.TextureLaws.{apart_put, apart_none}
use Rattle.texture_store.proofs.textures.copy_apart.Goals as goal

pub returns-in-Some : goal.returns-in-Some
returns-in-Some c =
    let same : texels_in_row c.take.new.self c.args.copy.now.src ≡ texels_in_row c.args.textures.now c.args.copy.now.src =
    ap (λ slots. texels_in_row slots c.args.copy.now.src) c.in-Some.ensures.left
    ∙ ap (option_and_then slot_texels) (at_other c.args.textures.now c.args.copy.now.dst c.args.copy.now.src None c.requires) in
    let P : Option Texels → Type 0 = λ o. MatchOption o (c.copy_into.new.texture ≡ c.in-Some.texture) (λ source. c.copy_into.new.texture ≡ with_texels_here (copied_region (region_seen c.args.copy.now) source) c.in-Some.texture) in
    apart_put (texels_in_row c.args.textures.now c.args.copy.now.src) (λ source. with_texels_here (copied_region (region_seen c.args.copy.now) source)) c.args.textures.now c.put.new.self c.args.copy.now.dst c.in-Some.texture c.copy_into.new.texture
    (subst P same c.copy_into.ensures) (c.put.ensures ∙ ap (filled_at c.args.copy.now.dst c.copy_into.new.texture) c.in-Some.ensures.left) c.in-Some.ensures.taken

pub returns-in_default : goal.returns-in_default
returns-in_default c =
    apart_none (texels_in_row c.args.textures.now c.args.copy.now.src) (λ source. with_texels_here (copied_region (region_seen c.args.copy.now) source)) c.args.textures.now c.take.new.self c.args.copy.now.dst c.in_default.ensures.left c.in_default.ensures.taken
