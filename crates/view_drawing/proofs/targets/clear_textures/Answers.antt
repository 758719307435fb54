use Rattle.std.proofs.Common.{sym, ap, ◌∙◌}
use Rattle.std.specs.Prelude.{option_map}
use Rattle.gfx_model.specs.World.{clear_surface}
use Rattle.fix_math.specs.Seen.{texels_seen}
use Rattle.int_raster.specs.Seen.{surface_seen}
use Rattle.texture_store.specs.Seen.{target_seen}
use Rattle.view_table.specs.Seen.{view_seen}
use Rattle.store_model.specs.Textures.{target_back}
use Rattle.view_drawing.proofs.TargetLaws.{put_changed}
use Rattle.view_drawing.proofs.targets.clear_textures.Goals as goal

pub returns-in-Some : goal.returns-in-Some
returns-in-Some c =
    let view = view_seen c.args.view.now in
    let s = surface_seen c.clear.new.surface in
    put_changed c.args.textures.now c.put_target.new.self c.args.index (target_seen (c.in-Some.color, c.in-Some.depth)) (clear_surface view) s
    (sym c.take_target.ensures.taken ∙ ap (option_map target_seen) c.in-Some.is)
    (c.clear.ensures.cleared ∙ (λ j. clear_surface view (record { color = texels_seen (c.new-surface.ensures.color j); depth = option_map texels_seen (c.new-surface.ensures.depth j) })))
    (c.put_target.ensures ∙ ap (target_back c.args.index s.color s.depth) c.take_target.ensures.left)
