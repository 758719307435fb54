use Rattle.std.proofs.Common.{◌≡◌, map, sym, ap, ◌∙◌, Some}
use Rattle.std.specs.Prelude.{option_map}
use Rattle.std.proofs.lemmas.Result.{on_ok_weaker, on_err_weaker}
use Rattle.fix_math.specs.Seen.{texels_seen}
use Rattle.int_raster.specs.Seen.{surface_seen}
use Rattle.texture_store.specs.Seen.{target_seen}
use Rattle.store_model.specs.Textures.{target_out, target_back, target_texels}
use Rattle.pass_laws.specs.Passed.{all_cleared, all_drawn}
use Rattle.render_stores.specs.Seen.{stores_seen}
use Rattle.view_drawing.specs.Passes.{all_items, turn_seen}
use Rattle.view_drawing.proofs.TargetLaws.{surface_with}
use Rattle.view_drawing.proofs.DrawnLaws.{passed_taken, given_on_cleared}
use Rattle.view_drawing.proofs.drawing.draw_target.Goals as goal

pub returns-in-Some-clause-drawn : goal.returns-in-Some-clause-drawn
returns-in-Some-clause-drawn g c =
    let h = stores_seen c.args.stores.now in
    let cs = map turn_seen c.args.pass.cleared.now in
    let ts = map turn_seen c.args.pass.drawn.now in
    let t = c.args.target in
    let p = target_seen (c.in-Some.color, c.in-Some.depth) in
    let s = surface_seen c.draw_surface-done.new.surface in
    let left : c.take_target.new.self ≡ target_out t.index h.textures = c.take_target.ensures.left ∙ ap (λ k. target_out k h.textures) c.index.ensures.same in
    let there : target_texels h.textures t.index ≡ Some p =
    sym (ap (target_texels h.textures) c.index.ensures.same) ∙ sym c.take_target.ensures.taken ∙ ap (option_map target_seen) c.in-Some.is in
    on_ok_weaker c.draw_surface-done.result
    (λ e. passed_taken h cs ts c.draw_surface-done.new.buffers s t p c.put_target.new.self there
    (sym (λ j. all_drawn (left j) h.programs (record { buffers = h.buffers; surface = all_cleared (record { color = texels_seen (c.new-surface.ensures.color j); depth = option_map texels_seen (c.new-surface.ensures.depth j) }) cs }) ts) ∙ e)
    (c.put_target.ensures ∙ (λ j. target_back (c.index-in-Some.ensures.same j) s.color s.depth (left j))))
    c.draw_surface-done.ensures.drawn

pub returns-in-Some-clause-begun : goal.returns-in-Some-clause-begun
returns-in-Some-clause-begun g c =
    let h = stores_seen c.args.stores.now in
    let cs = map turn_seen c.args.pass.cleared.now in
    let items = all_items (map turn_seen c.args.pass.drawn.now) in
    let t = c.args.target in
    let p = target_seen (c.in-Some.color, c.in-Some.depth) in
    let s = surface_seen c.draw_surface-done.new.surface in
    let left : c.take_target.new.self ≡ target_out t.index h.textures = c.take_target.ensures.left ∙ ap (λ k. target_out k h.textures) c.index.ensures.same in
    let there : target_texels h.textures t.index ≡ Some p =
    sym (ap (target_texels h.textures) c.index.ensures.same) ∙ sym c.take_target.ensures.taken ∙ ap (option_map target_seen) c.in-Some.is in
    let same : surface_seen c.new-surface.result ≡ surface_with p = (λ j. record { color = texels_seen (c.new-surface.ensures.color j); depth = option_map texels_seen (c.new-surface.ensures.depth j) }) in
    on_err_weaker c.draw_surface-done.result
    (λ e. given_on_cleared h cs items t p s c.draw_surface-done.new.buffers c.put_target.new.self there
    (e.0 ∙ ap (λ x. all_cleared x cs) same)
    (c.put_target.ensures ∙ (λ j. target_back (c.index-in-Some.ensures.same j) s.color s.depth (left j))) e.1)
    c.draw_surface-done.ensures.begun
