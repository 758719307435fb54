use Rattle.std.proofs.Common.{◌≡◌, map, sym, ap, refl, ◌∙◌, Some}
use Rattle.std.specs.Prelude.{option_map}
use Rattle.std.proofs.lemmas.Result.{IfOk-weaker, IfErr-weaker}
use Rattle.fix_math.specs.Seen.{texels_seen}
use Rattle.int_raster.specs.Seen.{surface_seen}
use Rattle.texture_store.specs.Seen.{target_seen}
use Rattle.store_model.specs.Textures.{target_out, target_back, target_texels}
use Rattle.store_laws.specs.Listed.{Drawing}
use Rattle.pass_laws.specs.Passed.{all_drawn}
use Rattle.render_stores.specs.Seen.{stores_seen}
use Rattle.view_drawing.specs.Passes.{all_items, turn_seen}
use Rattle.view_drawing.proofs.TargetLaws.{surface_with}
use Rattle.view_drawing.proofs.DrawnLaws.{listed_taken, given_on_target}
use Rattle.view_drawing.proofs.lending.lend_target.Goals as goal

pub returns-in-Some-clause-lent : goal.returns-in-Some-clause-lent
returns-in-Some-clause-lent c =
    let h = stores_seen c.args.stores in
    let ts = map turn_seen c.args.views.now in
    let t = c.args.target in
    let p = target_seen (c.in-Some.color, c.in-Some.depth) in
    let taken = c.take_target.new.self in
    let left : taken ≡ target_out t.index h.textures = c.take_target.ensures.left ∙ ap (λ k. target_out k h.textures) c.index.ensures.same in
    let there : target_texels h.textures t.index ≡ Some p =
    sym (ap (target_texels h.textures) c.index.ensures.same) ∙ sym c.take_target.ensures.taken ∙ ap (option_map target_seen) c.in-Some.is in
    let same : surface_seen c.new-surface.result ≡ surface_with p = (λ j. record { color = texels_seen (c.new-surface.ensures.color j); depth = option_map texels_seen (c.new-surface.ensures.depth j) }) in
    let x : Drawing = all_drawn taken h.programs (record { buffers = h.buffers; surface = surface_seen c.new-surface.result }) ts in
    let textures = target_back c.index-in-Some.result x.surface.color x.surface.depth taken in
    IfOk-weaker c.lend_taken.result _ _
    (λ b e. e ∙ listed_taken h ts x.buffers x.surface t p textures there
    (sym (λ j. all_drawn (left j) h.programs (record { buffers = h.buffers; surface = same j }) ts))
    (λ j. target_back (c.index-in-Some.ensures.same j) x.surface.color x.surface.depth (left j)))
    c.lend_taken.ensures.lent

pub returns-in-Some-clause-begun : goal.returns-in-Some-clause-begun
returns-in-Some-clause-begun c =
    let h = stores_seen c.args.stores in
    let items = all_items (map turn_seen c.args.views.now) in
    let t = c.args.target in
    let p = target_seen (c.in-Some.color, c.in-Some.depth) in
    let taken = c.take_target.new.self in
    let s = surface_seen c.new-surface.result in
    let left : taken ≡ target_out t.index h.textures = c.take_target.ensures.left ∙ ap (λ k. target_out k h.textures) c.index.ensures.same in
    let there : target_texels h.textures t.index ≡ Some p =
    sym (ap (target_texels h.textures) c.index.ensures.same) ∙ sym c.take_target.ensures.taken ∙ ap (option_map target_seen) c.in-Some.is in
    let same : s ≡ surface_with p = (λ j. record { color = texels_seen (c.new-surface.ensures.color j); depth = option_map texels_seen (c.new-surface.ensures.depth j) }) in
    IfErr-weaker c.lend_taken.result _ _
    (λ r e.
    let given = given_on_target h items t.index p s r.buffers (target_back c.index-in-Some.result s.color s.depth taken) c.tell_facts.ensures c.put_back_law.ensures.same there same
    (λ j. target_back (c.index-in-Some.ensures.same j) s.color s.depth (left j)) e.0 in
    (given.0, (given.1.0, e.1 ∙ given.1.1)))
    c.lend_taken.ensures.begun
