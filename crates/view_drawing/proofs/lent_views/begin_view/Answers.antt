use Rattle.std.proofs.Common.{rules, ◌≡◌, map, ◌++◌, sym, ap, subst, ◌∙◌}
use Rattle.std.specs.Prelude.{fold}
use Rattle.std.proofs.lemmas.List.{append-nil}
use Rattle.std.proofs.lemmas.Result.{IfOk-weaker, IfErr-weaker}
use Rattle.gfx_model.specs.World.{blit_item}
use Rattle.store_laws.specs.ByIndex.{blit_in, do_by_index, with_textures}
use Rattle.render_stores.specs.Seen.{stores_seen}
use Rattle.view_drawing.specs.Entered.{HaveGiven, StopsAtBlit}
use Rattle.view_drawing.specs.Passes.{part_seen}
use Rattle.view_drawing.proofs.DrawnLaws.{apart_target, after_blits, begun_by_blits, begun_by_items}
use Rattle.view_drawing.proofs.lent_views.begin_view.Goals as goal

pub returns-clause-entered : goal.returns-clause-entered
returns-clause-entered c =
    let p = part_seen c.args.part.now in
    let s = stores_seen c.clear_target.new.stores in
    let copied : c.blit_all.new.textures ≡ fold blit_in s.textures p.blits = search rules in
    let mid = with_textures s c.blit_all.new.textures in
    IfOk-weaker c.lend_listed.result _ _
    (λ b e. e
    ∙ sym (c.list_law.ensures p.view mid p.items (apart_target mid p.view.target c.tell_facts.ensures) c.requires)
    ∙ after_blits p.view s p.blits p.items c.blit_all.new.textures copied
    ∙ ap (λ h. fold (do_by_index p.view) h (map blit_item p.blits ++ p.items)) c.clear_target.ensures)
    c.lend_listed.ensures.lent

pub returns-clause-begun : goal.returns-clause-begun
returns-clause-begun c =
    let p = part_seen c.args.part.now in
    let s = stores_seen c.clear_target.new.stores in
    let copied : c.blit_all.new.textures ≡ fold blit_in s.textures p.blits = search rules in
    let mid = with_textures s c.blit_all.new.textures in
    IfErr-weaker c.lend_listed.result _ _
    (λ r e. begun_by_items p.view p.blits p.items (stores_seen c.args.stores) s (stores_seen r) c.blit_all.new.textures c.clear_target.ensures copied
    (subst (λ xs. HaveGiven xs mid (stores_seen r)) (append-nil p.items) e))
    c.lend_listed.ensures.begun

pub returns-then-is_err-clause-begun : goal.returns-then-is_err-clause-begun
returns-then-is_err-clause-begun c =
    let p = part_seen c.args.part.now in
    let s = stores_seen c.clear_target.new.stores in
    let stops : StopsAtBlit p.blits s.textures c.blit_all.new.textures = search rules in
    begun_by_blits p.view p.blits p.items (stores_seen c.args.stores) s c.blit_all.new.textures c.clear_target.ensures stops
