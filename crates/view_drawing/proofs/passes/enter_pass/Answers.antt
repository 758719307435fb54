use Rattle.std.proofs.Common.{map, sym, subst, ◌∙◌}
use Rattle.std.proofs.lemmas.Result.{on_ok_weaker, on_err_weaker}
use Rattle.render_stores.specs.Seen.{stores_seen}
use Rattle.view_drawing.specs.Entered.{HaveGiven}
use Rattle.view_drawing.specs.Passes.{turn_seen, all_items}
use Rattle.view_drawing.proofs.DrawnLaws.{apart_target}
use Rattle.view_drawing.proofs.passes.enter_pass.Goals as goal

pub returns-clause-entered : goal.returns-clause-entered
returns-clause-entered g c =
    let target = c.args.target in
    let h = stores_seen c.args.stores.now in
    let ts = map turn_seen c.args.views.now in
    on_ok_weaker c.draw_listed.result
    (λ e. e ∙ sym (c.one_pass_law.ensures target h ts c.requires (apart_target h target c.tell_facts.ensures)))
    c.draw_listed.ensures.drawn

pub returns-clause-begun : goal.returns-clause-begun
returns-clause-begun g c =
    let target = c.args.target in
    let h = stores_seen c.args.stores.now in
    let ts = map turn_seen c.args.views.now in
    on_err_weaker c.draw_listed.result
    (λ e. subst (λ x. HaveGiven (all_items ts) x (stores_seen c.draw_listed.new.stores)) (sym (c.clears_law.ensures target h ts c.requires.same (apart_target h target c.tell_facts.ensures))) e)
    c.draw_listed.ensures.begun
