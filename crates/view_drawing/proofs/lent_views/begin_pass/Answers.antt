use Rattle.std.proofs.Common.{map, sym, ap, subst, ◌∙◌}
use Rattle.std.proofs.lemmas.Result.{IfOk-weaker, IfErr-weaker}
use Rattle.pass_laws.specs.Passed.{all_listed}
use Rattle.render_stores.specs.Seen.{stores_seen}
use Rattle.view_drawing.specs.Entered.{HaveGiven}
use Rattle.view_drawing.specs.Passes.{turn_seen, all_items}
use Rattle.view_drawing.proofs.DrawnLaws.{apart_target}
use Rattle.view_drawing.proofs.lent_views.begin_pass.Goals as goal

pub returns-clause-entered : goal.returns-clause-entered
returns-clause-entered c =
    let target = c.args.target in
    let h = stores_seen c.args.stores in
    let ts = map turn_seen c.args.views.now in
    IfOk-weaker c.lend_listed.result _ _
    (λ b e. e ∙ ap (λ x. all_listed target x ts) c.clear_views.ensures ∙ sym (c.pass_law.ensures target h ts c.requires (apart_target h target c.tell_facts.ensures)))
    c.lend_listed.ensures.lent

pub returns-clause-begun : goal.returns-clause-begun
returns-clause-begun c =
    IfErr-weaker c.lend_listed.result _ _
    (λ s e. subst (λ h. HaveGiven (all_items (map turn_seen c.args.views.now)) h (stores_seen s)) c.clear_views.ensures e)
    c.lend_listed.ensures.begun
