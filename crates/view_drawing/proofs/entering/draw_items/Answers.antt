use Rattle.std.proofs.Common.{[], sym, subst, ◌∙◌}
use Rattle.std.proofs.lemmas.List.{append-nil}
use Rattle.std.proofs.lemmas.Result.{on_ok_weaker, on_err_weaker}
use Rattle.render_stores.specs.Seen.{stores_seen}
use Rattle.store_laws.specs.ByIndex.{on_target}
use Rattle.view_drawing.specs.Entered.{HaveGiven}
use Rattle.view_drawing.specs.Passes.{part_seen}
use Rattle.view_drawing.proofs.DrawnLaws.{apart_target}
use Rattle.view_drawing.proofs.entering.draw_items.Goals as goal

pub returns-clause-done : goal.returns-clause-done
returns-clause-done g c =
    let p = part_seen c.args.part.now in
    let h = stores_seen c.args.stores.now in
    on_ok_weaker c.draw_listed.result
    (λ e. e ∙ sym (c.list_law.ensures p.view h p.items (apart_target h p.view.target c.tell_facts.ensures) c.requires))
    c.draw_listed.ensures.drawn

pub returns-clause-begun : goal.returns-clause-begun
returns-clause-begun g c =
    let p = part_seen c.args.part.now in
    let h = stores_seen c.args.stores.now in
    let after = stores_seen c.draw_listed.new.stores in
    let same = sym (c.clears_law.ensures p.view.target h [] tt (apart_target h p.view.target c.tell_facts.ensures)) in
    on_err_weaker c.draw_listed.result
    (λ e. subst (λ x. HaveGiven p.items x after) same (subst (λ xs. HaveGiven xs (on_target h p.view.target (λ s. s)) after) (append-nil p.items) e))
    c.draw_listed.ensures.begun
