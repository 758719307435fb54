use Rattle.std.proofs.Common.{rules, ◌≡◌, ap, inr, ◌∙◌}
use Rattle.store_laws.specs.ByIndex.{Stores, all_commanded}
use Rattle.render_stores.specs.Seen.{stores_seen}
use Rattle.render_core.specs.Seen.{frame_seen}
use Rattle.render_core.proofs.PartsIn.{within_all}
use Rattle.render_core.proofs.Wants.{some_takes, on_err_holds}
use Rattle.render_core.proofs.renderer.Canvas.end.Goals as goal

pub returns-in_err-execute_all-clause-needs : goal.returns-in_err-execute_all-clause-needs
returns-in_err-execute_all-clause-needs g c = on_err_holds c.from_residual-in_err-execute_all.result (inr (inr (some_takes c.args.frame.now.post c.in_err-execute_all.ensures.begun)))

pub returns-clause-stores : goal.returns-clause-stores
returns-clause-stores g c =
    let a = c.args in
    let f = frame_seen a.frame.now in
    let first : Stores = stores_seen a.opening.now.value.canvas.stores in
    let last : stores_seen c.execute_all.new.stores ≡ all_commanded f.payloads (stores_seen c.enter_rest.new.self.stores) f.post = search rules in
    last
    ∙ ap (λ (h : Stores). all_commanded f.payloads h f.post)
    (within_all first f a.entered (stores_seen a.self.now.stores) (stores_seen c.enter_rest.new.self.stores) c.requires.within.stores c.in_ok-enter_rest.ensures.entered)
