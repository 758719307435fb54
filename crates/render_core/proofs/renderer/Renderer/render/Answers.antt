use Rattle.std.proofs.Common.{◌∙◌, subst}
use Rattle.render_stores.specs.Seen.{stores_seen}
use Rattle.render_core.specs.Seen.{frame_seen}
use Rattle.render_core.specs.Shown.{StoresAfter}
use Rattle.render_core.specs.declared.renderer.Renderer.{Renderer}
use Rattle.render_core.proofs.Shows.{stands_after, picture_after}
use Rattle.render_core.proofs.renderer.Renderer.render.Goals as goal

pub returns-clause-stands : goal.returns-clause-stands
returns-clause-stands g c =
    let o = c.finish-outcome in
    let f = frame_seen c.args.frame in
    let new = stores_seen o.new.self.stores in
    stands_after c.frame_law.ensures o.result (stores_seen c.args.self.now.canvas.stores) new f
    (subst (λ (r : Renderer _). StoresAfter o.result (stores_seen r.canvas.stores) f new) c.of-opening.ensures o.ensures.stores)

pub returns-clause-picture : goal.returns-clause-picture
returns-clause-picture g c =
    let o = c.finish-outcome in
    let f = frame_seen c.args.frame in
    let new = stores_seen o.new.self.stores in
    picture_after c.frame_law.ensures o.result (stores_seen c.args.self.now.canvas.stores) new f _ _
    (subst (λ (r : Renderer _). StoresAfter o.result (stores_seen r.canvas.stores) f new) c.of-opening.ensures o.ensures.stores) o.ensures.held

pub returns-clause-rendered : goal.returns-clause-rendered
returns-clause-rendered g c =
    let o = c.finish-outcome in
    let f = frame_seen c.args.frame in
    let new = stores_seen o.new.self.stores in
    record {
      skipped = o.ensures.skipped ∙ c.begin-stage.ensures.skips ∙ c.has_ended.ensures;
      needs = o.ensures.needs;
      stores = subst (λ (r : Renderer _). StoresAfter o.result (stores_seen r.canvas.stores) f new) c.of-opening.ensures o.ensures.stores;
      held = o.ensures.held;
      tally = o.ensures.tally;
      faults = o.ensures.faults;
      no_fewer = o.ensures.no_fewer;
      sure = o.ensures.sure;
      ended = c.add.ensures.ended;
      added = c.add.ensures.added;
    }
