use Rattle.std.proofs.Common.{rules, ◌≡◌, ◌∙◌, sym, ap, subst}
use Rattle.frame_record.specs.declared.frame.RenderedFrame.{RenderedFrame}
use Rattle.render_stores.specs.Seen.{stores_seen}
use Rattle.render_core.specs.Outcomes.{has_ended}
use Rattle.render_core.specs.Rendered.{IsRendered, Rendering, seen_by}
use Rattle.render_core.specs.declared.renderer.Renderer.{Renderer}
use Rattle.render_core.proofs.Begins.{rendered_on}
use Rattle.render_core.proofs.begun_frames.BegunFrame.finish.Goals as goal

pub returns-clause-rendered : goal.returns-clause-rendered
returns-clause-rendered g c =
    let k = c.self.inside.kept in
    let o = c.finish-outcome in
    let s = g.P.Sink in
    let opening : k.opening.value ≡ c.args.self.opening = search rules in
    let r : RenderedFrame = record { frame = k.frame; outcome = o.result } in
    let new : Rendering = record { stores = stores_seen o.new.self.stores; outcomes = c.add.new.self; held = s.held o.new.sink; tally = s.tally o.new.sink; faults = s.faults o.new.sink; sure = s.sure o.new.sink } in
    subst (λ (x : Renderer _). IsRendered (seen_by s.held s.tally s.faults s.sure x) r new) opening
    (rendered_on s.held s.tally s.faults s.sure k.opening.value k.outcomes k.sink r new k.same.0 k.same.1 (record {
      skipped = o.ensures.skipped ∙ c.self.invariant.skipped ∙ sym (ap has_ended k.same.0);
      needs = o.ensures.needs;
      stores = o.ensures.stores;
      held = o.ensures.held;
      tally = o.ensures.tally;
      faults = o.ensures.faults;
      no_fewer = o.ensures.no_fewer;
      sure = o.ensures.sure;
      ended = c.add.ensures.ended;
      added = c.add.ensures.added;
    }))
