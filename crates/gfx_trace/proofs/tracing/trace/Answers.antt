use Rattle.gfx_trace.proofs.Ends.{ends_as, pixel_is_there, target_is_there, frame_is_there, blame_is_there}
use Rattle.gfx_trace.proofs.Told.{is-told, is-told-of, are-seen, is-blamed}
use Rattle.gfx_trace.proofs.tracing.trace.Goals as goal

pub returns-clause-refused : goal.returns-clause-refused
returns-clause-refused g c bytes given refused = ends_as c.run.result.status _ _ _ _ bytes c.run.ensures.ends given (λ e. absurd (refused e))

pub returns-clause-complete : goal.returns-clause-complete
returns-clause-complete g c bytes given taken = ends_as c.run.result.status _ _ _ _ bytes c.run.ensures.ends given (λ e. taken)

pub returns-clause-color : goal.returns-clause-color
returns-clause-color g c bytes s j p done words told asked =
    let there = pixel_is_there c.run.result.status _ _ _ _ bytes s j p c.run.ensures.ends done words told asked in
    is-told c.moment_law.ensures c.scene_pixel_law.ensures c.plan_law.ensures.count bytes s j p.frame p.x p.y asked there.frame there.column there.row

pub returns-clause-seen : goal.returns-clause-seen
returns-clause-seen g c bytes s j frame done words told asked =
    let there = frame_is_there c.run.result.status _ _ _ _ bytes s j frame c.run.ensures.ends done words told asked in
    are-seen c.moment_law.ensures c.step_law.ensures c.plan_law.ensures.count bytes s j frame asked there

pub returns-clause-blamed : goal.returns-clause-blamed
returns-clause-blamed g c bytes s j frame done words told asked =
    let there = blame_is_there c.run.result.status _ _ _ _ bytes s j frame c.run.ensures.ends done words told asked in
    is-blamed c.plan_law.ensures.count bytes s j frame asked there

pub returns-clause-texel : goal.returns-clause-texel
returns-clause-texel g c bytes s j p name done words told asked =
    let there = target_is_there c.run.result.status _ _ _ _ bytes s j p name c.run.ensures.ends done words told asked in
    is-told-of
    (record {
      history = c.target_history_law.ensures;
      last = c.target_last_law.ensures;
      traced = c.scene_target_law.ensures;
      colors = c.colors_law.ensures;
      many = c.frames_law.ensures.count;
      planned = c.plan_law.ensures.count;
    })
    bytes s j p.frame name p.x p.y there.text asked there.few there.frame there.told
