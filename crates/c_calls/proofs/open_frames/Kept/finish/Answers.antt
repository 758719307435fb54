use Rattle.std.proofs.Common.{ap, ◌∙◌, subst}
use Rattle.render_core.specs.Rendered.{Rendering, IsRendered}
use Rattle.c_calls.specs.Rendered.{rendering_of}
use Rattle.c_calls.specs.Standings.{stands}
use Rattle.c_calls.proofs.Frames.{same_most}
use Rattle.c_calls.proofs.InPasses.{back_again}
use Rattle.c_calls.proofs.open_frames.Kept.finish.Goals as goal

pub returns-clause-shows : goal.returns-clause-shows
returns-clause-shows c =
    let b = c.requires.begun in
    let f = c.finish_on-renderer in
    let rendered = rendering_of f.result.0 in
    let core = back_again c.args.self.core c.came_back.new.self b.out c.came_back.ensures in
    let most = same_most f.result.0.sink.capacity c.args.self.most (f.ensures.rendered.sure ∙ b.sure) ∙ b.most_is in (
      f.result.1,
      f.ensures.frame,
      subst (λ (o : Rendering). IsRendered o f.result.1 rendered) b.opening_is f.ensures.rendered,
      (λ j. record { core = core j; rows = b.rows_are j; renderer = rendered; standing = (c.after.ensures ∙ ap stands c.was_shown.ensures) j; most = most j }),
    )
