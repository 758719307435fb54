use Rattle.std.proofs.Common.{◌∙◌, ap}
use Rattle.render_core.specs.Outcomes.{has_ended}
use Rattle.render_core.proofs.Counts.{ended_is}
use Rattle.render_core.proofs.outcomes.Outcomes.has_ended.Goals as goal

pub returns : goal.returns
returns c = c.is_some.ensures ∙ ended_is c.self.inside.shown c.self.inside.end ∙ ap has_ended c.self.view_is
