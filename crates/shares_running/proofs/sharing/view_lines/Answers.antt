use Rattle.std.proofs.Common.{ap, ◌∙◌}
use Rattle.scene_model.specs.Fold.{plans}
use Rattle.scene_text.specs.Seen.{scene_seen}
use Rattle.shares_running.specs.Listed.{lists_seen, lines_of}
use Rattle.shares_running.proofs.Lists.{lines_from_lists}
use Rattle.shares_running.proofs.sharing.view_lines.Goals as goal

pub returns : goal.returns
returns g c =
    c.in_ok-lines.ensures ∙ ap (λ ls. lines_of 0 (lists_seen ls)) c.as_slice.ensures.value ∙ ap (lines_of 0) c.in_ok-lists.ensures ∙ lines_from_lists 0 (plans (scene_seen c.args.scene.now))
