use Rattle.std.proofs.Common.{ap, ◌∙◌}
use Rattle.scene_text.specs.Seen.{scene_seen}
use Rattle.shares_running.specs.Lines.{pairs_from}
use Rattle.shares_running.specs.Listed.{pairs_seen}
use Rattle.shares_running.proofs.sharing.pair_lines.Goals as goal

pub returns : goal.returns
returns g c =
    c.in_ok-lines.ensures ∙ ap (λ ls. pairs_from c.args.bytes.now (scene_seen c.args.scene.now) 0 (pairs_seen ls)) c.as_slice.ensures.value ∙ ap (pairs_from c.args.bytes.now (scene_seen c.args.scene.now) 0) c.in_ok-lists.ensures.pairs
