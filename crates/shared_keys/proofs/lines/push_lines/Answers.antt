use Rattle.shared_keys.proofs.Fronts.{front-more-at}
use Rattle.shared_keys.proofs.lines.push_lines.Goals as goal

pub loop-view-preserved : goal.loop-view-preserved
loop-view-preserved c =
    front-more-at c.args.frame c.args.shared.now c.loop-view.view-index (record { view = 0; first = 0; second = 0 }) c.args.lines.now.items c.loop-view.lines.items c.push_line.new.lines.items
    c.loop-view-test.true c.loop-view.invariant c.in_ok-push_line.ensures
