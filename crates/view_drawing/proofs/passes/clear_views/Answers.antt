use Rattle.pass_laws.specs.Passed.{clear_turn}
use Rattle.render_stores.specs.Seen.{stores_seen}
use Rattle.view_drawing.specs.Passes.{turn_seen}
use Rattle.view_drawing.proofs.PassLaws.{step_more}
use Rattle.view_drawing.proofs.passes.clear_views.Goals as goal

pub loop-one-preserved : goal.loop-one-preserved
loop-one-preserved c =
    let l = c.loop-one in
    step_more clear_turn turn_seen (stores_seen c.args.stores.now) (stores_seen l.stores) (stores_seen c.clear_target.new.stores) c.args.views.now l.one-index c.one-item.result c.loop-one-test.true c.one-item.is l.invariant
    c.clear_target.ensures
