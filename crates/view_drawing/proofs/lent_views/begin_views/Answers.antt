use Rattle.std.proofs.Common.{map, take, sym, ap, ◌∙◌}
use Rattle.std.specs.Prelude.{fold}
use Rattle.pass_laws.specs.Passed.{after_turn}
use Rattle.render_stores.specs.Seen.{stores_seen}
use Rattle.view_drawing.specs.Passes.{part_seen}
use Rattle.view_drawing.proofs.PassLaws.{as_turns, turns_of, stopped_in_view, stopped_in_pass}
use Rattle.view_drawing.proofs.lent_views.begin_views.Goals as goal

pub returns-in-Err-clause-begun : goal.returns-in-Err-clause-begun
returns-in-Err-clause-begun c =
    stopped_in_view part_seen c.args.views.now c.index-views-0.result (stores_seen c.args.stores) (stores_seen c.in-Err.stores) c.requires.some c.index-views-0.is c.in-Err.ensures.begun

pub returns-in-Ok-begin_pass-clause-entered : goal.returns-in-Ok-begin_pass-clause-entered
returns-in-Ok-begin_pass-clause-entered c =
    let h = stores_seen c.args.stores in
    let views = take c.length_of_pass-count.result c.args.views.now in
    c.in-Ok-begin_pass.ensures.entered ∙ ap (fold after_turn h) (sym (turns_of part_seen views)) ∙ sym (as_turns h (map part_seen views) c.length_of_pass-count.ensures.none)

pub returns-in-Err-begin_pass-clause-begun : goal.returns-in-Err-begin_pass-clause-begun
returns-in-Err-begin_pass-clause-begun c =
    stopped_in_pass part_seen c.args.views.now c.length_of_pass-count.result (stores_seen c.args.stores) (stores_seen c.in-Err-begin_pass.stores) c.length_of_pass-count.ensures.none c.in-Err-begin_pass.ensures.begun
