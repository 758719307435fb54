use Rattle.std.proofs.Common.{◌≡◌, map, take}
use Rattle.std.specs.Prelude.{fold}
use Rattle.pass_laws.specs.Passed.{clear_turn}
use Rattle.render_stores.specs.Seen.{stores_seen}
use Rattle.view_drawing.specs.Passes.{turn_seen}
use Rattle.view_drawing.proofs.passes.clear_views.Given as goal

abbrev pub invariant-loop-one : goal.invariant-loop-one
invariant-loop-one l = stores_seen l.stores ≡ fold clear_turn (stores_seen l.fn.stores) (map turn_seen (take l.one-index l.views))
