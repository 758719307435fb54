use Rattle.gfx_model.specs.Resources.{set_view_target}
use Rattle.hold_table.specs.Seats.{api_table, api_view}
use Rattle.context_core.proofs.Same.{kept_changes, changes_told, quiet_set_view_target}
use Rattle.context_core.proofs.context.ContextCore.set_view_target.Goals as goal

pub invariant_of-self : goal.invariant_of-self
invariant_of-self c =
    (c.self.invariant.0, c.self.invariant.1, kept_changes c.self.invariant.2 (set_view_target c.args.view c.args.target) (quiet_set_view_target (api_view c.self.inside.api) c.self.inside.book.resources c.tell_facts.ensures c.self.invariant.2.tied.placed c.args.view c.args.target) c.set_view_target.new.self c.set_view_target.result c.set_view_target.ensures)

pub returns : goal.returns
returns c = changes_told c.self.invariant.2 (set_view_target c.args.view c.args.target) (quiet_set_view_target (api_view c.self.inside.api) c.self.inside.book.resources c.tell_facts.ensures c.self.invariant.2.tied.placed c.args.view c.args.target) c.set_view_target.new.self (api_table c.self.inside.api) c.set_view_target.result c.set_view_target.ensures _ c.self.view_is
