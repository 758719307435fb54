use Rattle.gfx_model.specs.Resources.{reset_view}
use Rattle.hold_table.specs.Seats.{api_table, api_view}
use Rattle.context_core.proofs.Same.{kept_changes, changes_told, quiet_reset_view}
use Rattle.context_core.proofs.context.ContextCore.reset_view.Goals as goal

pub invariant_of-self : goal.invariant_of-self
invariant_of-self c =
    (c.self.invariant.0, c.self.invariant.1, kept_changes c.self.invariant.2 (reset_view c.args.view) (quiet_reset_view (api_view c.self.inside.api) c.self.inside.book.resources c.args.view) c.reset_view.new.self c.reset_view.result c.reset_view.ensures)

pub returns : goal.returns
returns c = changes_told c.self.invariant.2 (reset_view c.args.view) (quiet_reset_view (api_view c.self.inside.api) c.self.inside.book.resources c.args.view) c.reset_view.new.self (api_table c.self.inside.api) c.reset_view.result c.reset_view.ensures _ c.self.view_is
