use Rattle.gfx_model.specs.Resources.{set_view_clear}
use Rattle.hold_table.specs.Seats.{api_table, api_view}
use Rattle.context_core.proofs.Same.{kept_changes, changes_told, quiet_set_view_clear}
use Rattle.context_core.proofs.context.ContextCore.set_view_clear.Goals as goal

pub invariant_of-self : goal.invariant_of-self
invariant_of-self c =
    (c.self.invariant.0, c.self.invariant.1, kept_changes c.self.invariant.2 (set_view_clear c.args.view (record { flags = c.args.flags; color = c.args.color; depth = c.args.depth; stencil = c.args.stencil })) (quiet_set_view_clear (api_view c.self.inside.api) c.self.inside.book.resources c.args.view (record { flags = c.args.flags; color = c.args.color; depth = c.args.depth; stencil = c.args.stencil })) c.set_view_clear.new.self c.set_view_clear.result c.set_view_clear.ensures)

pub returns : goal.returns
returns c = changes_told c.self.invariant.2 (set_view_clear c.args.view (record { flags = c.args.flags; color = c.args.color; depth = c.args.depth; stencil = c.args.stencil })) (quiet_set_view_clear (api_view c.self.inside.api) c.self.inside.book.resources c.args.view (record { flags = c.args.flags; color = c.args.color; depth = c.args.depth; stencil = c.args.stencil })) c.set_view_clear.new.self (api_table c.self.inside.api) c.set_view_clear.result c.set_view_clear.ensures _ c.self.view_is
