use Rattle.gfx_model.specs.Resources.{update_buffer}
use Rattle.hold_table.specs.Seats.{api_table, api_view}
use Rattle.context_core.proofs.Same.{kept_updates, updates_told, quiet_update_buffer}
use Rattle.context_core.proofs.context.ContextCore.update_buffer.Goals as goal

pub invariant_of-self : goal.invariant_of-self
invariant_of-self c =
    (c.self.invariant.0, c.self.invariant.1, kept_updates c.self.invariant.2 (update_buffer c.args.buffer c.args.offset c.args.bytes.now) (quiet_update_buffer (api_view c.self.inside.api) c.self.inside.book.resources c.args.buffer c.args.offset c.args.bytes.now) c.update_buffer.new.self c.update_buffer.result c.update_buffer.ensures)

pub returns : goal.returns
returns c = updates_told c.self.invariant.2 (update_buffer c.args.buffer c.args.offset c.args.bytes.now) (quiet_update_buffer (api_view c.self.inside.api) c.self.inside.book.resources c.args.buffer c.args.offset c.args.bytes.now) c.update_buffer.new.self (api_table c.self.inside.api) c.update_buffer.result c.update_buffer.ensures _ c.self.view_is
