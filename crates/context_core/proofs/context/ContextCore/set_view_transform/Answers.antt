use Rattle.gfx_model.specs.Resources.{set_view_transform}
use Rattle.fix_math.specs.Seen.{affine_seen}
use Rattle.hold_table.specs.Seats.{api_table, api_view}
use Rattle.context_core.proofs.Same.{kept_changes, changes_told, quiet_set_view_transform}
use Rattle.context_core.proofs.context.ContextCore.set_view_transform.Goals as goal

pub invariant_of-self : goal.invariant_of-self
invariant_of-self c =
    (c.self.invariant.0, c.self.invariant.1, kept_changes c.self.invariant.2 (set_view_transform c.args.view (affine_seen c.args.t)) (quiet_set_view_transform (api_view c.self.inside.api) c.self.inside.book.resources c.args.view (affine_seen c.args.t)) c.set_view_transform.new.self c.set_view_transform.result c.set_view_transform.ensures)

pub returns : goal.returns
returns c = changes_told c.self.invariant.2 (set_view_transform c.args.view (affine_seen c.args.t)) (quiet_set_view_transform (api_view c.self.inside.api) c.self.inside.book.resources c.args.view (affine_seen c.args.t)) c.set_view_transform.new.self (api_table c.self.inside.api) c.set_view_transform.result c.set_view_transform.ensures _ c.self.view_is
