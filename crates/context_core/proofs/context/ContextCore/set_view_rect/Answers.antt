use Rattle.gfx_model.specs.Resources.{set_view_rect}
use Rattle.fix_math.specs.Seen.{rect_seen}
use Rattle.hold_table.specs.Seats.{api_table, api_view}
use Rattle.context_core.proofs.Same.{kept_changes, changes_told, quiet_set_view_rect}
use Rattle.context_core.proofs.context.ContextCore.set_view_rect.Goals as goal

pub invariant_of-self : goal.invariant_of-self
invariant_of-self c =
    (c.self.invariant.0, c.self.invariant.1, kept_changes c.self.invariant.2 (set_view_rect c.args.view (rect_seen c.args.rect)) (quiet_set_view_rect (api_view c.self.inside.api) c.self.inside.book.resources c.args.view (rect_seen c.args.rect)) c.set_view_rect.new.self c.set_view_rect.result c.set_view_rect.ensures)

pub returns : goal.returns
returns c = changes_told c.self.invariant.2 (set_view_rect c.args.view (rect_seen c.args.rect)) (quiet_set_view_rect (api_view c.self.inside.api) c.self.inside.book.resources c.args.view (rect_seen c.args.rect)) c.set_view_rect.new.self (api_table c.self.inside.api) c.set_view_rect.result c.set_view_rect.ensures _ c.self.view_is
