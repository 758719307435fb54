use Rattle.gfx_model.specs.Resources.{update_texture}
use Rattle.fix_math.specs.Seen.{rect_seen}
use Rattle.hold_table.specs.Seats.{api_table, api_view}
use Rattle.context_core.proofs.Same.{kept_updates, updates_told, quiet_update_texture}
use Rattle.context_core.proofs.context.ContextCore.update_texture.Goals as goal

pub invariant_of-self : goal.invariant_of-self
invariant_of-self c =
    (c.self.invariant.0, c.self.invariant.1, kept_updates c.self.invariant.2 (update_texture c.args.texture (rect_seen c.args.rect) c.args.bytes.now) (quiet_update_texture (api_view c.self.inside.api) c.self.inside.book.resources c.args.texture (rect_seen c.args.rect) c.args.bytes.now) c.update_texture.new.self c.update_texture.result c.update_texture.ensures)

pub returns : goal.returns
returns c = updates_told c.self.invariant.2 (update_texture c.args.texture (rect_seen c.args.rect) c.args.bytes.now) (quiet_update_texture (api_view c.self.inside.api) c.self.inside.book.resources c.args.texture (rect_seen c.args.rect) c.args.bytes.now) c.update_texture.new.self (api_table c.self.inside.api) c.update_texture.result c.update_texture.ensures _ c.self.view_is
