use Rattle.std.proofs.Common.{sym, ◌∙◌}
use Rattle.texture_store.proofs.TextureLaws.{not_held}
use Rattle.texture_store.proofs.targets.detach_one.Goals as goal

pub returns-else-is_held : goal.returns-else-is_held
returns-else-is_held c = not_held c.args.texture c.args.index c.args.targets.now (sym c.is_held.ensures ∙ c.if-is_held.false)
