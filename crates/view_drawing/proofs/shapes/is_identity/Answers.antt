use Rattle.std.proofs.Common.{sym, ◌∙◌}
use Rattle.std.specs.Cmp.Rules.{signed_items}
use Rattle.view_drawing.proofs.shapes.is_identity.Goals as goal

pub returns : goal.returns
returns c t = (signed_items c.args.transform.now.m c.identity.result.m).0 (sym c.eq.ensures ∙ t) ∙ c.identity.ensures
