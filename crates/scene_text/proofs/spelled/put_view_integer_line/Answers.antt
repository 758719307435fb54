use Rattle.std.proofs.Common.{[], ◌∷◌, codes}
use Rattle.std.specs.Fmt.{decimal}
use Rattle.scene_text.proofs.LineTails.{line_made}
use Rattle.scene_text.proofs.spelled.put_view_integer_line.Goals as goal

pub returns : goal.returns
returns c = line_made _ (codes "view") _ _ _ (decimal c.args.view ∷ c.args.setting.now ∷ []) _ c.in_ok-put_view.ensures c.in_ok-put_integers.ensures c.in_ok-push.ensures.items
