use Rattle.std.proofs.Common.{Some, ap, ◌∙◌, arith}
use Rattle.scene_text.proofs.Lasts.{last_block}
use Rattle.scene_text.proofs.frames.last_of.Goals as goal

pub returns-in-len1-up : goal.returns-in-len1-up
returns-in-len1-up c = ap (λ b. Some b.encoder) c.block-item.is ∙ last_block c.args.blocks.now _ _ (omega (arith, c.in-len1-up.len_at_least))
