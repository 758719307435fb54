use Rattle.std.proofs.Common.{map, ap, ◌∙◌, arith}
use Rattle.scene_model.specs.Grammar as model
use Rattle.scene_text.specs.Seen.{block_seen}
use Rattle.scene_text.proofs.Lasts.{last_blocks}
use Rattle.scene_text.proofs.frames.last_encoder.Goals as goal

pub returns-in-len1-up : goal.returns-in-len1-up
returns-in-len1-up c =
    c.last_of.ensures
    ∙ ap (λ bs. model.last_encoder (map block_seen bs)) (c.as_slice.ensures ∙ ap (λ f. f.blocks) c.frame-item.is)
    ∙ ap model.last_encoder (last_blocks c.args.frames.now _ _ (omega (arith, c.in-len1-up.len_at_least)))
