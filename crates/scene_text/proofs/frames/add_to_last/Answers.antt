use Rattle.std.proofs.Common.{refl, arith}
use Rattle.scene_text.proofs.Lasts.{last_set, block_more}
use Rattle.scene_text.proofs.frames.add_to_last.Goals as goal

pub returns-in_ok-push-in-Some : goal.returns-in_ok-push-in-Some
returns-in_ok-push-in-Some c =
    last_set _ _ c.args.blocks.now.items _ _ c.in-Some.block.now (omega (arith, c.args.blocks.now.ok.0, c.in-Some.ensures.variant.0 refl)) c.in-Some.ensures.value (block_more c.in-Some.block.now c.push.new.self c.args.line c.in_ok-push-in-Some.ensures.more)
