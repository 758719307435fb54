use Rattle.std.proofs.Common.{refl, arith}
use Rattle.scene_text.proofs.Lasts.{last_set, blocks_more}
use Rattle.scene_text.proofs.frames.add_block.Goals as goal

pub returns-in_ok-push-in-Some : goal.returns-in_ok-push-in-Some
returns-in_ok-push-in-Some c =
    last_set _ _ c.args.frames.now.items _ _ c.in-Some.frame.now (omega (arith, c.args.frames.now.ok.0, c.in-Some.ensures.variant.0 refl)) c.in-Some.ensures.value (blocks_more c.in-Some.frame.now c.push.new.self _ c.in_ok-push-in-Some.ensures.more c.in_ok-lines.ensures)
