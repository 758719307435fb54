use Rattle.std.proofs.Common.{refl, arith}
use Rattle.scene_text.proofs.Lasts.{last_set, frame_line_more}
use Rattle.scene_text.proofs.frames.add_encoder_line.Goals as goal

pub returns-in_ok-add_to_blocks-in-Some : goal.returns-in_ok-add_to_blocks-in-Some
returns-in_ok-add_to_blocks-in-Some c =
    last_set _ _ c.args.frames.now.items _ _ c.in-Some.frame.now (omega (arith, c.args.frames.now.ok.0, c.in-Some.ensures.variant.0 refl)) c.in-Some.ensures.value (frame_line_more c.in-Some.frame.now c.add_to_blocks.new.blocks c.args.line c.in_ok-add_to_blocks-in-Some.ensures)
