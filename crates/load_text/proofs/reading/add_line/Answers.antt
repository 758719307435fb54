use Rattle.std.proofs.Common.{refl, arith}
use Rattle.load_text.proofs.Lines.{last_set}
use Rattle.load_text.proofs.reading.add_line.Goals as goal

pub returns-in_ok-push_line-in-Some : goal.returns-in_ok-push_line-in-Some
returns-in_ok-push_line-in-Some c =
    last_set _ _ c.args.blocks.now.items _ _ c.in-Some.block.now (omega (arith, c.args.blocks.now.ok.0, c.in-Some.ensures.variant.0 refl)) c.in-Some.ensures.value
    c.in_ok-push_line-in-Some.ensures
