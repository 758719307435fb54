use Rattle.std.proofs.Common.{rules, arith}
use Rattle.letter_boxes.proofs.MailKeeps.{all_pushed}
use Rattle.letter_boxes.proofs.shared.Shared.new.Goals as goal

pub loop-preserved : goal.loop-preserved
loop-preserved g c =
    let items = c.in_ok-push.ensures.items in
    let kept = all_pushed _ _ _ items (λ b. b.mail.shared.key) _ c.loop.invariant.2 c.in_ok-empty.ensures in (search rules, omega arith, kept)
