use Rattle.std.proofs.Common.{◌∙◌, ap}
use Rattle.std.proofs.Math.Logic.{∥∥₁_map}
use Rattle.shares_running.specs.Listed.{lists_seen, lines_of}
use Rattle.shares_running.proofs.harmless.left_lines.Goals as goal

pub returns : goal.returns
returns g c =
    ∥∥₁_map c.in_ok-lists.ensures (λ left.
    (lists_seen c.in_ok-lists.lists.items, (left, c.in_ok-lines.ensures ∙ ap (λ ls. lines_of 0 (lists_seen ls)) c.as_slice.ensures.value)))
