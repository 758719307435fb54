use Rattle.frame_swap.proofs.Events.{lengths}
use Rattle.frame_swap.proofs.Parts.{parts_hold}
use Rattle.frame_swap.proofs.laws.rule_keeps_parts.Goals as goal

pub returns : goal.returns
returns c latency s m h x = parts_hold latency x.0 x.1 m (lengths h.ring x.0 x.1 x.2) x.3
