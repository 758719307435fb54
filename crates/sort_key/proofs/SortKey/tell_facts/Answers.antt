use Rattle.sort_key.proofs.Again.{top_told}
use Rattle.sort_key.proofs.SortKey.tell_facts.Goals as goal

pub returns : goal.returns
returns c = top_told c.self.inside.bits c.args.self.now c.self.invariant c.self.view_is
