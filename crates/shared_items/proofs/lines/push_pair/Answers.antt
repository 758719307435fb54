use Rattle.std.specs.Prelude.{codes}
use Rattle.shared_items.specs.Lines.{head_text, entry_text}
use Rattle.shared_items.proofs.Joined.{four_more}
use Rattle.shared_items.proofs.lines.push_pair.Goals as goal

pub returns : goal.returns
returns c =
    let p = c.args.pair.now in
    four_more c.args.lines.now.items (head_text c.args.frame p.view) (entry_text p.first p.first_item c.args.first_line) (entry_text p.second p.second_item c.args.second_line) (codes "\n") _ _ _ _
    c.in_ok-push_head.ensures c.in_ok-push_entry.ensures c.in_ok-push_entry-2.ensures c.in_ok-push.ensures.items
