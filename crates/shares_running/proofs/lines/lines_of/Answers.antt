use Rattle.std.proofs.Common.{List, ◌++◌, map, ap, ◌∙◌, arith}
use Rattle.std.proofs.lemmas.List.{length-map}
use Rattle.shared_keys.specs.declared.marks.SharedView.{SharedView}
use Rattle.shared_keys.specs.Lines.{frame_lines}
use Rattle.shared_keys.specs.Marks.{shared_seen}
use Rattle.shares_running.specs.Listed.{lists_seen}
use Rattle.shares_running.proofs.Lists.{lines_more, seen_at}
use Rattle.shares_running.proofs.lines.lines_of.Goals as goal

pub loop-number-preserved : goal.loop-number-preserved
loop-number-preserved c =
    let lists = c.args.lists.now in
    let x = c.index-lists-number.result in
    lines_more (lists_seen lists) c.loop-number.number (map shared_seen x.items) c.loop-number.lines.items c.push_lines.new.lines.items _
    (omega (arith, c.loop-number-test.true, length-map lists (λ v. map shared_seen v.items)))
    (seen_at lists c.loop-number.number x c.loop-number-test.true c.index-lists-number.is)
    (c.in_ok-push_lines.ensures ∙ ap (λ (vs : List SharedView). c.loop-number.lines.items ++ frame_lines c.loop-number.number (map shared_seen vs)) c.as_slice.ensures.value)
    c.loop-number.invariant
