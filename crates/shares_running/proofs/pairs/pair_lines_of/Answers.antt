use Rattle.std.proofs.Common.{List, ◌++◌, map, ap, ◌∙◌, arith}
use Rattle.std.proofs.lemmas.List.{length-map}
use Rattle.scene_text.specs.Seen.{scene_seen}
use Rattle.item_lines.specs.Items.{item_lines}
use Rattle.shared_items.specs.declared.pairs.ItemPair.{ItemPair}
use Rattle.shared_items.specs.Lines.{paired_lines}
use Rattle.shared_items.specs.Seen.{pair_seen}
use Rattle.shares_running.specs.Listed.{pairs_seen}
use Rattle.shares_running.proofs.Lists.{pairs_more, pairs_at}
use Rattle.shares_running.proofs.pairs.pair_lines_of.Goals as goal

pub loop-number-preserved : goal.loop-number-preserved
loop-number-preserved c =
    let lists = c.args.lists.now in
    let x = c.index-lists-number.result in
    let s = scene_seen c.args.scene.now in
    pairs_more c.args.bytes.now s (pairs_seen lists) c.loop-number.number (map pair_seen x.items) c.loop-number.lines.items c.push_frame.new.lines.items _
    (omega (arith, c.loop-number-test.true, length-map lists (λ v. map pair_seen v.items)))
    (pairs_at lists c.loop-number.number x c.loop-number-test.true c.index-lists-number.is)
    (c.in_ok-push_frame.ensures ∙ ap (λ (vs : List ItemPair). c.loop-number.lines.items ++ paired_lines c.loop-number.number (item_lines c.args.bytes.now s c.loop-number.number) (map pair_seen vs)) c.as_slice.ensures.value)
    c.loop-number.invariant
