use Rattle.std.proofs.Common.{length}
use Rattle.view_table.proofs.Others.{put_within, put_one, put_same}
use Rattle.view_table.proofs.order.put_others.Goals.{then-not-named-view, else-not-named-view}
use Rattle.view_table.proofs.order.put_others.Goals as goal

pub bounds-sequence-at : goal.bounds-sequence-at
bounds-sequence-at c =
    put_within c.args.named.now c.args.listed c.args.sequence.now c.loop-view.sequence c.loop-view.view c.loop-view.at (length c.args.sequence.now)
    c.loop-view.invariant c.requires.room c.loop-view.auto.sequence c.loop-view-test.true c.if-not-named-view.true

pub loop-view-preserved : goal.loop-view-preserved
loop-view-preserved c = elim c.if-not-named-view.branch [
  | then-not-named-view w ↦ rw (w.sequence-is, w.at-is)
      (put_one c.args.named.now c.args.listed c.args.sequence.now c.loop-view.sequence c.loop-view.view c.loop-view.at c.loop-view.invariant
      (put_within c.args.named.now c.args.listed c.args.sequence.now c.loop-view.sequence c.loop-view.view c.loop-view.at (length c.args.sequence.now)
      c.loop-view.invariant c.requires.room c.loop-view.auto.sequence c.loop-view-test.true w.if-not-named-view.true)
      w.if-not-named-view.true)
  | else-not-named-view w ↦ rw (w.sequence-is, w.at-is)
      (put_same c.args.named.now c.args.listed c.args.sequence.now c.loop-view.sequence c.loop-view.view c.loop-view.at c.loop-view.invariant w.if-not-named-view.false)
]
