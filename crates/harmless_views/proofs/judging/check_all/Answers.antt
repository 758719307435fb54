use Rattle.harmless_views.specs.Seen.{looked, recorded_in}
use Rattle.harmless_views.proofs.Checking.{checked-more-at, adds-more-at, stops-at-place}
use Rattle.harmless_views.proofs.judging.check_all.Goals as goal

pub returns-then-not-fine-clause-adds : goal.returns-then-not-fine-clause-adds
returns-then-not-fine-clause-adds c =
    let s = c.args.scope.now in
    adds-more-at (looked s) c.args.runs.now.items c.loop-entry.runs.items c.check_entry.new.runs.items (recorded_in s) c.deref-entry-items.result.now s.frame.now.journal.items c.loop-entry.entry-index _
    c.deref-entry-items.ensures.value c.loop-entry-test.true c.loop-entry.invariant.adds c.in_ok-fine.ensures.adds

pub returns-then-not-fine-clause-stops : goal.returns-then-not-fine-clause-stops
returns-then-not-fine-clause-stops c = λ done.
    let s = c.args.scope.now in
    stops-at-place (looked s) (recorded_in s) c.deref-entry-items.result.now s.frame.now.journal.items c.loop-entry.entry-index _ c.deref-entry-items.ensures.value c.loop-entry-test.true
    (c.in_ok-fine.ensures.stops c.if-not-fine.true)

pub loop-entry-preserved : goal.loop-entry-preserved
loop-entry-preserved c =
    let s = c.args.scope.now in
    record {
      checked = checked-more-at (looked s) c.loop-entry.runs.items c.check_entry.new.runs.items (recorded_in s) c.deref-entry-items.result.now s.frame.now.journal.items c.loop-entry.entry-index _
          c.deref-entry-items.ensures.value c.loop-entry-test.true c.in_ok-fine.ensures.keeps c.loop-entry.invariant.checked (c.in_ok-fine.ensures.checked c.if-not-fine.false);
      adds = adds-more-at (looked s) c.args.runs.now.items c.loop-entry.runs.items c.check_entry.new.runs.items (recorded_in s) c.deref-entry-items.result.now s.frame.now.journal.items c.loop-entry.entry-index _
          c.deref-entry-items.ensures.value c.loop-entry-test.true c.loop-entry.invariant.adds c.in_ok-fine.ensures.adds;
    }
