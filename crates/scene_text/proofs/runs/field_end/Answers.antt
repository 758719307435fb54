use Rattle.std.proofs.Common.{◌+◌, refl, arith}
use Rattle.scene_text.proofs.RunLines.{run_more, run_ends}
use Rattle.scene_text.proofs.runs.field_end.Goals as goal

pub returns-then-marks-ne0 : goal.returns-then-marks-ne0
returns-then-marks-ne0 c =
    let small = c.marks_from-marks.ensures.within c.lowest.result c.lowest.ensures.set in
    record {
      ordered = omega (arith, c.loop-place.invariant.ordered);
      within = omega (arith, small, c.loop-place-test.true);
      visible = run_ends c.args.bytes.now c.args.from c.loop-place.place c.marks_from-marks.result c.lowest.result c.loop-place.invariant.visible c.marks_from-marks.ensures small c.lowest.ensures.below;
      stops = refl;
    }

pub loop-place-preserved : goal.loop-place-preserved
loop-place-preserved c = record {
  ordered = omega (arith, c.loop-place.invariant.ordered);
  within = omega (arith, c.loop-place-test.true);
  visible = run_more c.args.bytes.now c.args.from c.loop-place.place c.marks_from-marks.result c.loop-place.invariant.visible c.marks_from-marks.ensures c.if-marks-ne0.false;
}
