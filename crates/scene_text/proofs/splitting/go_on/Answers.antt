use Rattle.std.proofs.Common.{◌+◌, ap, sym, subst, ◌∙◌, arith}
use Rattle.std.proofs.lemmas.List.{map_push}
use Rattle.text_fields.specs.Fields.{texts}
use Rattle.scene_text.specs.Cuts.{IsCut, IsLine}
use Rattle.scene_text.proofs.CutLines.{pending_first, pending_visible, pending_more, pending_over, cut_more, cut_line}
use Rattle.scene_text.proofs.splitting.go_on.Goals as goal

pub loop-marks-init : goal.loop-marks-init
loop-marks-init c = record {
  cut = c.requires.begun.cut;
  near = omega (arith, c.requires.begun.ordered);
  pending = pending_first c.args.bytes.now c.args.start c.args.from c.marks_from-marks.result _ c.requires.begun c.marks_from-marks.ensures;
}

pub loop-marks-preserved : goal.loop-marks-preserved
loop-marks-preserved c =
    let bytes = c.args.bytes.now in
    let l = c.loop-marks in
    let bit = c.lowest-bit.result in
    let at = l.invariant.pending.within bit c.lowest-bit.ensures.set in
    let seen = pending_visible bytes l.start c.args.from l.marks bit l.invariant.pending at.1 c.lowest-bit.ensures.below in
    let pushed = ap texts c.in_ok-push.ensures.items ∙ map_push (λ f. f.now) l.fields.items _ in
    record {
      cut = subst (IsCut bytes (c.args.from + bit + 1)) (sym pushed) (cut_more bytes l.start (c.args.from + bit) (texts l.fields.items) l.invariant.cut at.0 (omega (arith, at.1, c.requires.inside)) seen c.if-bytes-place-ne32.false);
      near = omega (arith, at.1);
      pending = pending_more bytes l.start c.args.from l.marks bit c.without-marks.result l.invariant.pending c.lowest-bit.ensures.below c.without-marks.ensures.cleared c.without-marks.ensures.kept c.without-marks.ensures.no_more at.0;
    }

pub returns-then-bytes-place-eq10 : goal.returns-then-bytes-place-eq10
returns-then-bytes-place-eq10 c =
    let bytes = c.args.bytes.now in
    let l = c.loop-marks in
    let bit = c.lowest-bit.result in
    let at = l.invariant.pending.within bit c.lowest-bit.ensures.set in
    let seen = pending_visible bytes l.start c.args.from l.marks bit l.invariant.pending at.1 c.lowest-bit.ensures.below in
    let pushed = ap texts c.in_ok-push.ensures.items ∙ map_push (λ f. f.now) l.fields.items _ in
    subst (IsLine bytes (c.args.from + bit)) (sym pushed) (cut_line bytes l.start (c.args.from + bit) (texts l.fields.items) l.invariant.cut at.0 (omega (arith, at.1, c.requires.inside)) seen c.if-bytes-place-eq10.true)

pub returns : goal.returns
returns c = pending_over c.args.bytes.now c.loop-marks.start c.args.from c.loop-marks.marks _ c.loop-marks.invariant.cut c.loop-marks.invariant.near c.loop-marks.invariant.pending c.loop-marks-test.false
