use Rattle.std.proofs.Common.{◌∙◌, ◌≡◌, ◌++◌, [], Ok, ◌-◌, ◌+◌, sym, arith}
use Rattle.std.proofs.lemmas.Bool.{eqb-true, eqb-false}
use Rattle.std.proofs.lemmas.List.{nil_from_length}
use Rattle.frame_capture.specs.Fault.{behind, frame_at}
use Rattle.frame_capture.proofs.Loops.{frame-more, frame-fails, frames-end, none-left, some-left}
use Rattle.frame_capture.proofs.decoding.read_frames.Goals as goal

pub loop-number-preserved : goal.loop-number-preserved
loop-number-preserved c =
    let put : c.extend_from_slice.new.self.items ≡ c.loop-number.texts.items ++ c.args.head.now = c.in_ok-extend_from_slice.ensures.items in
    let read : behind c.extend_from_slice.new.self.items (frame_at c.loop-number.number c.args.pixels c.loop-number.rest.now) ≡ Ok (c.read_frame.new.texts.items, c.in-Ok.after.now) = c.in-Ok.ensures in
    frame-more c.args.head.now c.args.pixels c.loop-number.number (c.args.frames - c.loop-number.number) (c.args.frames - (c.loop-number.number + 1)) c.loop-number.texts.items c.loop-number.rest.now
    c.read_frame.new.texts.items c.in-Ok.after.now _ (omega (arith, c.loop-number-test.true)) (rw put at read) c.loop-number.invariant

pub returns-in-Err : goal.returns-in-Err
returns-in-Err c =
    rw c.behind.ensures (frame-fails c.in-Err.fault c.args.head.now c.args.pixels c.loop-number.number (c.args.frames - c.loop-number.number) (c.args.frames - (c.loop-number.number + 1))
    c.loop-number.texts.items c.extend_from_slice.new.self.items c.loop-number.rest.now _ (omega (arith, c.loop-number-test.true)) c.in-Err.ensures c.loop-number.invariant)

pub returns-then-is_empty : goal.returns-then-is_empty
returns-then-is_empty c =
    let empty : c.loop-number.rest.now ≡ [] = nil_from_length _ (eqb-true _ _ (sym c.is_empty.ensures ∙ c.if-is_empty.true)) in
    frames-end c.args.head.now c.args.pixels c.loop-number.number (c.args.frames - c.loop-number.number) c.loop-number.texts.items c.loop-number.rest.now _ (omega (arith, c.loop-number-test.false)) c.loop-number.invariant
    ∙ none-left c.loop-number.texts.items c.loop-number.number c.loop-number.rest.now empty

pub returns : goal.returns
returns c =
    let same : c.loop-number.number ≡ c.args.frames = omega (arith, c.loop-number.auto.number-end, c.loop-number-test.false) in
    frames-end c.args.head.now c.args.pixels c.loop-number.number (c.args.frames - c.loop-number.number) c.loop-number.texts.items c.loop-number.rest.now _ (omega (arith, c.loop-number-test.false)) c.loop-number.invariant
    ∙ some-left c.loop-number.texts.items c.loop-number.number c.args.frames c.loop-number.rest.now same (eqb-false _ _ (sym c.is_empty.ensures ∙ c.if-is_empty.false))
