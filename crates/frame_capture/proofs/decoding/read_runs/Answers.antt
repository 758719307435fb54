use Rattle.std.proofs.Common.{◌≡◌, ◌++◌, arith}
use Rattle.std.proofs.lemmas.Result.{err_from_is_err_and}
use Rattle.frame_capture.specs.Capture.{run_text}
use Rattle.frame_capture.proofs.Loops.{run-more, run-fails, runs-done}
use Rattle.frame_capture.proofs.decoding.read_runs.Goals as goal

pub loop-wanted-preserved : goal.loop-wanted-preserved
loop-wanted-preserved c =
    let put : c.put_pixels.new.text.items ≡ c.loop-wanted.texts.items ++ run_text c.in_ok-next.next = c.in_ok-put_pixels.ensures in
    rw (put, c.from-wanted.ensures) (run-more c.loop-wanted.before c.loop-wanted.wanted c.loop-wanted.texts.items c.loop-wanted.rest.now c.in_ok-next.next c.in_ok-next.after.now _
    (omega (arith, c.loop-wanted-test.true)) c.in_ok-next.ensures.exact c.loop-wanted.invariant)

pub returns : goal.returns
returns c = runs-done c.loop-wanted.before c.loop-wanted.wanted c.loop-wanted.texts.items c.loop-wanted.rest.now _ (omega (arith, c.loop-wanted-test.false)) c.loop-wanted.invariant

pub returns-in_err-next : goal.returns-in_err-next
returns-in_err-next c =
    let p = err_from_is_err_and c.from_residual.result c.from_residual.ensures.1 in
    rw (p.1, p.2) (run-fails c.in_err-next.field-0.0 c.loop-wanted.before c.loop-wanted.wanted c.loop-wanted.texts.items c.loop-wanted.rest.now _
    (omega (arith, c.loop-wanted-test.true)) c.in_err-next.ensures.exact c.loop-wanted.invariant)
