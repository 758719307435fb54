use Rattle.std.proofs.Common.{◌≡◌, ◌∙◌, ◌++◌, List, ℕ, [], Some, None, ap, sym, append-nil}
use Rattle.frame_capture.specs.Capture.{run_bytes}
use Rattle.frame_capture.specs.Spelling.{pixel_at, runs_of}
use Rattle.frame_capture.proofs.Whole.{run-longer, run-ended, runs-last, no-pixels, first-pixel}
use Rattle.frame_capture.proofs.encoding.put_runs.Goals as goal

pub returns-in_default : goal.returns-in_default
returns-in_default c =
    let none : pixel_at c.args.pixels.now ≡ None = sym c.in_default.ensures in
    let nothing : runs_of c.args.pixels.now ≡ [] = no-pixels c.args.pixels.now none in
    rw nothing (sym (append-nil c.args.capture.now.items))

pub loop-color-init : goal.loop-color-init
loop-color-init c =
    let is : pixel_at c.args.pixels.now ≡ Some (c.in-Some.color, c.in-Some.rest.now) = sym c.in-Some.ensures in
    rw c.first-run.ensures (ap (λ (x : List ℕ). c.args.capture.now.items ++ x) (sym (first-pixel c.args.pixels.now c.in-Some.color c.in-Some.rest.now is)))

pub loop-color-preserved-then-goes_on : goal.loop-color-preserved-then-goes_on
loop-color-preserved-then-goes_on c =
    run-longer c.loop-color.run c.loop-color.rest.now c.in-Some-pixel_at.color c.in-Some-pixel_at.after.now c.loop-color.capture.items _ (sym c.in-Some-pixel_at.ensures) (sym c.goes_on.ensures ∙ c.if-goes_on.true)
    c.loop-color.invariant

pub loop-color-preserved : goal.loop-color-preserved
loop-color-preserved c =
    let put : c.put.new.capture.items ≡ c.loop-color.capture.items ++ run_bytes c.loop-color.run = c.in_ok-put.ensures in
    rw (put, c.first-run-else-goes_on.ensures) (run-ended c.loop-color.run c.loop-color.rest.now c.in-Some-pixel_at.color c.in-Some-pixel_at.after.now c.loop-color.capture.items _
    (sym c.in-Some-pixel_at.ensures) (sym c.goes_on.ensures ∙ c.if-goes_on.false) c.loop-color.invariant)

pub returns : goal.returns
returns c =
    let put : c.put-2.new.capture.items ≡ c.loop-color.capture.items ++ run_bytes c.loop-color.run = c.in_ok-put-2.ensures in
    put ∙ ap (λ (x : List ℕ). c.loop-color.capture.items ++ x) (sym (runs-last c.loop-color.run c.loop-color.rest.now (sym c.in_default-pixel_at.ensures))) ∙ c.loop-color.invariant
