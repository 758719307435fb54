-- Reading one run after the other, and one frame after the other, as loops do.
use Rattle.std.proofs.Common.{◌≡◌, ℕ, suc, ◌+◌, ◌-◌, ◌*◌, ◌<◌, ◌≤◌, List, [], ◌∷◌, ◌++◌, length, Option, Some, Result, Ok, Err, refl, sym, ap, subst, ◌∙◌, append_assoc, append-nil, arith}
use Rattle.frame_capture.specs.declared.fault.FieldFault.{FieldFault}
use Rattle.frame_capture.specs.declared.fault.FieldFault.TheVariants as fields
use Rattle.frame_capture.specs.declared.run.Run.{Run}
use Rattle.frame_capture.specs.Capture.{run_text}
use Rattle.frame_capture.specs.Fault.{◌>>=◌, Fault, Head, behind, ended, run_at, runs_at, frame_at, frames_at, head_at, shown}
use Rattle.frame_capture.specs.Film.{text_head}
use Rattle.frame_capture.specs.Gives.{Fails, FailsAt, after_texts}
use Rattle.frame_capture.specs.Gives as gives
use Rattle.frame_capture.proofs.FieldLaws.{bind_ok, ok_is}
use Rattle.frame_capture.proofs.Runs.{run-is, runs-step, runs-stop, runs-end}

behind-behind : (t u : List ℕ) (read : Result (List ℕ × List ℕ) ℕ) → behind t (behind u read) ≡ behind (t ++ u) read
behind-behind t u (Ok x) = ap (λ (y : List ℕ). Ok (y, x.1)) (sym (append_assoc t u x.0))
behind-behind t u (Err e) = refl

pub run-more : (before : Option Run) (n : ℕ) (t bytes : List ℕ) (r : Run) (after : List ℕ) (total : Result (List ℕ × List ℕ) ℕ) → 0 < n → run_at before n bytes ≡ Ok (r, after)
    → behind t (runs_at before n bytes) ≡ total → behind (t ++ run_text r) (runs_at (Some r) (n - r.count) after) ≡ total
run-more before n t bytes r after total some is so_far =
    let h = run-is before n bytes r after is in
    let one : runs_at before n bytes ≡ behind (run_text r) (runs_at (Some r) (n - r.count) after) = ap (runs_at before n) h.spelled ∙ runs-step before n r after some h.stands in
    sym (behind-behind t (run_text r) (runs_at (Some r) (n - r.count) after)) ∙ ap (behind t) (sym one) ∙ so_far

pub run-fails : (fault : FieldFault) (before : Option Run) (n : ℕ) (t bytes : List ℕ) (total : Result (List ℕ × List ℕ) ℕ) → 0 < n → Fails fault (run_at before n bytes)
    → behind t (runs_at before n bytes) ≡ total → Fails fault total
run-fails fields.OutOfMemory before n t bytes total some fails so_far = tt
run-fails (fields.Bad cause) before n t bytes total some fails so_far = sym so_far ∙ ap (behind t) (runs-stop before n bytes cause some fails)

pub runs-done : (before : Option Run) (n : ℕ) (t bytes : List ℕ) (total : Result (List ℕ × List ℕ) ℕ) → n ≤ 0 → behind t (runs_at before n bytes) ≡ total → total ≡ Ok (t, bytes)
runs-done before n t bytes total none so_far =
    let zero-is : n ≡ 0 = omega (arith, none) in
    sym so_far ∙ ap (λ (k : ℕ). behind t (runs_at before k bytes)) zero-is ∙ ap (behind t) (runs-end before bytes) ∙ ap (λ (y : List ℕ). Ok (y, bytes)) (append-nil t)

-- ---- frames

frames-step : (head : List ℕ) (pixels k n : ℕ) (t bytes : List ℕ) (x : List ℕ × List ℕ) → frame_at k pixels bytes ≡ Ok x
    → after_texts t (frames_at head pixels k (suc n) bytes) ≡ after_texts ((t ++ head) ++ x.0) (frames_at head pixels (k + 1) n x.1)
unfolding frames_at
frames-step head pixels k n t bytes x is = rw is (joined (frames_at head pixels (k + 1) n x.1))
  where
    joined : (read : Result (List ℕ) Fault) → after_texts t (read >>= λ o. Ok (head ++ (x.0 ++ o))) ≡ after_texts ((t ++ head) ++ x.0) read
    joined (Ok o) = ap (λ (y : List ℕ). Ok y) (sym (append_assoc (t ++ head) x.0 o ∙ append_assoc t head (x.0 ++ o)))
    joined (Err e) = refl

pub frame-more : (head : List ℕ) (pixels k n m : ℕ) (t bytes put after : List ℕ) (total : Result (List ℕ) Fault) → n ≡ suc m → behind (t ++ head) (frame_at k pixels bytes) ≡ Ok (put, after)
    → after_texts t (frames_at head pixels k n bytes) ≡ total → after_texts put (frames_at head pixels (k + 1) m after) ≡ total
frame-more head pixels k n m t bytes put after total count is so_far =
    let x = bind_ok (frame_at k pixels bytes) (λ y. Ok ((t ++ head) ++ y.0, y.1)) (put, after) is in
    let both = ok_is {E = ℕ} ((t ++ head) ++ x.0.0, x.0.1) (put, after) x.2 in
    subst (λ (p : List ℕ × List ℕ). after_texts p.0 (frames_at head pixels (k + 1) m p.1) ≡ total) both
    (sym (frames-step head pixels k m t bytes x.0 x.1) ∙ ap (λ (c : ℕ). after_texts t (frames_at head pixels k c bytes)) (sym count) ∙ so_far)

frames-stop : (head : List ℕ) (pixels k n : ℕ) (bytes : List ℕ) (cause : ℕ) → frame_at k pixels bytes ≡ Err cause → frames_at head pixels k (suc n) bytes ≡ Err (record { frame = k; cause = cause })
unfolding frames_at
frames-stop head pixels k n bytes cause is = rw is refl

behind-err : (t : List ℕ) (read : Result (List ℕ × List ℕ) ℕ) (cause : ℕ) → behind t read ≡ Err cause → read ≡ Err cause
behind-err t (Ok x) cause e = absurd cc
behind-err t (Err d) cause e = cc

pub frame-fails : (fault : FieldFault) (head : List ℕ) (pixels k n m : ℕ) (t u bytes : List ℕ) (total : Result (List ℕ) Fault) → n ≡ suc m → Fails fault (behind u (frame_at k pixels bytes))
    → after_texts t (frames_at head pixels k n bytes) ≡ total → FailsAt (gives.behind k fault) total
frame-fails fields.OutOfMemory head pixels k n m t u bytes total count fails so_far = tt
frame-fails (fields.Bad cause) head pixels k n m t u bytes total count fails so_far =
    sym so_far ∙ ap (λ (c : ℕ). after_texts t (frames_at head pixels k c bytes)) count ∙ ap (after_texts t) (frames-stop head pixels k m bytes cause (behind-err u (frame_at k pixels bytes) cause fails))

pub frames-end : (head : List ℕ) (pixels k n : ℕ) (t bytes : List ℕ) (total : Result (List ℕ) Fault) → n ≡ 0 → after_texts t (frames_at head pixels k n bytes) ≡ total → total ≡ after_texts t (ended k bytes)
unfolding frames_at
frames-end head pixels k n t bytes total none so_far = sym so_far ∙ ap (λ (c : ℕ). after_texts t (frames_at head pixels k c bytes)) none

pub none-left : (t : List ℕ) (k : ℕ) (bytes : List ℕ) → bytes ≡ [] → after_texts t (ended k bytes) ≡ Ok t
none-left t k bytes e = ap (λ (b : List ℕ). after_texts t (ended k b)) e ∙ ap (λ (y : List ℕ). Ok y) (append-nil t)

pub some-left : (t : List ℕ) (k f : ℕ) (bytes : List ℕ) → k ≡ f → (length bytes ≡ 0 → ⊥) → after_texts t (ended k bytes) ≡ Err (record { frame = f; cause = 6 })
some-left t k f [] same some = absurd (some refl)
some-left t k f (b ∷ bytes) same some = ap (λ (n : ℕ). Err (record { frame = n; cause = 6 })) same

-- ---- the whole

pub no-texts : (read : Result (List ℕ) Fault) → after_texts [] read ≡ read
no-texts (Ok x) = refl
no-texts (Err e) = refl

pub head-fails : (fault : FieldFault) (bytes : List ℕ) → Fails fault (head_at bytes) → FailsAt (gives.behind 0 fault) (shown bytes)
unfolding shown
head-fails fields.OutOfMemory bytes fails = tt
head-fails (fields.Bad cause) bytes fails = rw fails refl

pub head-is : (bytes rest : List ℕ) (h : Head) → head_at bytes ≡ Ok (h, rest) → shown bytes ≡ frames_at (text_head h.width h.height) (h.width * h.height) 0 h.frames rest
unfolding shown
head-is bytes rest h is = rw is refl
