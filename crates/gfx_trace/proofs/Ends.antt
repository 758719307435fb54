-- What each status says of what the source told, and what stands after a job from its parts.
use Rattle.std.proofs.Common.{inl, inr, arith, ◌≤◌, ◌<◌, ◌≡◌, ◌⊎◌, ℕ, ◌+◌, Bool, true, false, ◌&&◌, if◌then◌else◌, nat_lt, List, ◌++◌, length, Option, Some, None, IsSome, is_some, refl, sym, ap, subst, ◌∙◌, [], append-nil}
use Rattle.std.proofs.lemmas.Bool.Decides.{nat_tests}
use Rattle.std.proofs.lemmas.List.{length-append}
use Rattle.std.proofs.lemmas.Option.{same_Some, none-some}
use Rattle.std.specs.Prelude.{option_map}
use Rattle.io_edge.specs.Edge.{with_front, with_back, IsSpent}
use Rattle.io_whole.specs.Whole.{longest, HasMoreThan}
use Rattle.gfx_model.specs.Words.{Handle}
use Rattle.scene_model.specs.Scene.{Scene}
use Rattle.scene_model.specs.Journal.{Journal}
use Rattle.gfx_trace.specs.Asked.{Asked, scene_by, asked_of}
use Rattle.target_laws.specs.Text.{scene_target_lines}
use Rattle.gfx_trace.specs.Ended.{lines_status, place_status, asked_status, status_of, text_of, notes_of, IsPut, IsNoted, AreEnded, HasFailedToNote, HasStopped, IsStopped, IsAnswered, EndsJob, Ends, IsGiven, AreTaken, EndsAs}
use Rattle.io_whole.specs.Runs.{Reading, Putting, HasFailedToTake, IsUntouched, HasPut, HasPutFront, HasTried}
use Rattle.io_whole.proofs.Pieces.{with_back-nothing}
use Rattle.scene_tracing.specs.Stepping.{Told, HasPutText}
use Rattle.scene_tracing.specs.declared.stepped.StepsEnd.{StepsEnd}
use Rattle.gfx_trace.specs.Io.{IsRead}
use Rattle.gfx_trace.specs.Refusals.{pixel_line, refusal_line, target_pixel_line, MayRefuse}
use Rattle.gfx_trace.specs.Jobs.{Job, job_seen}
use Rattle.gfx_trace.specs.declared.words.Job as code
use Rattle.gfx_trace.specs.declared.words.Place.{Place}
use Rattle.gfx_trace.specs.Jobs as jobs
use Rattle.gfx_trace.specs.declared.status.TraceStatus.{TraceStatus}
use Rattle.gfx_trace.specs.declared.status.TraceStatus.TheVariants as status

-- ---- what was read is what was told

told_is : (bytes b : List ℕ) (after : Option (List ℕ)) → Some bytes ≡ with_front b after → IsSpent after → b ≡ bytes
told_is bytes b None e s = absurd (none-some bytes (sym e))
told_is bytes b (Some r) e s = sym (same_Some bytes (b ++ []) (e ∙ ap (λ x. Some (b ++ x)) s) ∙ append-nil b)

read_told : (bytes b : List ℕ) (source : Reading) → source.before ≡ Some bytes → IsRead b source → b ≡ bytes
read_told bytes b source told r = told_is bytes b source.after (sym told ∙ r.given) r.ended

longer : (n : ℕ) (bytes b : List ℕ) (rest : Option (List ℕ)) → Some bytes ≡ with_front b rest → n < length b → n < length bytes
longer n bytes b None e lt = absurd (none-some bytes (sym e))
longer n bytes b (Some r) e lt = let long : length bytes ≡ length b + length r = ap length (same_Some bytes (b ++ r) e) ∙ length-append b r in omega (arith, long, lt)

within : (n : ℕ) → n ≤ longest → nat_lt longest n ≡ false
within n few = grind (arith, nat_tests)

beyond : (n : ℕ) → longest < n → nat_lt longest n ≡ true
beyond n many = grind (arith, nat_tests)

-- a status of bytes that were read is that of those that were told
status_told : (job : Job) (bytes b : List ℕ) (st : TraceStatus) (source : Reading) → source.before ≡ Some bytes → IsRead b source → asked_status job (asked_of b) ≡ st → status_of (Some job) bytes ≡ st
status_told job bytes b st source told r is =
    let few : length b ≤ longest = r.few in
    ap (status_of (Some job)) (sym (read_told bytes b source told r)) ∙ ap (λ c. if c then status.TooLong else asked_status job (asked_of b)) (within (length b) few) ∙ is

status_long : (job : Job) (bytes : List ℕ) (source : Reading) → source.before ≡ Some bytes → HasMoreThan longest source.before → status_of (Some job) bytes ≡ status.TooLong
status_long job bytes source told h =
    let many : longest < length bytes = longer longest bytes h.bytes h.rest (sym told ∙ h.given) h.many in
    ap (λ c. if c then status.TooLong else asked_status job (asked_of bytes)) (beyond (length bytes) many)

-- ---- how a run ends

sink-taken : (job : Job) (sink notes : Putting) → AreTaken (Some job) sink notes → HasFailedToTake sink → ⊥
sink-taken (jobs.pixel_job p) sink notes t = t
sink-taken (jobs.target_job p name) sink notes t = t
sink-taken (jobs.steps_job frame) sink notes t = t.0
sink-taken (jobs.blame_job frame) sink notes t = t

notes-taken : (job : Job) (bytes : List ℕ) (sink notes : Putting) → AreTaken (Some job) sink notes → HasFailedToNote job bytes sink notes → ⊥
notes-taken (jobs.pixel_job p) bytes sink notes t h = h
notes-taken (jobs.target_job p name) bytes sink notes t h = h
notes-taken (jobs.steps_job frame) bytes sink notes t h = t.1 h.2
notes-taken (jobs.blame_job frame) bytes sink notes t h = h

job_ends_as : (st : TraceStatus) (job : Job) (source : Reading) (sink notes : Putting) (bytes : List ℕ) → EndsJob st job source sink notes → IsGiven (Some job) source bytes → (status_of (Some job) bytes ≡ status.Done → AreTaken (Some job) sink notes) → EndsAs (status_of (Some job) bytes) st
job_ends_as status.Done job source sink notes bytes (b, r, h) given cut = inl (sym (status_told job bytes b status.Done source given.0 r h.0))
job_ends_as status.Usage job source sink notes bytes (b, r, h) given cut = absurd h
job_ends_as (status.Scene line cause) job source sink notes bytes (b, r, h) given cut = inl (sym (status_told job bytes b (status.Scene line cause) source given.0 r h.0))
job_ends_as status.ReadFault job source sink notes bytes h given cut = absurd (given.1 h.0)
job_ends_as status.PictureFault job source sink notes bytes (b, r, h) given cut = absurd (sink-taken job sink notes (cut (status_told job bytes b status.Done source given.0 r h.0)) h.2)
job_ends_as status.NoteFault job source sink notes bytes (b, r, h) given cut = absurd (notes-taken job b sink notes (cut (status_told job bytes b status.Done source given.0 r h.0)) h.1)
job_ends_as status.TooLong job source sink notes bytes h given cut = inl (sym (status_long job bytes source given.0 h.0))
job_ends_as (status.Journal place) job source sink notes bytes (b, r, h) given cut = inl (sym (status_told job bytes b (status.Journal place) source given.0 r h.0))
job_ends_as status.OutOfMemory job source sink notes bytes h given cut = inr refl
job_ends_as status.NoFrame job source sink notes bytes (b, r, h) given cut = inl (sym (status_told job bytes b status.NoFrame source given.0 r h.0))
job_ends_as status.NoPixel job source sink notes bytes (b, r, h) given cut = inl (sym (status_told job bytes b status.NoPixel source given.0 r h.0))

-- where nothing failed to take what was put, or the definition refuses the run, it ends as the definition says, or for want of memory
pub ends_as : (st : TraceStatus) (o : Option Job) (source : Reading) (sink notes : Putting) (bytes : List ℕ) → Ends st o source sink notes → IsGiven o source bytes → (status_of o bytes ≡ status.Done → AreTaken o sink notes) → EndsAs (status_of o bytes) st
ends_as st None source sink notes bytes h given cut = inl h.0
ends_as st (Some job) source sink notes bytes h given cut = job_ends_as st job source sink notes bytes h given cut

-- ---- the job of the words

pub job_run : (st : TraceStatus) (o : Option Job) (r : Option code.Job) (job : code.Job) (source : Reading) (sink notes : Putting) → option_map job_seen r ≡ o → r ≡ Some job → EndsJob st (job_seen job) source sink notes → Ends st o source sink notes
job_run st o r job source sink notes seen is h = subst (λ (i : Option Job). Ends st i source sink notes) (sym (ap (option_map job_seen) is) ∙ seen) h

pub none_run : (st : TraceStatus) (o : Option Job) (r : Option code.Job) (source : Reading) (sink notes : Putting) → option_map job_seen r ≡ o → r ≡ None → Ends st None source sink notes → Ends st o source sink notes
none_run st o r source sink notes seen is h = subst (λ (i : Option Job). Ends st i source sink notes) (sym (ap (option_map job_seen) is) ∙ seen) h

-- ---- what stands after a job

-- a pixel
pub put_answered : (st : TraceStatus) (p : Place) (bytes text : List ℕ) (sink notes : Putting) → asked_status (jobs.pixel_job p) (asked_of bytes) ≡ status.Done → text_of (jobs.pixel_job p) bytes ≡ text → IsPut st text sink → IsUntouched notes
    → IsAnswered st (jobs.pixel_job p) bytes sink notes
put_answered status.Done p bytes text sink notes is same h quiet = (is, h ∙ ap (with_back sink.before) (sym same), quiet)
put_answered status.Usage p bytes text sink notes is same h quiet = absurd h
put_answered (status.Scene line cause) p bytes text sink notes is same h quiet = absurd h
put_answered status.ReadFault p bytes text sink notes is same h quiet = absurd h
put_answered status.PictureFault p bytes text sink notes is same h quiet = (is, subst (λ (t : List ℕ). HasPutFront t sink) (sym same) h.0, h.1, quiet)
put_answered status.NoteFault p bytes text sink notes is same h quiet = absurd h
put_answered status.TooLong p bytes text sink notes is same h quiet = absurd h
put_answered (status.Journal place) p bytes text sink notes is same h quiet = absurd h
put_answered status.OutOfMemory p bytes text sink notes is same h quiet = (h, quiet)
put_answered status.NoFrame p bytes text sink notes is same h quiet = absurd h
put_answered status.NoPixel p bytes text sink notes is same h quiet = absurd h

-- a pixel of a frame buffer
pub target_answered : (st : TraceStatus) (p : Place) (name bytes text : List ℕ) (sink notes : Putting) → asked_status (jobs.target_job p name) (asked_of bytes) ≡ status.Done → text_of (jobs.target_job p name) bytes ≡ text → IsPut st text sink → IsUntouched notes
    → IsAnswered st (jobs.target_job p name) bytes sink notes
target_answered status.Done p name bytes text sink notes is same h quiet = (is, h ∙ ap (with_back sink.before) (sym same), quiet)
target_answered status.Usage p name bytes text sink notes is same h quiet = absurd h
target_answered (status.Scene line cause) p name bytes text sink notes is same h quiet = absurd h
target_answered status.ReadFault p name bytes text sink notes is same h quiet = absurd h
target_answered status.PictureFault p name bytes text sink notes is same h quiet = (is, subst (λ (t : List ℕ). HasPutFront t sink) (sym same) h.0, h.1, quiet)
target_answered status.NoteFault p name bytes text sink notes is same h quiet = absurd h
target_answered status.TooLong p name bytes text sink notes is same h quiet = absurd h
target_answered (status.Journal place) p name bytes text sink notes is same h quiet = absurd h
target_answered status.OutOfMemory p name bytes text sink notes is same h quiet = (h, quiet)
target_answered status.NoFrame p name bytes text sink notes is same h quiet = absurd h
target_answered status.NoPixel p name bytes text sink notes is same h quiet = absurd h

-- a picture of deeds
pub blame_answered : (st : TraceStatus) (frame : ℕ) (bytes text : List ℕ) (sink notes : Putting) → asked_status (jobs.blame_job frame) (asked_of bytes) ≡ status.Done → text_of (jobs.blame_job frame) bytes ≡ text → IsPut st text sink → IsUntouched notes
    → IsAnswered st (jobs.blame_job frame) bytes sink notes
blame_answered status.Done frame bytes text sink notes is same h quiet = (is, h ∙ ap (with_back sink.before) (sym same), quiet)
blame_answered status.Usage frame bytes text sink notes is same h quiet = absurd h
blame_answered (status.Scene line cause) frame bytes text sink notes is same h quiet = absurd h
blame_answered status.ReadFault frame bytes text sink notes is same h quiet = absurd h
blame_answered status.PictureFault frame bytes text sink notes is same h quiet = (is, subst (λ (t : List ℕ). HasPutFront t sink) (sym same) h.0, h.1, quiet)
blame_answered status.NoteFault frame bytes text sink notes is same h quiet = absurd h
blame_answered status.TooLong frame bytes text sink notes is same h quiet = absurd h
blame_answered (status.Journal place) frame bytes text sink notes is same h quiet = absurd h
blame_answered status.OutOfMemory frame bytes text sink notes is same h quiet = (h, quiet)
blame_answered status.NoFrame frame bytes text sink notes is same h quiet = absurd h
blame_answered status.NoPixel frame bytes text sink notes is same h quiet = absurd h

-- the lines of steps whose pictures were put
pub noted_ended : (st : TraceStatus) (end : StepsEnd) (lines : List ℕ) (notes : Putting) → end.fault ≡ None → IsNoted st lines notes → AreEnded st end lines notes
noted_ended status.Done end lines notes none h = (none, h)
noted_ended status.Usage end lines notes none h = absurd h
noted_ended (status.Scene line cause) end lines notes none h = absurd h
noted_ended status.ReadFault end lines notes none h = absurd h
noted_ended status.PictureFault end lines notes none h = absurd h
noted_ended status.NoteFault end lines notes none h = (none, h.0, h.1)
noted_ended status.TooLong end lines notes none h = absurd h
noted_ended (status.Journal place) end lines notes none h = absurd h
noted_ended status.OutOfMemory end lines notes none h = h
noted_ended status.NoFrame end lines notes none h = absurd h
noted_ended status.NoPixel end lines notes none h = absurd h

-- steps, by how they ended
module _ (frame : ℕ) (bytes text lines : List ℕ) (old : Told) (end : StepsEnd) (new : Told) (notes : Putting) (is : asked_status (jobs.steps_job frame) (asked_of bytes) ≡ status.Done)
    (text_is : text_of (jobs.steps_job frame) bytes ≡ text) (lines_are : end.fault ≡ None → notes_of (jobs.steps_job frame) bytes ≡ lines) (put : HasPutText text old end new) where
  abbrev sink : Putting
  sink = record { before = old.held; after = new.held; faults_before = old.faults; faults_after = new.faults }

  whole : end.fault ≡ None → HasPut (text_of (jobs.steps_job frame) bytes) sink
  whole none = put.whole none ∙ ap (with_back old.held) (sym text_is)

  front : HasPutFront (text_of (jobs.steps_job frame) bytes) sink
  front = subst (λ (t : List ℕ). HasPutFront t sink) (sym text_is) put.front

  pub steps_answered : (st : TraceStatus) → AreEnded st end lines notes → IsAnswered st (jobs.steps_job frame) bytes sink notes
  steps_answered status.Done h = (is, whole h.0, h.1 ∙ ap (with_back notes.before) (sym (lines_are h.0)))
  steps_answered status.Usage h = absurd h
  steps_answered (status.Scene line cause) h = absurd h
  steps_answered status.ReadFault h = absurd h
  steps_answered status.PictureFault h = (is, front, put.fault h.0, h.1)
  steps_answered status.NoteFault h = (is, (whole h.0, subst (λ (t : List ℕ). HasPutFront t notes) (sym (lines_are h.0)) h.1, h.2))
  steps_answered status.TooLong h = absurd h
  steps_answered (status.Journal place) h = absurd h
  steps_answered status.OutOfMemory h = (front, h)
  steps_answered status.NoFrame h = absurd h
  steps_answered status.NoPixel h = absurd h

-- nothing is a front
none_front : (text : List ℕ) (sink : Putting) → IsUntouched sink → HasPutFront text sink
none_front text sink h = (0, h ∙ with_back-nothing sink.before)

-- nothing was put where memory ran out
none_stopped : (job : Job) (bytes : List ℕ) (sink : Putting) → IsUntouched sink → HasStopped job bytes sink
none_stopped (jobs.pixel_job p) bytes sink h = h
none_stopped (jobs.target_job p name) bytes sink h = h
none_stopped (jobs.blame_job frame) bytes sink h = h
none_stopped (jobs.steps_job frame) bytes sink h = none_front (text_of (jobs.steps_job frame) bytes) sink h

pub memory_answered : (job : Job) (bytes : List ℕ) (sink notes : Putting) → IsUntouched sink → IsUntouched notes → IsAnswered status.OutOfMemory job bytes sink notes
memory_answered job bytes sink notes u q = (none_stopped job bytes sink u, q)

pub memory_ends : (job : Job) (source : Reading) (sink notes : Putting) → IsUntouched sink → IsUntouched notes → EndsJob status.OutOfMemory job source sink notes
memory_ends job source sink notes u q = (go job, q)
  where
    go : (job : Job) → IsStopped job source sink
    go (jobs.pixel_job p) = u
    go (jobs.target_job p name) = u
    go (jobs.steps_job frame) = inl u
    go (jobs.blame_job frame) = u

-- the statuses with which a job over bytes is refused
abbrev pub IsRefusal : TraceStatus → Type 0
IsRefusal (status.Scene line cause) = Unit {0}
IsRefusal (status.Journal place) = Unit {0}
IsRefusal status.NoFrame = Unit {0}
IsRefusal status.NoPixel = Unit {0}
IsRefusal _ = ⊥

refusal_is : (st : TraceStatus) (job : Job) (bytes : List ℕ) (sink notes : Putting) → IsRefusal st → asked_status job (asked_of bytes) ≡ st → IsUntouched sink → HasTried (refusal_line job (asked_of bytes) st) notes → IsAnswered st job bytes sink notes
refusal_is status.Done job bytes sink notes r is u t = absurd r
refusal_is status.Usage job bytes sink notes r is u t = absurd r
refusal_is (status.Scene line cause) job bytes sink notes r is u t = (is, u, t)
refusal_is status.ReadFault job bytes sink notes r is u t = absurd r
refusal_is status.PictureFault job bytes sink notes r is u t = absurd r
refusal_is status.NoteFault job bytes sink notes r is u t = absurd r
refusal_is status.TooLong job bytes sink notes r is u t = absurd r
refusal_is (status.Journal place) job bytes sink notes r is u t = (is, u, t)
refusal_is status.OutOfMemory job bytes sink notes r is u t = absurd r
refusal_is status.NoFrame job bytes sink notes r is u t = (is, u, t)
refusal_is status.NoPixel job bytes sink notes r is u t = (is, u, t)

pub refused_answered : (wanted st : TraceStatus) (job : Job) (bytes line : List ℕ) (sink notes : Putting) → IsRefusal wanted → asked_status job (asked_of bytes) ≡ wanted → refusal_line job (asked_of bytes) wanted ≡ line → IsUntouched sink → MayRefuse wanted st line notes
    → IsAnswered st job bytes sink notes
refused_answered wanted st job bytes line sink notes r is same u (inl (e, t)) =
    subst (λ (x : TraceStatus). IsAnswered x job bytes sink notes) (sym e) (refusal_is wanted job bytes sink notes r is u (subst (λ (l : List ℕ). HasTried l notes) (sym same) t))
refused_answered wanted st job bytes line sink notes r is same u (inr (e, q)) = subst (λ (x : TraceStatus). IsAnswered x job bytes sink notes) (sym e) (none_stopped job bytes sink u, q)

stopped_ends : (job : Job) (bytes : List ℕ) (source : Reading) (sink : Putting) → IsRead bytes source → HasStopped job bytes sink → IsStopped job source sink
stopped_ends (jobs.pixel_job p) bytes source sink r h = h
stopped_ends (jobs.target_job p name) bytes source sink r h = h
stopped_ends (jobs.steps_job frame) bytes source sink r h = inr (bytes, r, h)
stopped_ends (jobs.blame_job frame) bytes source sink r h = h

pub answered_ends : (st : TraceStatus) (job : Job) (bytes : List ℕ) (source : Reading) (sink notes : Putting) → IsRead bytes source → IsAnswered st job bytes sink notes → EndsJob st job source sink notes
answered_ends status.Done job bytes source sink notes r h = (bytes, r, h)
answered_ends status.Usage job bytes source sink notes r h = absurd h
answered_ends (status.Scene line cause) job bytes source sink notes r h = (bytes, r, h)
answered_ends status.ReadFault job bytes source sink notes r h = absurd h
answered_ends status.PictureFault job bytes source sink notes r h = (bytes, r, h)
answered_ends status.NoteFault job bytes source sink notes r h = (bytes, r, h)
answered_ends status.TooLong job bytes source sink notes r h = absurd h
answered_ends (status.Journal place) job bytes source sink notes r h = (bytes, r, h)
answered_ends status.OutOfMemory job bytes source sink notes r h = (stopped_ends job bytes source sink r h.0, h.1)
answered_ends status.NoFrame job bytes source sink notes r h = (bytes, r, h)
answered_ends status.NoPixel job bytes source sink notes r h = (bytes, r, h)

-- ---- the frame and the pixel

abbrev by_tests : (frame pixel : Bool) → TraceStatus
by_tests frame pixel = if frame then (if pixel then status.Done else status.NoPixel) else status.NoFrame

module _ (s : Scene) (j : Journal) (p : Place) where
  abbrev is_inside : Bool
  is_inside = nat_lt p.x s.width && nat_lt p.y s.height

  pub no_frame : nat_lt p.frame (length s.frames) ≡ false → place_status s j (jobs.pixel_job p) ≡ status.NoFrame
  no_frame e = ap (λ b. by_tests b is_inside) e

  pub no_pixel : nat_lt p.frame (length s.frames) ≡ true → is_inside ≡ false → place_status s j (jobs.pixel_job p) ≡ status.NoPixel
  no_pixel e f = ap (λ b. by_tests b is_inside) e ∙ ap (by_tests true) f

  pub is_there : nat_lt p.frame (length s.frames) ≡ true → is_inside ≡ true → place_status s j (jobs.pixel_job p) ≡ status.Done
  is_there e f = ap (λ b. by_tests b is_inside) e ∙ ap (by_tests true) f

module _ (s : Scene) (j : Journal) (frame : ℕ) where
  abbrev by_frame : Bool → TraceStatus
  by_frame has = if has then status.Done else status.NoFrame

  pub no_steps : nat_lt frame (length s.frames) ≡ false → place_status s j (jobs.steps_job frame) ≡ status.NoFrame
  no_steps e = ap by_frame e

  pub are_there : nat_lt frame (length s.frames) ≡ true → place_status s j (jobs.steps_job frame) ≡ status.Done
  are_there e = ap by_frame e

  steps_frame : (b : Bool) → nat_lt frame (length s.frames) ≡ b → by_frame b ≡ status.Done → frame < length s.frames
  steps_frame true is e = grind (arith, nat_tests)
  steps_frame false is e = absurd (cc e)

  pub steps_there : place_status s j (jobs.steps_job frame) ≡ status.Done → frame < length s.frames
  steps_there e = steps_frame (nat_lt frame (length s.frames)) refl e

  pub no_blame : nat_lt frame (length s.frames) ≡ false → place_status s j (jobs.blame_job frame) ≡ status.NoFrame
  no_blame e = ap by_frame e

  pub is_blamed : nat_lt frame (length s.frames) ≡ true → place_status s j (jobs.blame_job frame) ≡ status.Done
  is_blamed e = ap by_frame e

  pub blame_there : place_status s j (jobs.blame_job frame) ≡ status.Done → frame < length s.frames
  blame_there e = steps_frame (nat_lt frame (length s.frames)) refl e

module _ (s : Scene) (j : Journal) (p : Place) (name : List ℕ) where
  abbrev lines_in : Option (List ℕ)
  lines_in = scene_target_lines s j p.frame name p.x p.y

  abbrev by_lines : Bool → Option (List ℕ) → TraceStatus
  by_lines has o = if has then lines_status o else status.NoFrame

  pub no_target_frame : nat_lt p.frame (length s.frames) ≡ false → place_status s j (jobs.target_job p name) ≡ status.NoFrame
  no_target_frame e = ap (λ b. by_lines b lines_in) e

  told_status : (o : Option (List ℕ)) → is_some o ≡ true → lines_status o ≡ status.Done
  told_status None e = absurd (cc e)
  told_status (Some lines) e = refl

  none_status : (o : Option (List ℕ)) → is_some o ≡ false → lines_status o ≡ status.NoPixel
  none_status None e = refl
  none_status (Some lines) e = absurd (cc e)

  pub target_told : nat_lt p.frame (length s.frames) ≡ true → is_some lines_in ≡ true → place_status s j (jobs.target_job p name) ≡ status.Done
  target_told e is = ap (λ b. by_lines b lines_in) e ∙ told_status lines_in is

  pub target_none : nat_lt p.frame (length s.frames) ≡ true → is_some lines_in ≡ false → place_status s j (jobs.target_job p name) ≡ status.NoPixel
  target_none e is = ap (λ b. by_lines b lines_in) e ∙ none_status lines_in is

  -- the line of a pixel that the frame buffer does not have
  pub pixel_refused : (o : Option Handle) → IsSome o → target_pixel_line p name o ≡ pixel_line p.x p.y
  pixel_refused None is = absurd (cc is)
  pixel_refused (Some t) is = refl

  lines_done : (b : Bool) (o : Option (List ℕ)) → nat_lt p.frame (length s.frames) ≡ b → lines_in ≡ o → by_lines b o ≡ status.Done → (p.frame < length s.frames) × (lines : List ℕ) × (lines_in ≡ Some lines)
  lines_done true (Some lines) is told e = (grind (arith, nat_tests), lines, told)
  lines_done true None is told e = absurd (cc e)
  lines_done false o is told e = absurd (cc e)

  pub target_there : place_status s j (jobs.target_job p name) ≡ status.Done → (p.frame < length s.frames) × (lines : List ℕ) × (lines_in ≡ Some lines)
  target_there e = lines_done (nat_lt p.frame (length s.frames)) lines_in refl refl e

first : (a b : Bool) → by_tests a b ≡ status.Done → a ≡ true
first true b e = refl
first false b e = absurd (cc e)

both : (a b : Bool) → by_tests a b ≡ status.Done → b ≡ true
both true true e = refl
both true false e = absurd (cc e)
both false b e = absurd (cc e)

pub inside : (x w y h : ℕ) → (nat_lt x w && nat_lt y h) ≡ true → (x < w) × (y < h)
inside x w y h e = (grind (arith, nat_tests), grind (arith, nat_tests))

below : (k n : ℕ) → nat_lt k n ≡ true → k < n
below k n e = grind (arith, nat_tests)

-- a scene has a frame, and its pictures have a pixel
pub record IsThere (s : Scene) (p : Place) : Type 0 where
  pub frame : p.frame < length s.frames
  pub column : p.x < s.width
  pub row : p.y < s.height

done_there : (s : Scene) (j : Journal) (p : Place) → place_status s j (jobs.pixel_job p) ≡ status.Done → IsThere s p
done_there s j p e =
    let frame = nat_lt p.frame (length s.frames) in
    let pixel = nat_lt p.x s.width && nat_lt p.y s.height in
    let h = inside p.x s.width p.y s.height (both frame pixel e) in
    record { frame = below p.frame (length s.frames) (first frame pixel e); column = h.0; row = h.1 }

pixel_done : (p : Place) (source : Reading) (sink notes : Putting) (bytes : List ℕ) (s : Scene) (j : Journal) → EndsJob status.Done (jobs.pixel_job p) source sink notes → source.before ≡ Some bytes → asked_of bytes ≡ scene_by s j → IsThere s p
pixel_done p source sink notes bytes s j (b, r, h) told asked =
    done_there s j p (ap (asked_status (jobs.pixel_job p)) (sym asked ∙ ap asked_of (sym (read_told bytes b source told r))) ∙ h.0)

-- a pixel whose history was put is in the pictures
pub pixel_is_there : (st : TraceStatus) (o : Option Job) (source : Reading) (sink notes : Putting) (bytes : List ℕ) (s : Scene) (j : Journal) (p : Place) → Ends st o source sink notes → st ≡ status.Done → o ≡ Some (jobs.pixel_job p)
    → source.before ≡ Some bytes → asked_of bytes ≡ scene_by s j → IsThere s p
pixel_is_there st o source sink notes bytes s j p h done words told asked =
    pixel_done p source sink notes bytes s j (subst (λ (i : Option Job). Ends status.Done i source sink notes) words (subst (λ (t : TraceStatus). Ends t o source sink notes) done h)) told asked

steps_done : (frame : ℕ) (source : Reading) (sink notes : Putting) (bytes : List ℕ) (s : Scene) (j : Journal) → EndsJob status.Done (jobs.steps_job frame) source sink notes → source.before ≡ Some bytes → asked_of bytes ≡ scene_by s j → frame < length s.frames
steps_done frame source sink notes bytes s j (b, r, h) told asked =
    steps_there s j frame (ap (asked_status (jobs.steps_job frame)) (sym asked ∙ ap asked_of (sym (read_told bytes b source told r))) ∙ h.0)

-- a frame whose steps were put is there
pub frame_is_there : (st : TraceStatus) (o : Option Job) (source : Reading) (sink notes : Putting) (bytes : List ℕ) (s : Scene) (j : Journal) (frame : ℕ) → Ends st o source sink notes → st ≡ status.Done → o ≡ Some (jobs.steps_job frame)
    → source.before ≡ Some bytes → asked_of bytes ≡ scene_by s j → frame < length s.frames
frame_is_there st o source sink notes bytes s j frame h done words told asked =
    steps_done frame source sink notes bytes s j (subst (λ (i : Option Job). Ends status.Done i source sink notes) words (subst (λ (t : TraceStatus). Ends t o source sink notes) done h)) told asked

blame_done : (frame : ℕ) (source : Reading) (sink notes : Putting) (bytes : List ℕ) (s : Scene) (j : Journal) → EndsJob status.Done (jobs.blame_job frame) source sink notes → source.before ≡ Some bytes → asked_of bytes ≡ scene_by s j → frame < length s.frames
blame_done frame source sink notes bytes s j (b, r, h) told asked =
    blame_there s j frame (ap (asked_status (jobs.blame_job frame)) (sym asked ∙ ap asked_of (sym (read_told bytes b source told r))) ∙ h.0)

-- a frame whose deeds were put as a picture is there
pub blame_is_there : (st : TraceStatus) (o : Option Job) (source : Reading) (sink notes : Putting) (bytes : List ℕ) (s : Scene) (j : Journal) (frame : ℕ) → Ends st o source sink notes → st ≡ status.Done → o ≡ Some (jobs.blame_job frame)
    → source.before ≡ Some bytes → asked_of bytes ≡ scene_by s j → frame < length s.frames
blame_is_there st o source sink notes bytes s j frame h done words told asked =
    blame_done frame source sink notes bytes s j (subst (λ (i : Option Job). Ends status.Done i source sink notes) words (subst (λ (t : TraceStatus). Ends t o source sink notes) done h)) told asked

-- a pixel of a frame buffer whose lines were put: the frame is there, the pixel has lines, and the bytes are not too many
pub record IsTargetThere (bytes : List ℕ) (s : Scene) (j : Journal) (p : Place) (name : List ℕ) : Type 0 where
  pub frame : p.frame < length s.frames
  pub text : List ℕ
  pub told : scene_target_lines s j p.frame name p.x p.y ≡ Some text
  pub few : length bytes ≤ longest

target_done : (p : Place) (name : List ℕ) (source : Reading) (sink notes : Putting) (bytes : List ℕ) (s : Scene) (j : Journal) → EndsJob status.Done (jobs.target_job p name) source sink notes → source.before ≡ Some bytes → asked_of bytes ≡ scene_by s j
    → IsTargetThere bytes s j p name
target_done p name source sink notes bytes s j (b, r, h) told asked =
    let same : b ≡ bytes = read_told bytes b source told r in
    let there = target_there s j p name (ap (asked_status (jobs.target_job p name)) (sym asked ∙ ap asked_of (sym same)) ∙ h.0) in
    record { frame = there.0; text = there.1; told = there.2; few = subst (λ (x : List ℕ). length x ≤ longest) same r.few }

pub target_is_there : (st : TraceStatus) (o : Option Job) (source : Reading) (sink notes : Putting) (bytes : List ℕ) (s : Scene) (j : Journal) (p : Place) (name : List ℕ) → Ends st o source sink notes → st ≡ status.Done → o ≡ Some (jobs.target_job p name)
    → source.before ≡ Some bytes → asked_of bytes ≡ scene_by s j → IsTargetThere bytes s j p name
target_is_there st o source sink notes bytes s j p name h done words told asked =
    target_done p name source sink notes bytes s j (subst (λ (i : Option Job). Ends status.Done i source sink notes) words (subst (λ (t : TraceStatus). Ends t o source sink notes) done h)) told asked
