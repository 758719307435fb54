-- How a frame is drawn in passes.
use Rattle.std.specs.Prelude.{◌≡◌, ℕ, ◌<◌, ◌⊎◌, false, List, [], ◌∷◌, length, Result, MatchResult}
use Rattle.render_core.specs.BegunFrames.{BegunView, LentView}
use Rattle.render_core.specs.declared.stages.Stage.TheVariants.{Entered}
use Rattle.c_words.specs.declared.faults.Fault.{Fault}
use Rattle.c_words.specs.declared.faults.Fault.TheVariants as faults
use Rattle.c_calls.specs.Begun.{OpenView, IsBetween, IsWithin}
use Rattle.c_calls.specs.Calls.{is_over}
use Rattle.c_calls.specs.Frames.{IsClosed, IsFramed, IsLost, IsStopped, IsUnseen}
use Rattle.c_calls.specs.Views.{ContextView}
use Rattle.c_calls.specs.declared.frame.Framed.{Framed}
use Rattle.c_calls.specs.declared.picture.PictureSink.{PictureSink}

-- why no frame is begun: the context is over, or is so from now on since an encoder was given up; or no frame can be made
abbrev pub IsNotOpened : Fault → (old new : ContextView) → Type 0
IsNotOpened f old new = ((f ≡ faults.Ended) × IsClosed old new) ⊎ ((is_over old ≡ false) × IsStopped f old new)

-- a frame of a context is begun, with no pass out; or the context comes back, with what has come gathered
abbrev pub BeginsFrame : Result OpenView (ContextView × Fault) → ContextView → Type 0
BeginsFrame result old =
    MatchResult result
    (λ o. (is_over old ≡ false) × (o.from ≡ old) × IsBetween o.place)
    (λ p. IsNotOpened p.1 old p.0)

-- a frame between two passes, behind a pass
abbrev pub ended : LentView PictureSink → BegunView PictureSink
ended l = record { opening = l.opening; frame = l.frame; stage = Entered l.entered }

-- a frame is drawn in passes and ends, with the buffer for its picture before and after: as one that is made and rendered at one go, of the context that it was begun on
abbrev pub EndsAsOne : Result Framed Fault → (before after : List ℕ) → (from new : ContextView) → Type 0
EndsAsOne result [] after from new =
    MatchResult result (λ framed. IsUnseen framed from new) (λ f. IsLost f [] [] from new) × (after ≡ [])
EndsAsOne result (b ∷ bs) after from new =
    MatchResult result (λ framed. IsFramed framed (b ∷ bs) after from new) (λ f. IsLost f (b ∷ bs) after from new)

-- why a frame does not end: a pass is out; or the buffer has bytes, and fewer than a picture may have
abbrev pub IsNotEnded : Fault → List ℕ → OpenView → Type 0
IsNotEnded f before o =
    ((f ≡ faults.BadValue) × IsWithin o.place)
    ⊎ (IsBetween o.place × (f ≡ faults.TooSmall) × (0 < length before) × (length before < o.from.most))

-- a frame ends, and its context goes on or is over; or the frame stays as it is, and so does the buffer
abbrev pub EndsFrame : Result (ContextView × Result Framed Fault) (OpenView × Fault) → (before after : List ℕ) → OpenView → Type 0
EndsFrame result before after o =
    MatchResult result
    (λ p. IsBetween o.place × EndsAsOne p.1 before after o.from p.0)
    (λ p. IsNotEnded p.1 before o × (p.0 ≡ o) × (after ≡ before))
