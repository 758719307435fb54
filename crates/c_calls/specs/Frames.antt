-- How a frame ends.
use Rattle.std.specs.Prelude.{◌≡◌, ℕ, ◌<◌, ◌≤◌, ◌⊎◌, true, false, List, [], ◌∷◌, ◌++◌, drop, length, Option, Some, None, Result, Ok, Err, MatchResult}
use Rattle.scene_model.specs.Output.{picture_text}
use Rattle.gfx_words.specs.declared.refusals.Refusal.TheVariants as refusals
use Rattle.context_core.specs.Ended.{IsReady, IsNotReady, Gives}
use Rattle.context_core.specs.Gathered.{dropped_in}
use Rattle.context_core.specs.States.{CoreView}
use Rattle.context_core.specs.declared.ending.Prepared.{Prepared}
use Rattle.context_core.specs.declared.ending.NotReady.{NotReady}
use Rattle.context_core.specs.declared.ending.NotReady.TheVariants as causes
use Rattle.frame_record.specs.declared.frame.Frame.{Frame}
use Rattle.frame_record.specs.declared.frame.RenderedFrame.{RenderedFrame}
use Rattle.render_core.specs.Outcomes.{is_shown}
use Rattle.render_core.specs.Rendered.{Rendering, IsRendered}
use Rattle.c_words.specs.declared.faults.Fault.{Fault}
use Rattle.c_words.specs.declared.faults.Fault.TheVariants as faults
use Rattle.c_calls.specs.declared.frame.Framed.{Framed}
use Rattle.letter_boxes.specs.Letters.{Letter}
use Rattle.c_calls.specs.Calls.{Gathers, is_over}
use Rattle.c_calls.specs.declared.standing.Standing.TheVariants.{GivenUp}
use Rattle.c_calls.specs.Standings.{is_open, stands, SaysGivenUp}
use Rattle.c_calls.specs.Views.{ContextView}

-- a core whose frame came back
abbrev pub came_back : CoreView → CoreView
came_back c = record c { state = record c.state { out = 0 } }

-- what has come is gathered, and the core makes a frame of it, which is out no longer
pub record IsMade (f : Frame) (dropped : ℕ) (old new : ContextView) : Type 0 where
  pub mid : CoreView
  pub gathers : Gathers old.core mid
  pub dropped_is : dropped ≡ dropped_in mid.state.gathered
  pub prepared : Prepared
  pub ready : CoreView
  pub made : CoreView
  pub is_ready : IsReady prepared mid ready
  pub gives : Gives prepared.work f ready made
  pub after : new ≡ record old { core = came_back made }

-- what C is told where the end of a frame is not ready
abbrev pub fault_of : NotReady → Fault
fault_of causes.EncodersOff = faults.TryAgain
fault_of causes.FramesSpent = faults.Refused refusals.FramesSpent
fault_of causes.OutOfMemory = faults.Refused refusals.OutOfMemory

-- why no frame is made: an encoder has not come back, the numbers are spent, or memory is wanting. The core is as it was with what had come gathered
abbrev pub IsNotMade : Fault → (mid new : CoreView) → Type 0
IsNotMade f mid new = (cause : NotReady) × (f ≡ fault_of cause) × IsNotReady cause mid new

-- no frame was made; what has come stays gathered
pub record IsStopped (f : Fault) (old new : ContextView) : Type 0 where
  pub mid : CoreView
  pub gathers : Gathers old.core mid
  pub cause : IsNotMade f mid new.core
  pub same : new ≡ record old { core = new.core }

-- a renderer whose sink is as new
abbrev pub emptied : Rendering → Rendering
emptied r = record r { held = Some []; faults = 0 }

-- a frame is rendered into an empty sink
abbrev pub Shows : Frame → (old new : ContextView) → Type 0
Shows f old new = (r : RenderedFrame) × (r.frame ≡ f) × IsRendered (emptied old.renderer) r new.renderer × (new ≡ record old { renderer = new.renderer; standing = stands (is_shown r.outcome) })

-- a frame is made of what has come and rendered, or not; what is told of it are its number and the sum of the numbers that its encoders ended with
abbrev pub MakesFrame : Result (ℕ × ℕ) Fault → (old new : ContextView) → Type 0
MakesFrame result old new =
    MatchResult result
    (λ p. (mid : ContextView) × (frame : Frame) × (p.0 ≡ frame.number) × IsMade frame p.1 old mid × Shows frame mid new)
    (λ f. IsStopped f old new)

-- the text that a sink holds is copied to the front of a buffer
abbrev pub HandsOut : Option (List ℕ) → (n : ℕ) → (before after : List ℕ) → Type 0
HandsOut None n before after = ⊥
HandsOut (Some text) n before after = (n ≡ length text) × (n ≤ length before) × (after ≡ text ++ drop n before)

-- the text of the picture that a context drew last
abbrev pub picture_of : ContextView → List ℕ
picture_of c = picture_text c.renderer.stores.back.color

-- the frame was shown, and the buffer begins with its picture
pub record IsDelivered (framed : Framed) (f : Frame) (dropped : ℕ) (before after : List ℕ) (old new : ContextView) : Type 0 where
  pub number : framed.number ≡ f.number
  pub dropped_is : framed.dropped ≡ dropped
  pub shows : Shows f old new
  pub shown : is_open new.standing ≡ true
  pub bytes : framed.picture ≡ length (picture_of new)
  pub fits : framed.picture ≤ length before
  pub picture : after ≡ picture_of new ++ drop framed.picture before

-- memory was wanting in its render, and the context is over
pub record IsNotShown (fault : Fault) (f : Frame) (before after : List ℕ) (old new : ContextView) : Type 0 where
  pub wants : fault ≡ faults.Refused refusals.OutOfMemory
  pub shows : Shows f old new
  pub not_shown : is_open new.standing ≡ false
  pub same : after ≡ before

-- a frame is rendered and its picture handed out, or not
abbrev pub Delivers : Result Framed Fault → Frame → (dropped : ℕ) → (before after : List ℕ) → (old new : ContextView) → Type 0
Delivers result f dropped before after old new =
    MatchResult result
    (λ framed. IsDelivered framed f dropped before after old new)
    (λ fault. IsNotShown fault f before after old new)

-- what is told of a frame that was shown, and whose picture no buffer is given for
pub record IsTold (framed : Framed) (f : Frame) (dropped : ℕ) (old new : ContextView) : Type 0 where
  pub number : framed.number ≡ f.number
  pub dropped_is : framed.dropped ≡ dropped
  pub shows : Shows f old new
  pub shown : is_open new.standing ≡ true
  pub none : framed.picture ≡ 0

-- a frame is rendered and told, or not
abbrev pub Tells : Result Framed Fault → Frame → (dropped : ℕ) → (old new : ContextView) → Type 0
Tells result f dropped old new = MatchResult result (λ framed. IsTold framed f dropped old new) (λ fault. IsNotShown fault f [] [] old new)

-- the frame was made and delivered
pub record IsFramed (framed : Framed) (before after : List ℕ) (old new : ContextView) : Type 0 where
  pub runs : is_over old ≡ false
  pub room : old.most ≤ length before
  pub mid : ContextView
  pub frame : Frame
  pub made : IsMade frame framed.dropped old mid
  pub delivered : IsDelivered framed frame framed.dropped before after mid new

-- a frame was made, and not shown
pub record IsLost (f : Fault) (before after : List ℕ) (old new : ContextView) : Type 0 where
  pub mid : ContextView
  pub frame : Frame
  pub dropped : ℕ
  pub made : IsMade frame dropped old mid
  pub not_shown : IsNotShown f frame before after mid new

-- why none is delivered: the buffer is too small; or no frame was made; or it was not shown
abbrev pub IsNotFramed : Fault → (before after : List ℕ) → (old new : ContextView) → Type 0
IsNotFramed f before after old new =
    ((f ≡ faults.TooSmall) × (length before < old.most) × (new ≡ old) × (after ≡ before))
    ⊎ ((old.most ≤ length before) × ((IsStopped f old new × (after ≡ before)) ⊎ IsLost f before after old new))

-- the end of a frame of a context that is not over, with the buffer for its picture before and after
abbrev pub FramesSeen : Result Framed Fault → (before after : List ℕ) → (old new : ContextView) → Type 0
FramesSeen result before after old new =
    MatchResult result
    (λ framed. IsFramed framed before after old new)
    (λ f. IsNotFramed f before after old new)

-- the frame was made and shown without a buffer
pub record IsUnseen (framed : Framed) (old new : ContextView) : Type 0 where
  pub runs : is_over old ≡ false
  pub mid : ContextView
  pub frame : Frame
  pub made : IsMade frame framed.dropped old mid
  pub told : IsTold framed frame framed.dropped mid new

-- the end of a frame of a context that is not over, without a buffer for its picture
abbrev pub FramesUnseen : Result Framed Fault → (old new : ContextView) → Type 0
FramesUnseen result old new =
    MatchResult result
    (λ framed. IsUnseen framed old new)
    (λ f. IsStopped f old new ⊎ IsLost f [] [] old new)

-- a buffer of no bytes is none
abbrev pub FramesInto : Result Framed Fault → (before after : List ℕ) → (old new : ContextView) → Type 0
FramesInto result [] after old new = FramesUnseen result old new × (after ≡ [])
FramesInto result (b ∷ bs) after old new = FramesSeen result (b ∷ bs) after old new

-- an encoder has not come back, and a letter of the context's table says that one was given up; from then on the context has the letter, and is over
pub record IsAbandoned (old new : ContextView) : Type 0 where
  pub off : 0 < length old.core.state.seat.off
  pub letter : Letter
  pub says : SaysGivenUp old.core.table letter
  pub after : new ≡ record old { standing = GivenUp letter }

-- no frame ends: the context is over; or an encoder was given up, and from then on it is over
abbrev pub IsClosed : (old new : ContextView) → Type 0
IsClosed old new = ((is_over old ≡ true) × (new ≡ old)) ⊎ ((is_over old ≡ false) × IsAbandoned old new)

-- the end of a frame, with the buffer for its picture before and after
abbrev pub FramesHere : Result Framed Fault → (before after : List ℕ) → (old new : ContextView) → Type 0
FramesHere result before after old new =
    ((result ≡ Err faults.Ended) × (after ≡ before) × IsClosed old new)
    ⊎ ((is_over old ≡ false) × FramesInto result before after old new)

-- what C is told of a frame, or what it was told before
abbrev pub framed_after : Result Framed Fault → Framed → Framed
framed_after (Ok f) old = f
framed_after (Err e) old = old
