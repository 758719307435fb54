-- What C is told of a handle: its value is the object behind it.
use Rattle.std.specs.Prelude.{◌≡◌, ℕ, ◌⊎◌, Option, Some, None, Result, Ok, Err, MatchOption}
use Rattle.gfx_model.specs.Words.{Handle}
use Rattle.gfx_words.specs.Names.{handle_word}
use Rattle.c_calls.specs.declared.objects.Object.{Object}
use Rattle.c_calls.specs.declared.objects.Object.TheVariants.{Blank, Api, Drawing, Recording, Rows}
use Rattle.c_words.specs.declared.faults.Fault.{Fault}
use Rattle.c_words.specs.Statuses.{status_of}
use Rattle.c_calls.specs.Begun.{OpenView}
use Rattle.c_calls.specs.Views.{ContextView, EncoderView}

-- the context that a handle stands for
abbrev pub context_of : Option Object → Option ContextView
context_of (Some (Api c)) = Some c
context_of (Some (Drawing o)) = None
context_of (Some (Recording e)) = None
context_of (Some (Rows b)) = None
context_of (Some Blank) = None
context_of None = None

-- the encoder that a handle stands for
abbrev pub encoder_of : Option Object → Option EncoderView
encoder_of (Some (Api c)) = None
encoder_of (Some (Drawing o)) = None
encoder_of (Some (Recording e)) = Some e
encoder_of (Some (Rows b)) = None
encoder_of (Some Blank) = None
encoder_of None = None

-- the context with a frame that is begun that a handle stands for
abbrev pub frame_of : Option Object → Option OpenView
frame_of (Some (Api c)) = None
frame_of (Some (Drawing o)) = Some o
frame_of (Some (Recording e)) = None
frame_of (Some (Rows b)) = None
frame_of (Some Blank) = None
frame_of None = None

-- what a call on a context is told by another handle: 104 from the begin of a frame to its end, and else 100
abbrev pub without_context : Option Object → ℕ
without_context (Some (Api c)) = 100
without_context (Some (Drawing o)) = 104
without_context (Some (Recording e)) = 100
without_context (Some (Rows b)) = 100
without_context (Some Blank) = 100
without_context None = 100

-- what a call on a frame that is begun is told by another handle: 104 by a context, and else 100
abbrev pub without_frame : Option Object → ℕ
without_frame (Some (Api c)) = 104
without_frame (Some (Drawing o)) = 100
without_frame (Some (Recording e)) = 100
without_frame (Some (Rows b)) = 100
without_frame (Some Blank) = 100
without_frame None = 100

-- a call on a context: its status is that of an answer, and the context is after it as the answer says. On another handle the status is
-- 104 or 100, and the handle is as it was
abbrev pub OnContext : {X : Type 0} → (old new : Option Object) → (status : ℕ) → (Result X Fault → (old new : ContextView) → Type 0) → (other : Type 0) → Type 0
OnContext {X} old new status says other =
    MatchOption (context_of old)
    ((status ≡ without_context old) × (new ≡ old) × other)
    (λ c. (d : ContextView) × (new ≡ Some (Api d)) × (r : Result X Fault) × (status ≡ status_of r) × says r c d)

-- the same of an encoder
abbrev pub OnEncoder : {X : Type 0} → (old new : Option Object) → (status : ℕ) → (Result X Fault → (old new : EncoderView) → Type 0) → Type 0
OnEncoder {X} old new status says =
    MatchOption (encoder_of old)
    ((status ≡ 100) × (new ≡ old))
    (λ c. (d : EncoderView) × (new ≡ Some (Recording d)) × (r : Result X Fault) × (status ≡ status_of r) × says r c d)

-- the word of what was made, or the word that was there
abbrev pub word_after : Result Handle Fault → ℕ → ℕ
word_after (Ok h) old = handle_word h
word_after (Err f) old = old

-- an encoder ends, and its handle is null; or it is as before, and can be ended again
abbrev pub Ends : (old new : Option Object) → (status : ℕ) → Type 0
Ends old new status =
    MatchOption (encoder_of old)
    ((status ≡ 100) × (new ≡ old))
    (λ e. ((status ≡ 0) × (new ≡ None)) ⊎ ((status ≡ 101) × (new ≡ old)))

-- an encoder is given up, and its handle is null
abbrev pub Drops : (old new : Option Object) → (status : ℕ) → Type 0
Drops old new status = MatchOption (encoder_of old) ((status ≡ 100) × (new ≡ old)) (λ e. (status ≡ 0) × (new ≡ None))

-- a context is given up, also one with a frame that is begun, and its handle is null
abbrev pub ShutsDown : (old new : Option Object) → (status : ℕ) → Type 0
ShutsDown (Some (Api c)) new status = (status ≡ 0) × (new ≡ None)
ShutsDown (Some (Drawing o)) new status = (status ≡ 0) × (new ≡ None)
ShutsDown (Some (Recording e)) new status = (status ≡ 100) × (new ≡ Some (Recording e))
ShutsDown (Some (Rows b)) new status = (status ≡ 100) × (new ≡ Some (Rows b))
ShutsDown (Some Blank) new status = (status ≡ 100) × (new ≡ Some Blank)
ShutsDown None new status = (status ≡ 100) × (new ≡ None)
