-- How handles come to stand for something.
use Rattle.std.specs.Prelude.{◌≡◌, ℕ, ◌⊎◌, Option, Some, None, Result, Ok, Err}
use Rattle.gfx_model.specs.Recorder.{Room}
use Rattle.c_calls.specs.declared.objects.Object.{Object}
use Rattle.c_calls.specs.declared.objects.Object.TheVariants.{Api, Recording}
use Rattle.c_words.specs.declared.faults.Fault.{Fault}
use Rattle.c_calls.specs.Calls.{OpensHere, BeginsHere}
use Rattle.c_calls.specs.Exports.{OnContext}
use Rattle.c_words.specs.Statuses.{status_of}
use Rattle.c_calls.specs.Views.{ContextView, EncoderView}

-- a handle after a context was made for it, or not
abbrev pub opened_into : Result ContextView Fault → Option Object
opened_into (Ok c) = Some (Api c)
opened_into (Err f) = None

-- a context is made for a handle that is null; a handle that is not null is as it was
abbrev pub Opens : (old new : Option Object) → (status width height : ℕ) → Type 0
Opens old new status width height =
    ((old ≡ None) × (r : Result ContextView Fault) × (status ≡ status_of r) × (new ≡ opened_into r) × OpensHere r width height)
    ⊎ ((o : Object) × (old ≡ Some o) × (status ≡ 105) × (new ≡ old))

-- an encoder's handle after a begin
abbrev pub begun_into : Result EncoderView Fault → Option Object
begun_into (Ok e) = Some (Recording e)
begun_into (Err f) = None

-- an encoder is begun of a context for a handle that is null; memory may be wanting before all else
abbrev pub Begun : (old new after : Option Object) → (status : ℕ) → Room → Type 0
Begun old new after status room =
    OnContext old new status (λ r c d. (after ≡ begun_into r) × BeginsHere r room c d) (after ≡ None)
    ⊎ ((status ≡ 17) × (new ≡ old) × (after ≡ None))

-- nothing is begun where the handle for the encoder is not null
abbrev pub BeginsInto : (old new encoder after : Option Object) → (status : ℕ) → Room → Type 0
BeginsInto old new encoder after status room =
    ((encoder ≡ None) × Begun old new after status room) ⊎ ((o : Object) × (encoder ≡ Some o) × (status ≡ 105) × (new ≡ old) × (after ≡ encoder))
