-- What is shown is what the bytes stand for.
use Rattle.std.proofs.Common.{◌≡◌, ℕ, List, Result, Ok, Err}
use Rattle.std.specs.Prelude.{IfOk}
use Rattle.std.specs.Global.{Vec}
use Rattle.frame_capture.specs.declared.fault.CaptureFault.{CaptureFault}
use Rattle.frame_capture.specs.Film.{Film, texts}
use Rattle.frame_capture.specs.Capture.{IsCapture}
use Rattle.frame_capture.specs.Fault.{shown}
use Rattle.frame_capture.specs.Gives.{Shows}
use Rattle.frame_capture.proofs.FieldLaws.{IsBytes}
use Rattle.frame_capture.proofs.Frames.{shown-takes}

pub is-found : (bytes : List ℕ) (r : Result (Vec ℕ) CaptureFault) → IsBytes bytes → Shows (λ v. v.items) r (shown bytes) → IfOk r (λ v. (f : Film) × IsCapture bytes f × (v.items ≡ texts f))
is-found bytes (Ok v) fits given = shown-takes bytes v.items fits given
is-found bytes (Err e) fits given = tt
