use Rattle.std.proofs.Common.{◌≡◌, Result, Err, refl}
use Rattle.c_words.specs.declared.faults.Fault.{Fault}
use Rattle.c_calls.specs.Bands.{end_status, ended_object, ended_told}
use Rattle.c_calls.specs.Begun.{OpenView}
use Rattle.c_calls.specs.Passes.{EndsFrame}
use Rattle.c_calls.specs.Views.{ContextView}
use Rattle.c_calls.specs.declared.frame.Framed.{Framed}
use Rattle.c_calls.proofs.InPasses.{on_frame}
use Rattle.c_calls.proofs.on_passes.close_frame.Goals as goal

pub returns-in-Err-end : goal.returns-in-Err-end
returns-in-Err-end c =
    let new = c.put_frame.new.slot.value in
    let framed = c.args.framed.now in
    on_frame new c.number.result
    (λ o. (r : Result (ContextView × Result Framed Fault) (OpenView × Fault)) × (c.number.result ≡ end_status r) × (new ≡ ended_object r) × (framed ≡ ended_told r framed) × EndsFrame r c.args.picture.now c.end.new.buffer o)
    ((c.end.new.buffer ≡ c.args.picture.now) × (framed ≡ framed))
    c.args.context.now.value c.in-Ok.taken.1 c.in-Ok.ensures.0
    (Err (c.in-Err-end.begun, c.in-Err-end.fault), c.number.ensures, c.put_frame.ensures, refl, c.in-Err-end.ensures)
