use mir.Raw.{raw}
use denote.Memory.{lone}
use denote.RawPtr.{Ptr}
use base.Shift.{Keyless}
use Rattle.std.specs.declared.alloc.Global.{Global}
use Rattle.std.specs.declared.option.Option.{Option}
use Rattle.std.specs.declared.option.Option.TheVariants.{None, Some}
use Rattle.c_calls.specs.declared.objects.Object.{Object as Inner}
use Rattle.c_calls.specs.Kept.{kept}
use denote.Struct.Struct.{exits_of}
use denote.Struct.Owning.{shape, fields, to}
use denote.Param.Send.{IsSend, AllSend, owning_send, struct_send, sendable}
use Rattle.std.proofs.Crossing as heap
use Rattle.std_alloc.proofs.SendSync.{quiet, lies}
use Rattle.std_heap.proofs.Global.TheSendSync as handle
use Rattle.c_calls.specs.contracts.objects.Object as Inside
use Rattle.c_calls.proofs.objects.Object.TheSendSync.{the_send as inside}
use Rattle.c_calls.specs.contracts.slot.Slot.{the_row, the_type}

keyless : (a : Global) (p : Ptr) (o : Option Inner) → Keyless (kept a p o)
keyless a p None = tt
keyless a p (Some x) = (lies Inside.the_row inside p x, heap.frees.frees a (raw (lone Inside.the_row.mir)) p)

pub send : IsSend the_row
send =
    let all : AllSend (fields the_type) = (search sendable, (handle.the_field_send, tt)) in
    owning_send the_type all (λ d. keyless d.alloc d.at d.value)
    (λ k. quiet (to the_type) (exits_of k (fields the_type)) ((struct_send (shape the_type) all).leaving k))
