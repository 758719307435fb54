-- The slot and the parts of a box own what a box at the same types owns.
use mir.Syntax.{impl, tnil, dnil}
use mathlib.Core.List.{[]}
use denote.Signature.{Slot as Param, plain}
use Rattle.std_alloc.proofs.BoxSteps.Form.{Bx}
use Rattle.std_heap.specs.contracts.Global as Heap
use Rattle.std_heap.specs.contracts.GlobalAllocator.TheImpl.{ghosts, dict}
use Rattle.std_heap.proofs.Global.TheLaws as heap
use Rattle.c_calls.specs.contracts.objects.Object as inside
use Rattle.c_calls.proofs.objects.Object.TheLaws as inside_laws
use Rattle.c_calls.specs.contracts.parts.Parts as parts
use Rattle.c_calls.specs.contracts.slot.Slot as slots

abbrev pub E : Bx
E = record { row = inside.the_row; laws = inside_laws.the_row_laws; al = record { row = Heap.the_row; laws = heap.the_row_laws; g = ghosts; d = dict; drops = impl [] tnil dnil } }

abbrev pub FromParts : Param 0
FromParts = plain (λ _. parts.the_row inside.the_row Heap.the_row ghosts)

abbrev pub FromSlot : Param 0
FromSlot = plain (λ _. slots.the_row)

abbrev pub FromGlobal : Param 0
FromGlobal = plain (λ _. Heap.the_row)
