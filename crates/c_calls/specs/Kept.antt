-- What a slot owns: nothing at null, and else a box.
use base.Fml.{Fml, feq}
use denote.RawPtr.{Ptr, null_ptr}
use Rattle.std.specs.Box.Ownership.{box_owns}
use Rattle.std.specs.declared.alloc.Global.{Global}
use Rattle.std.specs.contracts.impls.GlobalAllocator.TheImpl.{ghosts}
use Rattle.std.specs.declared.option.Option.{Option}
use Rattle.std.specs.declared.option.Option.TheVariants.{None, Some}
use Rattle.c_calls.specs.declared.objects.Object.{Object as Inner}
use Rattle.c_calls.specs.contracts.objects.Object.{the_row}

-- a pointer owns nothing at null, and else the box of a value
abbrev pub kept : Global → Ptr → Option Inner → Fml
kept a p None = feq Ptr p null_ptr
kept a p (Some x) = box_owns (ghosts.dealloc_token a) the_row p x
