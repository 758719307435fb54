use Rattle.std.proofs.Common.{inl, Err, ◌∙◌}
use Rattle.gfx_words.specs.declared.refusals.Refusal.TheVariants as refusals
use Rattle.c_words.specs.declared.faults.Fault.TheVariants as faults
use Rattle.c_calls.proofs.opening.open_into.Goals as goal

pub returns-in_default : goal.returns-in_default
returns-in_default c =
    let null = c.is_null.ensures.yes c.if-not-is_null.false in
    inl (null, Err (faults.Refused refusals.OutOfMemory), c.number-in_default.ensures, c.is_null.ensures.same ∙ null, tt)
