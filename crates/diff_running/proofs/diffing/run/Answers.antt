use Rattle.std.proofs.Common.{Err, Global, List, Vec, ap}
use Rattle.picture_diff.specs.declared.difference.Difference.{Difference}
use Rattle.diff_running.proofs.Ends.{compared_ended, long_ended, told_ended}
use Rattle.diff_running.proofs.diffing.run.Goals as goal

pub returns-in-Err-TooLong-clause-ended : goal.returns-in-Err-TooLong-clause-ended
returns-in-Err-TooLong-clause-ended g c = long_ended c.put_note.result c.args.asked _ _ _ _ _ _ _ _ (c.in-Err-TooLong.ensures.too_long (ap Err c.in-Err-TooLong.field-0-is)) c.put_note.ensures.told

pub returns-in-Ok-differences-clause-ended : goal.returns-in-Ok-differences-clause-ended
returns-in-Ok-differences-clause-ended g c =
    compared_ended c.put_lines.result c.args.asked c.in-Ok.bytes.items c.deref.result.now c.in-Ok-differences.found.items c.deref-in-Ok-differences.result.now _ _ _ _ _ _ _ _
    (record { given = c.in-Ok.ensures.bytes; ended = c.in-Ok.ensures.ended; few = c.in-Ok.ensures.few })
    c.deref.ensures.value
    c.in-Ok-differences.ensures.told
    c.deref-in-Ok-differences.ensures.value
    c.put_lines.ensures.put

pub returns-clause-ended : goal.returns-clause-ended
returns-clause-ended g c =
    let view : Vec Difference Global → List Difference = λ v. v.items in
    told_ended {X = Vec Difference Global} c.in-Err.fault c.tell_fault.result c.args.asked c.in-Ok.bytes.items c.deref.result.now view _ _ _ _ _ _ _ _
    (record { given = c.in-Ok.ensures.bytes; ended = c.in-Ok.ensures.ended; few = c.in-Ok.ensures.few })
    c.deref.ensures.value
    c.in-Err.ensures.told
    c.tell_fault.ensures.told
