use Rattle.std.proofs.Common.{Err, ap, refl}
use Rattle.capture_running.proofs.Recorded.{fault-ends, is-read, long-ends, measured-ends, starved-ends}
use Rattle.capture_running.proofs.recording.record.Goals as goal

pub returns-in-Err-Fault-clause-ends : goal.returns-in-Err-Fault-clause-ends
returns-in-Err-Fault-clause-ends g c =
    let blank = c.blank.ensures in
    fault-ends c.blank.result.status _ _ _ _ blank.status (c.in-Err-Fault.ensures.fault (ap Err c.in-Err-Fault.field-0-is)) (record { no_frame = blank.journal; not_put = refl; not_noted = refl })

pub returns-in-Err-TooLong-clause-ends : goal.returns-in-Err-TooLong-clause-ends
returns-in-Err-TooLong-clause-ends g c =
    let blank = c.blank-in-Err-TooLong.ensures in
    long-ends c.blank-in-Err-TooLong.result.status _ _ _ _ blank.status (c.in-Err-TooLong.ensures.too_long (ap Err c.in-Err-TooLong.field-0-is)) (record { no_frame = blank.journal; not_put = refl; not_noted = refl })

pub returns-in-Err-OutOfMemory-clause-ends : goal.returns-in-Err-OutOfMemory-clause-ends
returns-in-Err-OutOfMemory-clause-ends g c =
    let blank = c.blank-in-Err-OutOfMemory.ensures in
    starved-ends c.blank-in-Err-OutOfMemory.result.status _ _ _ _ blank.status blank.journal refl refl

pub returns-in-Ok-measure-clause-ends : goal.returns-in-Ok-measure-clause-ends
returns-in-Ok-measure-clause-ends g c =
    let read = c.in-Ok.ensures in
    c.record_scene.ensures.ends _ (is-read 16777216 c.in-Ok.text.items _ read.bytes read.ended read.few)

pub returns-in-Err-clause-ends : goal.returns-in-Err-clause-ends
returns-in-Err-clause-ends g c =
    let read = c.in-Ok.ensures in
    let blank = c.blank-in-Err.ensures in
    measured-ends c.blank-in-Err.result.status c.in-Err.status c.in-Ok.text.items c.deref.result.now _ _ _ _ blank.status c.deref.ensures.value c.in-Err.ensures
    (is-read 16777216 c.in-Ok.text.items _ read.bytes read.ended read.few) (record { no_frame = blank.journal; not_put = refl; not_noted = refl })
