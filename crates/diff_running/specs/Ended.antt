-- What is known after a run, for each status with which it may end.
use Rattle.std.specs.Prelude.{◌≡◌, ◌⊎◌, ◌<◌, ◌≤◌, ℕ, if◌then◌else◌, List, length, Option, Some, None, Result, Ok, Err}
use Rattle.io_edge.specs.Edge.{with_back}
use Rattle.io_whole.specs.Whole.{HasMoreThan, HasFront}
use Rattle.picture_diff.specs.Picture.{Picture, AreTextsOf, IsBroken}
use Rattle.picture_diff.specs.Frames.{AreAllNear, are_all_same, judged}
use Rattle.picture_diff.specs.Lines.{frame_lines}
use Rattle.picture_diff.specs.Told.{IsJudged}
use Rattle.picture_diff.specs.declared.difference.Difference.{Difference}
use Rattle.picture_diff.specs.declared.fault.PictureFault.{PictureFault}
use Rattle.picture_diff.specs.declared.fault.PictureFault.TheVariants as faults
use Rattle.diff_running.specs.Io.{longest, IsRead}
use Rattle.diff_running.specs.Notes.{picture_note, count_note, sides_note, usage_note, length_note}
use Rattle.diff_running.specs.declared.words.Asked.{Asked}
use Rattle.diff_running.specs.declared.status.DiffStatus.{DiffStatus}
use Rattle.diff_running.specs.declared.status.DiffStatus.TheVariants as status

-- the source was read to its end; its bytes are two streams of pictures, and these are the differences of their frames
pub record AreDifferences (a : Asked) (ps : List Picture) (ds : List Difference) (before after : Option (List ℕ)) : Type 0 where
  pub bytes : List ℕ
  pub read : IsRead bytes before after
  pub texts : AreTextsOf bytes ps
  pub told : judged a.near a.frames ps ≡ Ok ds

-- why nothing is compared, by the status, and the note of it
abbrev pub IsRefused : DiffStatus → Asked → (note : List ℕ) → (before after : Option (List ℕ)) → Type 0
IsRefused (status.NoPicture pictures at) a note before after = (bytes : List ℕ) × IsRead bytes before after × IsBroken bytes pictures at × (note ≡ picture_note pictures at)
IsRefused (status.Count pictures) a note before after = (bytes : List ℕ) × IsRead bytes before after × IsJudged a.near a.frames bytes (Err (faults.Count pictures)) × (note ≡ count_note pictures)
IsRefused (status.Sides frame) a note before after = (bytes : List ℕ) × IsRead bytes before after × IsJudged a.near a.frames bytes (Err (faults.Sides frame)) × (note ≡ sides_note frame)
IsRefused status.TooLong a note before after = HasMoreThan longest before × (note ≡ length_note)
IsRefused st a note before after = ⊥

-- the same, where the note was put and no line
abbrev pub IsNoted : DiffStatus → Asked → (before after old new told said : Option (List ℕ)) → Type 0
IsNoted st a before after old new told said = (note : List ℕ) × IsRefused st a note before after × (said ≡ with_back told note) × (new ≡ old)

-- what is known where the words are taken
abbrev pub EndedTaken : DiffStatus → Asked → (before after old new told said : Option (List ℕ)) → Type 0 → Type 0 → Type 0 → Type 0
EndedTaken status.Same a before after old new told said read_failed put_failed tell_failed =
    (ps : List Picture) × (ds : List Difference) × AreDifferences a ps ds before after × AreAllNear a.near ps × (new ≡ with_back old (frame_lines 0 ds)) × (said ≡ told)
EndedTaken status.Different a before after old new told said read_failed put_failed tell_failed =
    (ps : List Picture) × (ds : List Difference) × AreDifferences a ps ds before after × (AreAllNear a.near ps → ⊥) × (new ≡ with_back old (frame_lines 0 ds)) × (said ≡ told)
EndedTaken (status.NoPicture pictures at) a before after old new told said read_failed put_failed tell_failed = IsNoted (status.NoPicture pictures at) a before after old new told said
EndedTaken (status.Count pictures) a before after old new told said read_failed put_failed tell_failed = IsNoted (status.Count pictures) a before after old new told said
EndedTaken (status.Sides frame) a before after old new told said read_failed put_failed tell_failed = IsNoted (status.Sides frame) a before after old new told said
EndedTaken status.TooLong a before after old new told said read_failed put_failed tell_failed = IsNoted status.TooLong a before after old new told said
EndedTaken status.ReadFault a before after old new told said read_failed put_failed tell_failed = read_failed × (new ≡ old) × (said ≡ told)
EndedTaken status.LineFault a before after old new told said read_failed put_failed tell_failed =
    (ps : List Picture) × (ds : List Difference) × AreDifferences a ps ds before after × HasFront old (frame_lines 0 ds) new × put_failed × (said ≡ told)
EndedTaken status.NoteFault a before after old new told said read_failed put_failed tell_failed =
    (st : DiffStatus) × (note : List ℕ) × IsRefused st a note before after × HasFront told note said × tell_failed × (new ≡ old)
EndedTaken status.OutOfMemory a before after old new told said read_failed put_failed tell_failed = (new ≡ old) × (said ≡ told)
EndedTaken status.Usage a before after old new told said read_failed put_failed tell_failed = ⊥

-- the usage was told, or a front of it
abbrev pub IsUsage : DiffStatus → (told said : Option (List ℕ)) → Type 0 → Type 0
IsUsage status.Usage told said tell_failed = said ≡ with_back told usage_note
IsUsage status.NoteFault told said tell_failed = HasFront told usage_note said × tell_failed
IsUsage st told said tell_failed = ⊥

-- what is known where the words are refused: nothing was read
abbrev pub EndedRefused : DiffStatus → (before after old new told said : Option (List ℕ)) → Type 0 → Type 0
EndedRefused st before after old new told said tell_failed = (after ≡ before) × (new ≡ old) × IsUsage st told said tell_failed

-- before and after: what the source has left; old and new: what the lines hold; told and said: what the notes hold; the last three: a read failed, a put of lines failed, a put of notes failed
abbrev pub Ended : Option Asked → DiffStatus → (before after old new told said : Option (List ℕ)) → Type 0 → Type 0 → Type 0 → Type 0
Ended (Some a) st before after old new told said read_failed put_failed tell_failed = EndedTaken st a before after old new told said read_failed put_failed tell_failed
Ended None st before after old new told said read_failed put_failed tell_failed = EndedRefused st before after old new told said tell_failed

-- the status of what is told of pictures
abbrev pub status_of : Result (List Difference) PictureFault → DiffStatus
status_of (Ok ds) = if are_all_same ds then status.Same else status.Different
status_of (Err (faults.NoPicture pictures at)) = status.NoPicture pictures at
status_of (Err (faults.Count pictures)) = status.Count pictures
status_of (Err (faults.Sides frame)) = status.Sides frame
status_of (Err faults.OutOfMemory) = status.OutOfMemory

-- the status that bytes call for
pub data IsCalledFor (a : Asked) (bytes : List ℕ) (st : DiffStatus) : Type 0 where
  too_long : longest < length bytes → st ≡ status.TooLong → IsCalledFor a bytes st
  broken : length bytes ≤ longest → (pictures at : ℕ) → IsBroken bytes pictures at → st ≡ status.NoPicture pictures at → IsCalledFor a bytes st
  read : length bytes ≤ longest → (ps : List Picture) → AreTextsOf bytes ps → st ≡ status_of (judged a.near a.frames ps) → IsCalledFor a bytes st

-- the run ends so, or for want of memory
abbrev pub EndsAs : DiffStatus → DiffStatus → Type 0
EndsAs wanted st = (st ≡ wanted) ⊎ (st ≡ status.OutOfMemory)
