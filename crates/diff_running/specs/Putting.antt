-- How lines and notes are put.
use Rattle.std.specs.Prelude.{◌≡◌, ℕ, Bool, true, false, List, Option}
use Rattle.io_edge.specs.Edge.{with_back}
use Rattle.io_whole.specs.Whole.{HasFront}
use Rattle.picture_diff.specs.Frames.{are_all_same}
use Rattle.picture_diff.specs.Lines.{frame_lines}
use Rattle.picture_diff.specs.declared.difference.Difference.{Difference}
use Rattle.picture_diff.specs.declared.fault.PictureFault.{PictureFault}
use Rattle.picture_diff.specs.declared.fault.PictureFault.TheVariants as faults
use Rattle.diff_running.specs.Notes.{picture_note, count_note, sides_note}
use Rattle.diff_running.specs.declared.status.DiffStatus.{DiffStatus}
use Rattle.diff_running.specs.declared.status.DiffStatus.TheVariants as status

-- the lines of frames were put, or a front of them, or nothing
abbrev pub IsPut : DiffStatus → List Difference → (old new : Option (List ℕ)) → Type 0 → Type 0
IsPut status.Same ds old new put_failed = (are_all_same ds ≡ true) × (new ≡ with_back old (frame_lines 0 ds))
IsPut status.Different ds old new put_failed = (are_all_same ds ≡ false) × (new ≡ with_back old (frame_lines 0 ds))
IsPut status.LineFault ds old new put_failed = HasFront old (frame_lines 0 ds) new × put_failed
IsPut status.OutOfMemory ds old new put_failed = new ≡ old
IsPut st ds old new put_failed = ⊥

-- the run ends as it should with its note, or a front of the note was put, or nothing
pub data IsTold (st wanted : DiffStatus) (note : List ℕ) (old new : Option (List ℕ)) (put_failed : Type 0) : Type 0 where
  whole : st ≡ wanted → new ≡ with_back old note → IsTold st wanted note old new put_failed
  cut : st ≡ status.NoteFault → HasFront old note new → put_failed → IsTold st wanted note old new put_failed
  none : st ≡ status.OutOfMemory → new ≡ old → IsTold st wanted note old new put_failed

-- the same of a fault
abbrev pub IsToldOf : PictureFault → DiffStatus → (old new : Option (List ℕ)) → Type 0 → Type 0
IsToldOf (faults.NoPicture pictures at) st old new put_failed = IsTold st (status.NoPicture pictures at) (picture_note pictures at) old new put_failed
IsToldOf (faults.Count pictures) st old new put_failed = IsTold st (status.Count pictures) (count_note pictures) old new put_failed
IsToldOf (faults.Sides frame) st old new put_failed = IsTold st (status.Sides frame) (sides_note frame) old new put_failed
IsToldOf faults.OutOfMemory st old new put_failed = (st ≡ status.OutOfMemory) × (new ≡ old)
