-- What a frame's render leaves, by its outcome.
use Rattle.std.specs.Prelude.{◌≡◌, ◌≤◌, ℕ, List, Option}
use Rattle.io_edge.specs.Edge.{with_back, counted, Rose}
use Rattle.store_laws.specs.ByIndex.{Stores, FrameData, frame_by_index}
use Rattle.frame_record.specs.declared.frame.Outcome.{Outcome}
use Rattle.frame_record.specs.declared.frame.Outcome.TheVariants as outcomes
use Rattle.io_whole.specs.Whole.{HasFront}

-- the stores: after want of memory nothing is known of them
abbrev pub StoresAfter : Outcome → Stores → FrameData → Stores → Type 0
StoresAfter outcomes.Shown old f new = new ≡ frame_by_index old f
StoresAfter outcomes.PictureFault old f new = new ≡ frame_by_index old f
StoresAfter outcomes.OutOfMemory old f new = Unit {0}
StoresAfter outcomes.Skipped old f new = new ≡ old

-- what the sink holds: the text more, a front of it, or nothing more
abbrev pub HeldAfter : Outcome → List ℕ → Option (List ℕ) → Option (List ℕ) → Type 0
HeldAfter outcomes.Shown text old new = new ≡ with_back old text
HeldAfter outcomes.PictureFault text old new = HasFront old text new
HeldAfter outcomes.OutOfMemory text old new = new ≡ old
HeldAfter outcomes.Skipped text old new = new ≡ old

-- what the sink counted: the text more, where all of it was put
abbrev pub TallyAfter : Outcome → List ℕ → Option (ℕ × ℕ) → Option (ℕ × ℕ) → Type 0
TallyAfter outcomes.Shown text old new = new ≡ counted old text
TallyAfter outcomes.PictureFault text old new = Unit {0}
TallyAfter outcomes.OutOfMemory text old new = new ≡ old
TallyAfter outcomes.Skipped text old new = new ≡ old

-- the sink's faults: they rose where the outcome is a fault of it, and else stayed
abbrev pub FaultIf : Outcome → ℕ → ℕ → Type 0
FaultIf outcomes.Shown old new = old ≤ new
FaultIf outcomes.PictureFault old new = Rose old new
FaultIf outcomes.OutOfMemory old new = new ≡ old
FaultIf outcomes.Skipped old new = new ≡ old
