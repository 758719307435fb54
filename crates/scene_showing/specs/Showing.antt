-- What a scene that was shown leaves in a sink.
use Rattle.std.specs.Prelude.{◌≡◌, ℕ, ◌≤◌, ◌<◌, Bool, true, false, List, map, length, take, flat_map, Option}
use Rattle.io_edge.specs.Edge.{with_back, counted, Rose}
use Rattle.scene_model.specs.Scene.{Scene}
use Rattle.scene_model.specs.Fold.{plans}
use Rattle.scene_model.specs.Journal.{Journal, IsLawful, IsLawfulFront, pictures}
use Rattle.scene_model.specs.Output.{picture_text, pictures_text}
use Rattle.scene_progress.specs.Notes.{noted_of}
use Rattle.io_whole.specs.Whole.{HasFront}
use Rattle.frame_record.specs.declared.frame.Outcome.{Outcome}
use Rattle.frame_record.specs.declared.frame.Outcome.TheVariants as outcomes
use Rattle.scene_showing.specs.declared.showing.End.{End}
use Rattle.scene_showing.specs.declared.showing.End.TheVariants as ends

-- how a scene ends by the outcome of its first frame that was not shown, and whether all frames were given
abbrev pub end_of : Outcome → Bool → End
end_of outcomes.Shown true = ends.Done
end_of outcomes.Shown false = ends.OutOfMemory
end_of outcomes.PictureFault is_whole = ends.PictureFault
end_of outcomes.OutOfMemory is_whole = ends.OutOfMemory
end_of outcomes.Skipped is_whole = ends.OutOfMemory

-- what was put is whole pictures of the first frames
abbrev pub HasFirst : Scene → Journal → (old new : Option (List ℕ)) → Type 0
HasFirst s journal old new = (j : ℕ) × (j ≤ length journal) × (new ≡ with_back old (flat_map picture_text (take j (pictures s journal))))

-- what was put is whole pictures of the first frames, and not of all
abbrev pub HasFewer : Scene → Journal → (old new : Option (List ℕ)) → Type 0
HasFewer s journal old new = (j : ℕ) × (j < length s.frames) × (j ≤ length journal) × (new ≡ with_back old (flat_map picture_text (take j (pictures s journal))))

-- what a sink holds: the texts of all pictures; after a fault of it, which rose, a front of them; for want of memory the texts of the first, and not of all
abbrev pub IsShowing : End → Scene → Journal → (old new : Option (List ℕ)) → (old_faults new_faults : ℕ) → Type 0
IsShowing ends.Done s journal old new old_faults new_faults = IsLawful s journal × (new ≡ with_back old (pictures_text s journal))
IsShowing ends.PictureFault s journal old new old_faults new_faults = IsLawfulFront s journal × HasFront old (pictures_text s journal) new × Rose old_faults new_faults
IsShowing ends.OutOfMemory s journal old new old_faults new_faults = IsLawfulFront s journal × HasFewer s journal old new

-- the notes are those of the frames that ended; where all was shown, of all frames, and the sink counted the texts
abbrev pub IsCounted : End → Scene → Journal → (notes : List (ℕ × ℕ)) → (old new : Option (ℕ × ℕ)) → Type 0
IsCounted ends.Done s journal notes old new = (notes ≡ map noted_of (plans s)) × (new ≡ counted old (pictures_text s journal))
IsCounted ends.PictureFault s journal notes old new = notes ≡ map noted_of (take (length journal) (plans s))
IsCounted ends.OutOfMemory s journal notes old new = notes ≡ map noted_of (take (length journal) (plans s))
