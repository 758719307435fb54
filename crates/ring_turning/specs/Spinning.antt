-- What a turn that was spun leaves in a sink.
use Rattle.std.specs.Prelude.{◌≡◌, ℕ, ◌≤◌, Bool, true, false, List, [], map, length, take, flat_map, Option}
use Rattle.io_edge.specs.Edge.{with_back, Rose}
use Rattle.gfx.specs.Definitions.{Texels, first_world}
use Rattle.gfx.specs.Pictures.{picture_text, first_stores, pictures_by_index, Rendering, AreRendered, frame_seen, HasFront}
use Rattle.gfx.specs.Frames.{Frame, Outcome, RenderedFrame}
use Rattle.gfx.specs.Frames.outcomes as outcomes
use Rattle.ring_turning.specs.declared.spinning.End.{End}
use Rattle.ring_turning.specs.declared.spinning.End.TheVariants as ends
use Rattle.ring_turning.specs.Frames.{AreFirst, IsTurn}
use Rattle.ring_turning.specs.Turning.{HaveTurned}

-- both sides of the pictures, in pixels
abbrev pub side : ℕ
side = 64

-- the pictures of frames, drawn by the definition by index, from a renderer on that has no things yet
abbrev pub pictures_of : List Frame → List Texels
pictures_of fs = pictures_by_index (first_stores (first_world side side).back) (map frame_seen fs)

-- the number with which the program ends
abbrev pub end_number : End → ℕ
end_number ends.Done = 0
end_number ends.PictureFault = 4
end_number ends.Refused = 8

-- how a turn ends, by the outcome of its first frame that was not shown, and whether it is whole
abbrev pub end_of : Outcome → Bool → End
end_of outcomes.Shown true = ends.Done
end_of outcomes.Shown false = ends.Refused
end_of outcomes.PictureFault is_whole = ends.PictureFault
end_of outcomes.OutOfMemory is_whole = ends.Refused
end_of outcomes.Skipped is_whole = ends.Refused

-- the frames of a whole turn, and the sink holds the texts of all their pictures more
pub record IsShown (many : ℕ) (old new : Option (List ℕ)) : Type 0 where
  pub frames : List Frame
  pub turn : IsTurn many frames
  pub held : new ≡ with_back old (flat_map picture_text (pictures_of frames))

-- the first frames of a turn, and the sink holds a front of the texts of their pictures more
pub record IsCutOff (many : ℕ) (old new : Option (List ℕ)) : Type 0 where
  pub frames : List Frame
  pub first : AreFirst many frames
  pub front : HasFront old (flat_map picture_text (pictures_of frames)) new

-- the first frames of a turn, and the sink holds the whole texts of the first of their pictures more
pub record IsStopped (many : ℕ) (old new : Option (List ℕ)) : Type 0 where
  pub frames : List Frame
  pub first : AreFirst many frames
  pub shown : ℕ
  pub within : shown ≤ length frames
  pub held : new ≡ with_back old (flat_map picture_text (take shown (pictures_of frames)))

-- what a turn leaves: all its pictures; a front of them after a fault of the sink, whose count of faults rose; where a call was refused, the first of them
abbrev pub IsSpun : End → (many : ℕ) → (old new : Option (List ℕ)) → (old_faults new_faults : ℕ) → Type 0
IsSpun ends.Done many old new old_faults new_faults = IsShown many old new
IsSpun ends.PictureFault many old new old_faults new_faults = IsCutOff many old new × Rose old_faults new_faults
IsSpun ends.Refused many old new old_faults new_faults = IsStopped many old new

-- a renderer of these sides that has rendered nothing
pub record IsNew (r : Rendering) : Type 0 where
  pub stores : r.stores ≡ first_stores (first_world side side).back
  pub outcomes : r.outcomes ≡ []

-- the frames of a turn were rendered one after another
pub record AreRenderedInTurn (many : ℕ) (outcome : Outcome) (is_whole : Bool) (old new : Rendering) : Type 0 where
  pub given : List Frame
  pub back : List RenderedFrame
  pub turned : HaveTurned many given back outcome is_whole
  pub frames : ∥ AreRendered old back new ∥₁
