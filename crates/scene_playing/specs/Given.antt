-- What the frames of a scene that were given have of its encoders.
use Rattle.std.specs.Prelude.{◌≡◌, List, [], ◌∷◌, ⊤}
use Rattle.scene_model.specs.Fold.{FramePlan}
use Rattle.scene_model.specs.Journal.{Entry, Journal}
use Rattle.scene_laws.specs.Gathered.{IsGathered}
use Rattle.frame_record.specs.declared.frame.Frame.{Frame}
use Rattle.render_core.specs.Seen.{recordings_of, journal_of}

-- each encoder of the plan has one recording in the frame, of the items that the plan has of it; the frame's views are the plan's, and its order is the entries'
pub record HasPlan (plan : FramePlan) (entries : List Entry) (frame : Frame) : Type 0 where
  pub gathered : IsGathered plan (recordings_of frame)
  pub views : frame.views ≡ plan.views
  pub journal : journal_of frame ≡ entries

-- the frames are the first of some plans, each by the entries of its place in a journal
abbrev pub HavePlans : List FramePlan → Journal → List Frame → Type 0
HavePlans plans journal [] = ⊤
HavePlans [] journal (f ∷ frames) = ⊥
HavePlans (p ∷ plans) [] (f ∷ frames) = ⊥
HavePlans (p ∷ plans) (entries ∷ journal) (f ∷ frames) = HasPlan p entries f × HavePlans plans journal frames
