-- When recordings are a frame's.
use Rattle.std.specs.Prelude.{List}
use Rattle.scene_model.specs.Fold.{FramePlan}
use Rattle.scene_laws.specs.Gathered.{IsGathered}
use Rattle.draw_encoder.specs.declared.items.Recording.{Recording}
use Rattle.frame_record.specs.Seen.{recordings_seen}
use Rattle.recorded_keys.specs.Recorded.{ArePlanned}

-- what is gathered of a frame's encoders is what the plan has of them
abbrev pub PlannedLaw : Type 0
PlannedLaw = (p : FramePlan) (rs : List Recording) → IsGathered p (recordings_seen rs) → ArePlanned p rs
