-- What the encoders of a scene's frame recorded.
use Rattle.std.specs.Prelude.{◌≡◌, List, length, sum_by}
use Rattle.gfx_model.specs.Frames.{collected}
use Rattle.scene_model.specs.Fold.{FramePlan}
use Rattle.scene_model.specs.Journal.{IsLawfulFrame, item_count}
use Rattle.draw_encoder.specs.declared.items.Recording.{Recording}
use Rattle.frame_record.specs.Seen.{recordings_seen}
use Rattle.gfx_context.specs.Gathered.{dropped_in}

-- what a frame's encoders recorded is the plan's: the journal is lawful, and there are as many items and dropped lines as the plan has
pub record IsRecorded (plan : FramePlan) (rs : List Recording) : Type 0 where
  pub lawful : IsLawfulFrame plan (collected (recordings_seen rs))
  pub items : length (collected (recordings_seen rs)) ≡ item_count plan.encoders
  pub dropped : dropped_in rs ≡ sum_by (λ a. a.dropped) plan.encoders
