use Rattle.scene_progress.proofs.Journals.{no_frames, frames_more, frame_count}
use Rattle.scene_progress.proofs.frames_law.Goals as goal

pub returns-clause-none : goal.returns-clause-none
returns-clause-none c = no_frames

pub returns-clause-more : goal.returns-clause-more
returns-clause-more c = frames_more

pub returns-clause-count : goal.returns-clause-count
returns-clause-count c = frame_count
