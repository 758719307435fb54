use Rattle.scene_progress.proofs.Journals.{frames_front, pictures_front, picture_count}
use Rattle.scene_progress.proofs.front_law.Goals as goal

pub returns-clause-frames : goal.returns-clause-frames
returns-clause-frames c = frames_front

pub returns-clause-pictures : goal.returns-clause-pictures
returns-clause-pictures c = pictures_front

pub returns-clause-count : goal.returns-clause-count
returns-clause-count c = picture_count
