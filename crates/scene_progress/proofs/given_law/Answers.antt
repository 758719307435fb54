use Rattle.scene_progress.proofs.Given.{lawful_state, given, frame_number}
use Rattle.scene_progress.proofs.given_law.Goals as goal

pub returns-clause-lawful : goal.returns-clause-lawful
returns-clause-lawful c = lawful_state

pub returns-clause-given : goal.returns-clause-given
returns-clause-given c = given

pub returns-clause-frame : goal.returns-clause-frame
returns-clause-frame c = frame_number
