use Rattle.std.proofs.Common.{refl, ap}
use Rattle.scene_text.specs.SeenReading.{stage_seen, reading_seen}
use Rattle.scene_text.proofs.reading.Reading.after_run.Goals as goal

pub returns-in_ok-run-in-InBlock-clause-read : goal.returns-in_ok-run-in-InBlock-clause-read
returns-in_ok-run-in-InBlock-clause-read c = c.in_ok-run-in-InBlock.ensures.read (reading_seen c.args.self.now) (ap stage_seen c.in-InBlock.is) refl refl
