use Rattle.frame_record.proofs.KeptLaws.{kept_of}
use Rattle.frame_record.proofs.frame.Frame.tell_facts.Goals as goal

pub returns-clause-kept : goal.returns-clause-kept
returns-clause-kept c = let f = c.args.self.now in kept_of f.recordings.items f.journal.items f.kept
