use Rattle.frame_record.specs.Seen.{entry_seen, recordings_seen}
use Rattle.frame_record.proofs.KeyLaws.{keyed_item, placed_item}
use Rattle.frame_record.proofs.ordering.key_at.Goals as goal

pub returns-clause-key : goal.returns-clause-key
returns-clause-key c = keyed_item c.args.views.now (recordings_seen c.args.recordings.now) c.args.place (entry_seen c.args.entry) _ c.key_of.result c.in_ok-found.ensures.content (c.key_of.ensures.key _ _)

pub returns-clause-placed : goal.returns-clause-placed
returns-clause-placed c = placed_item c.args.views.now (recordings_seen c.args.recordings.now) (entry_seen c.args.entry) _ c.key_of.result c.in_ok-found.ensures.content (c.key_of.ensures.position _ _)
