use Rattle.scene_text.specs.Seen.{journal_seen, scene_seen}
use Rattle.scene_playing.specs.Order.{order_seen, wanted_seen}
use Rattle.scene_playing.proofs.Orders.{follows_here, serial_here}
use Rattle.scene_playing.proofs.here.play_table_here.Goals as goal

pub returns-clause-follows : goal.returns-clause-follows
returns-clause-follows g c = follows_here (order_seen c.args.order) (wanted_seen c.here-wanted.result) (journal_seen c.play_named.result.journal) c.here-wanted.ensures c.play_named.ensures.keeps

pub returns-clause-serial : goal.returns-clause-serial
returns-clause-serial g c =
    serial_here (scene_seen c.args.scene.now) (order_seen c.args.order) (wanted_seen c.here-wanted.result) (journal_seen c.play_named.result.journal) c.here-wanted.ensures c.play_named.ensures.keeps c.play_named.ensures.played.ended.lawful
