use Rattle.scene_text.proofs.WrittenScenes.{five_pieces}
use Rattle.scene_text.proofs.scene_writing.put_head.Goals as goal

pub returns : goal.returns
returns c = five_pieces _ _ _ _ _ _ _ _ _ _ _ c.in_ok-put_version.ensures c.in_ok-put_size.ensures c.in_ok-put_encoders.ensures c.in_ok-put_room.ensures c.in_ok-put_latency.ensures
