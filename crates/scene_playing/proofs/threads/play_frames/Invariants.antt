use Rattle.hold_table.specs.Seats.{table_of}
use Rattle.scene_model.specs.Scene.{views_of}
use Rattle.scene_text.specs.Seen.{scene_seen}
use Rattle.block_recording.specs.Promised.{IsAccepted}
use Rattle.scene_playing.proofs.OpeningLaws.{counted_views}
use Rattle.scene_playing.proofs.threads.play_frames.Given as goal

-- the table that was just made, what the definition says of the scene's blocks, and the scene's views
abbrev pub ghosts-play_table : goal.ghosts-play_table
ghosts-play_table g a = record {
  table = table_of a.table;
  admits = IsAccepted (scene_seen a.scene.now);
  views = views_of (scene_seen a.scene.now);
  counted = counted_views (scene_seen a.scene.now);
}
