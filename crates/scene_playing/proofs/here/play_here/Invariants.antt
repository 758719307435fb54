use Rattle.hold_table.specs.Seats.{table_of}
use Rattle.scene_model.specs.Scene.{views_of}
use Rattle.scene_text.specs.Seen.{scene_seen}
use Rattle.block_recording.specs.Promised.{IsAccepted}
use Rattle.scene_playing.proofs.OpeningLaws.{counted_views}
use Rattle.scene_playing.proofs.here.play_here.Given as goal

-- the table that was just made, what the definition says of the scene's blocks, and the scene's views
abbrev pub ghosts-play_table_here : goal.ghosts-play_table_here
ghosts-play_table_here g a = record {
  table = table_of a.table;
  admits = IsAccepted (scene_seen a.scene.now);
  views = views_of (scene_seen a.scene.now);
  counted = counted_views (scene_seen a.scene.now);
}
