-- The state of reading as the definitions see them.
use Rattle.std.specs.Prelude.{map}
use Rattle.scene_model.specs.Grammar as model
use Rattle.scene_text.specs.declared.stages.Stage.{Stage}
use Rattle.scene_text.specs.declared.stages.Stage.TheVariants as stages
use Rattle.scene_text.specs.declared.reading.Reading.{Reading}
use Rattle.scene_text.specs.Seen.{room_seen, frame_seen}

-- how far the reading is
abbrev pub stage_seen : Stage → model.Stage
stage_seen stages.AtFront = model.at_front
stage_seen stages.AtSize = model.at_size
stage_seen stages.AtEncoders = model.at_encoders
stage_seen stages.AtRoom = model.at_room
stage_seen stages.AtLatency = model.at_latency
stage_seen stages.AtFirstFrame = model.at_first_frame
stage_seen stages.InBefore = model.in_before
stage_seen stages.InBlock = model.in_block
stage_seen stages.InBeside = model.in_beside
stage_seen stages.AtEnd = model.at_end

-- what was read so far
abbrev pub reading_seen : Reading → model.Reading
reading_seen r = record {
  stage = stage_seen r.stage;
  version = r.version;
  width = r.width;
  height = r.height;
  encoders = r.encoders;
  room = room_seen r.room;
  latency = r.latency;
  names = r.names;
  frames = map frame_seen r.frames.items;
}
