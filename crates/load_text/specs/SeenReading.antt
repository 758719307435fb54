-- The state of reading as the definition sees it.
use Rattle.std.specs.Prelude.{◌≡◌, Bool, true, false, List, map, Option, Some, None}
use Rattle.scene_model.specs.Field.{BoundName}
use Rattle.load_text.specs.Text as text
use Rattle.load_text.specs.Seen.{block_seen}
use Rattle.load_text.specs.declared.stages.Stage.{Stage}
use Rattle.load_text.specs.declared.stages.Stage.TheVariants as stages
use Rattle.load_text.specs.declared.stages.Reading.{Reading}

-- the same place in the order of lines
abbrev pub stage_seen : Stage → text.Stage
stage_seen stages.Front = text.at_front
stage_seen stages.Callers = text.at_callers
stage_seen stages.FirstBlock = text.at_first_block
stage_seen (stages.InBlock caller) = text.in_block caller
stage_seen stages.End = text.at_end

-- what was read so far, with the blocks' lines as they are seen
abbrev pub reading_seen : Reading → text.Reading
reading_seen r = record { stage = stage_seen r.stage; callers = r.callers; names = r.names; blocks = map block_seen r.blocks.items }

-- a line stands and this is behind it, or it fails
abbrev pub Reads : Bool → text.Reading → Option text.Reading → Type 0
Reads true new read = read ≡ Some new
Reads false new read = read ≡ None

-- a name is bound and these are the names, or it can't be bound
abbrev pub Binds : Bool → List BoundName → Option (List BoundName) → Type 0
Binds true new read = read ≡ Some new
Binds false new read = read ≡ None
