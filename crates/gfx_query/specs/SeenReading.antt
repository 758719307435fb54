-- The state of reading as the definition sees it.
use Rattle.std.specs.Prelude.{◌≡◌, ℕ, Bool, true, false, map, Option, Some, None, Result, Ok, Err}
use Rattle.gfx_query.specs.Queries as model
use Rattle.gfx_query.specs.Text as text
use Rattle.gfx_query.specs.Seen.{frame_seen, script_seen}
use Rattle.gfx_query.specs.declared.stages.Stage.{Stage}
use Rattle.gfx_query.specs.declared.stages.Stage.TheVariants as stages
use Rattle.gfx_query.specs.declared.stages.Reading.{Reading}
use Rattle.gfx_query.specs.declared.script.Script.{Script}
use Rattle.gfx_query.specs.declared.text.TextFault.{TextFault}
use Rattle.gfx_query.specs.declared.text.TextFault.TheVariants as faults

-- which lines may come
abbrev pub stage_seen : Stage → text.Stage
stage_seen stages.Front = text.at_front
stage_seen stages.Size = text.at_size
stage_seen stages.FirstFrame = text.at_first_frame
stage_seen stages.InFrame = text.in_frame
stage_seen stages.End = text.at_end

-- what was read so far
abbrev pub reading_seen : Reading → text.Reading
reading_seen r = record { stage = stage_seen r.stage; width = r.sides.width; height = r.sides.height; frames = map frame_seen r.frames.items; instances = r.instances.items }

-- a line stands and this is behind it, or it fails
abbrev pub Reads : Bool → text.Reading → Option text.Reading → Type 0
Reads true new read = read ≡ Some new
Reads false new read = read ≡ None

-- the script or the line of the definition, unless memory ran out
abbrev pub ReadsScript : Result Script TextFault → Result model.Script ℕ → Type 0
ReadsScript (Ok s) read = read ≡ Ok (script_seen s)
ReadsScript (Err (faults.Line line)) read = read ≡ Err line
ReadsScript (Err faults.OutOfMemory) read = Unit {0}
