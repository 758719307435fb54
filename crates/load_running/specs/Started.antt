-- Blocks that a thread runs, or that were run here.
use Rattle.std.specs.Prelude.{◌≡◌, List, map}
use Rattle.load_text.specs.Loads.{BlockLine}
use Rattle.load_text.specs.Seen.{line_seen}
use Rattle.res_lock.specs.declared.table.ResPass.{ResPass}
use Rattle.load_running.specs.Lines.{HasRun}
use Rattle.load_running.specs.declared.blocks.Ran.{Ran}
use Rattle.load_running.specs.declared.callers.Started.{Started}
use Rattle.load_running.specs.declared.callers.Started.TheVariants as started

-- a thread promises to run the lines by the pass, or they were run
abbrev pub IsStarted : List BlockLine → ResPass → Started → Type 0
IsStarted lines pass (started.Thread h) = (h.promise.0.value ≡ pass) × (map line_seen h.promise.1.now ≡ lines)
IsStarted lines pass (started.Here ran) = HasRun lines ran.is_whole pass ran.pass

-- what was run, or what the thread's promise says of it
abbrev pub Finishes : Started → Ran → Type 0
Finishes (started.Thread h) ran = HasRun (map line_seen h.promise.1.now) ran.is_whole h.promise.0.value ran.pass
Finishes (started.Here here) ran = ran ≡ here
