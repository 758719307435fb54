-- What a renderer keeps, and which frames take memory.
use Rattle.std.specs.Prelude.{◌≡◌, ◌≢◌, ◌⊎◌, true, [], ⊤}
use Rattle.std.specs.List.{list_any}
use Rattle.frame_record.specs.declared.frame.Frame.{Frame}
use Rattle.frame_record.specs.declared.frame.Outcome.{Outcome}
use Rattle.frame_record.specs.declared.frame.Outcome.TheVariants as outcomes
use Rattle.render_stores.specs.Memory.{takes_memory}
use Rattle.render_core.specs.declared.renderer.Canvas.{Canvas}

-- a frame has an item, or a command that takes memory
abbrev pub NeedsMemory : Frame → Type 0
NeedsMemory f = (f.journal.items ≢ []) ⊎ ((list_any takes_memory f.pre ≡ true) ⊎ (list_any takes_memory f.post ≡ true))

-- the text has the sides of the back buffer
abbrev pub FitsText : Canvas → Type 0
FitsText c = (c.text.width ≡ c.stores.back.color.width) × (c.text.height ≡ c.stores.back.color.height)

-- the same after a frame, unless memory was wanting
abbrev pub FitsAfter : Outcome → Canvas → Type 0
FitsAfter outcomes.OutOfMemory c = ⊤
FitsAfter _ c = FitsText c
