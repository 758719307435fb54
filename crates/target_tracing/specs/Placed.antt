-- What deeds that are done did to a pixel of a surface that stands in the place of the back buffer.
use Rattle.std.specs.Prelude.{ℕ, List, [], Option, Some, None}
use Rattle.gfx_model.specs.Frames.{Recorded, item_of_entry}
use Rattle.gfx_model.specs.Views.{View}
use Rattle.gfx_model.specs.World.{Surface, Item, draw_item}
use Rattle.store_model.specs.Slots.{at}
use Rattle.store_model.specs.Textures.{target_out}
use Rattle.store_laws.specs.ByIndex.{Stores, paint_at}
use Rattle.trace_laws.specs.ByIndex.{clear_strokes_in, drawn_strokes_in}
use Rattle.trace_laws.specs.Doers.{Doer, clear_doer, item_doer}
use Rattle.trace_laws.specs.History.{Stroke}

-- the fragments of an item, if it is a draw, with the textures that are here
abbrev pub strokes_given : Stores → View → ℕ → ℕ → Option Item → List Stroke
strokes_given h view x y (Some (draw_item d)) = drawn_strokes_in h view d x y (paint_at h.buffers h.textures d (at h.programs d.program.index))
strokes_given h view x y _ = []

-- what a doer's deed did
abbrev pub placed_strokes : Stores → View → ℕ → ℕ → List Recorded → Doer → List Stroke
placed_strokes h view x y rs (clear_doer v) = clear_strokes_in h view x y
placed_strokes h view x y rs (item_doer v n) = strokes_given h view x y (item_of_entry rs n)

-- the same with a surface that is taken out of textures, if it is there
abbrev pub standing_strokes : Option Surface → (index : ℕ) → Stores → View → ℕ → ℕ → List Recorded → Doer → List Stroke
standing_strokes None index h view x y rs d = []
standing_strokes (Some s) index h view x y rs d = placed_strokes (record h { back = s; textures = target_out index h.textures }) view x y rs d
