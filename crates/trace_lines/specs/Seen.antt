-- The crate's types as the definitions see them.
use Rattle.std.specs.Prelude.{◌++◌, List, ℕ, codes}
use Rattle.gfx_model.specs.Pixel.{Pixel}
use Rattle.gfx_words.specs.Seen.{entry_seen}
use Rattle.trace_laws.specs.Doers as model
use Rattle.trace_laws.specs.History.{Stroke, after_stroke, fate_of}
use Rattle.trace_laws.specs.Text.{pixel_text, fate_text}
use Rattle.trace_lines.specs.declared.doers.Doer.{Doer}
use Rattle.trace_lines.specs.declared.doers.Doer.TheVariants as doers

-- whose a deed is
abbrev pub doer_seen : Doer → model.Doer
doer_seen (doers.Clear view) = model.clear_doer view
doer_seen (doers.Item view entry) = model.item_doer view (entry_seen entry)

-- the end of a stroke's line: what stood before it, what stands after it, and what became of it
abbrev pub change_text : Pixel → Stroke → List ℕ
change_text p s = codes " was " ++ (pixel_text p ++ (codes " is " ++ (pixel_text (after_stroke p s) ++ (codes " " ++ (fate_text (fate_of p s) ++ codes "\n")))))
