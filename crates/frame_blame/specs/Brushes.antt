-- What makes strokes.
use Rattle.std.specs.Prelude.{◌≡◌, ℕ, ◌&&◌, ◌==◌, Bool, true, if◌then◌else◌}
use Rattle.gfx_model.specs.Raster.{contains, covers, fragment_at, no_color}
use Rattle.fix_math.specs.Seen.{rect_seen}
use Rattle.tri_cover.specs.Shown.{setup_seen}
use Rattle.tri_cover.specs.declared.triangles.Setup.{Setup}
use Rattle.int_raster.specs.declared.lists.Prepared.{Prepared}
use Rattle.int_raster.specs.Seen.{facing_seen}
use Rattle.trace_laws.specs.History.{Stroke, clear_stroke, fragment_stroke}
use Rattle.view_table.specs.Seen.{clear_seen}
use Rattle.frame_blame.specs.declared.brushes.Brush.{Brush}
use Rattle.frame_blame.specs.declared.brushes.Tip.{Tip}
use Rattle.frame_blame.specs.declared.brushes.Tip.TheVariants as tips
use Rattle.frame_blame.specs.declared.marks.Mark.{Mark}
use Rattle.frame_blame.specs.Marks.{mark_after}

-- whether a tip covers a pixel
abbrev pub tip_covers : Tip → ℕ → ℕ → Bool
tip_covers (tips.Clear c) x y = true
tip_covers (tips.Triangle t) x y = covers (setup_seen t.setup).triangle x y

-- whether a brush has a stroke at a pixel
abbrev pub brush_covers : Brush → ℕ → ℕ → Bool
brush_covers b x y = contains (rect_seen b.cut) x y && tip_covers b.tip x y

-- its stroke at a pixel that it covers, without the colour
abbrev pub tip_stroke : Tip → ℕ → ℕ → Stroke
tip_stroke (tips.Clear c) x y = clear_stroke (clear_seen c)
tip_stroke (tips.Triangle t) x y = fragment_stroke 0 t.state t.stencil (record { color = no_color; depth = (fragment_at (setup_seen t.setup).triangle x y).depth })

-- a mark that a brush of a deed covers, after it
abbrev pub tipped : ℕ → Brush → (x y : ℕ) → Mark → Mark
tipped number b x y m = mark_after number m (tip_stroke b.tip x y)

-- a mark after a brush of a deed
abbrev pub brushed : ℕ → Brush → (x y : ℕ) → Mark → Mark
brushed number b x y m = if brush_covers b x y then tipped number b x y m else m

-- a change of the marks of one row
abbrev pub in_row : ℕ → ((x y : ℕ) → Mark → Mark) → (x y : ℕ) → Mark → Mark
in_row row change x y m = if y == row then change x y m else m

-- a brush is a triangle of a draw, within the draw's cut
pub record IsBrushOf (draw : Prepared) (setup : Setup) (b : Brush) : Type 0 where
  pub cut_is : b.cut ≡ draw.cut
  pub tip_is : b.tip ≡ tips.Triangle (record { setup = setup; state = draw.state; stencil = (facing_seen draw setup).stencil })
