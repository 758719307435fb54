-- The crate's types as the definitions see them.
use Rattle.std.specs.Prelude.{ℕ, Option, Some, None}
use Rattle.pixel_ops.specs.declared.pixels.Pixel.{Pixel}
use Rattle.pixel_strokes.specs.declared.strokes.Stroke.{Stroke}
use Rattle.pixel_ops.specs.Seen.{pixel_seen}
use Rattle.pixel_strokes.specs.Seen.{stroke_seen}
use Rattle.target_laws.specs.Targets as model
use Rattle.target_tracing.specs.declared.made.TargetMade.{TargetMade}
use Rattle.target_tracing.specs.declared.made.TargetStroke.{TargetStroke}
use Rattle.target_tracing.specs.declared.made.TargetStroke.TheVariants as strokes

-- a stroke with the same words and values
abbrev pub target_stroke_seen : TargetStroke → model.TargetStroke
target_stroke_seen (strokes.Own s) = model.own_stroke (stroke_seen s)
target_stroke_seen (strokes.Left p) = model.left_stroke (pixel_seen p)

-- a stroke of a deed's own, or else the pixel that it leaves
abbrev pub stroke_or : Option Stroke → Pixel → model.TargetStroke
stroke_or (Some s) p = model.own_stroke (stroke_seen s)
stroke_or None p = model.left_stroke (pixel_seen p)

-- a stroke of a deed
abbrev pub target_made_of : ℕ → model.TargetStroke → model.TargetMade
target_made_of n s = record { deed = n; stroke = s }

-- a stroke with its deed
abbrev pub target_made_seen : TargetMade → model.TargetMade
target_made_seen m = target_made_of m.deed (target_stroke_seen m.stroke)
