use Rattle.std.proofs.Common.{List, [], ◌∷◌, ◌++◌, map, length, ap, ◌∙◌, arith}
use Rattle.std.proofs.lemmas.List.{take_all}
use Rattle.gfx_model.specs.Pixel.{Pixel}
use Rattle.gfx_model.specs.World.{pixels_of}
use Rattle.int_raster.specs.Seen.{surface_seen}
use Rattle.trace_laws.proofs.Lists.{grows-at, map-more}
use Rattle.trace_laws.specs.History.{no_pixel}
use Rattle.frame_blame.specs.Marks.{new_mark}
use Rattle.frame_blame.proofs.Blames.{length-mapped}
use Rattle.frame_blame.proofs.Starts.{pixels-many}
use Rattle.frame_blame.proofs.blaming.table_of.Goals as goal

pub loop-place-preserved : goal.loop-place-preserved
loop-place-preserved c =
    let ps : List Pixel = pixels_of (surface_seen c.args.surface.now) in
    let many = pixels-many c.args.surface.now in
    grows-at (map new_mark) [] c.loop-place.marks.items c.push.new.self.items ps c.loop-place.place no_pixel (map-more new_mark) (omega (arith, many, c.loop-place-test.true)) c.loop-place.invariant
    (c.in_ok-push.ensures.items ∙ ap (λ o. c.loop-place.marks.items ++ (record { depth = o; deed = 0 }) ∷ []) c.word_of.ensures)

pub returns-clause-marks : goal.returns-clause-marks
returns-clause-marks c =
    let ps : List Pixel = pixels_of (surface_seen c.args.surface.now) in
    let many = pixels-many c.args.surface.now in
    c.loop-place.invariant ∙ ap (map new_mark) (take_all c.loop-place.place ps (omega (arith, many, c.loop-place-test.false)))

pub invariant_of-result : goal.invariant_of-result
invariant_of-result c =
    let ps : List Pixel = pixels_of (surface_seen c.args.surface.now) in
    let many = pixels-many c.args.surface.now in
    record {
      whole = ap length (c.loop-place.invariant ∙ ap (map new_mark) (take_all c.loop-place.place ps (omega (arith, many, c.loop-place-test.false))))
          ∙ length-mapped new_mark ps ∙ many ∙ c.args.surface.now.color.whole;
    }
