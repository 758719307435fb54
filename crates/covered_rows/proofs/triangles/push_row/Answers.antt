use Rattle.std.proofs.Common.{refl}
use Rattle.fix_math.specs.Seen.{rect_seen}
use Rattle.tri_cover.specs.Seen.{triangle_seen}
use Rattle.covered_rows.specs.declared.runs.Run.{Run}
use Rattle.covered_rows.proofs.Covered.{row-adds}
use Rattle.covered_rows.proofs.triangles.push_row.Goals as goal

pub returns-clause-has : goal.returns-clause-has
returns-clause-has c = λ x lx l r covered.
    let col = c.columns_in-first.ensures.has x lx l r covered in
    let run : Run = record { key = c.args.coverer.key; encoder = c.args.coverer.encoder; row = c.args.row; first = c.columns_in-first.result.0; after = c.columns_in-first.result.1 } in
    (run, c.in_ok-push_run.ensures.has x col, refl, refl, refl, col)

pub returns-clause-adds : goal.returns-clause-adds
returns-clause-adds c = λ height low upper lower.
    let s = c.args.setup.now in
    row-adds c.args.runs.now.items _ c.args.coverer.key c.args.coverer.encoder c.args.row c.columns_in-first.result.0 c.columns_in-first.result.1 (triangle_seen s.a s.b s.c) (rect_seen c.args.cut) c.args.width height
    low upper lower c.columns_in-first.ensures.only c.in_ok-push_run.ensures.adds
