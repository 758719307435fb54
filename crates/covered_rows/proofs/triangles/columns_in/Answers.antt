use Rattle.covered_rows.proofs.Covered.{columns-told, column-covered}
use Rattle.covered_rows.proofs.triangles.columns_in.Goals as goal

pub returns-clause-has : goal.returns-clause-has
returns-clause-has c = λ x lx l r covered.
    let told = columns-told c.span-first.result.0 c.span-first.result.1 x _ (c.span-first.ensures.columns x lx) covered in
    (c.greater-left.ensures.least x told.0 l, c.lesser_end-right.ensures.most x told.1 r)

pub returns-clause-only : goal.returns-clause-only
returns-clause-only c = λ x l r.
    column-covered c.span-first.result.0 c.span-first.result.1 c.greater-left.result c.lesser_end-right.result c.args.cut.x c.args.cut.w c.args.width x _ c.span-first.ensures.columns c.span-first.ensures.within c.greater-left.ensures.both c.lesser_end-right.ensures.both l r
