use Rattle.std.proofs.Common.{arith, sym}
use Rattle.fix_math.specs.Seen.{rect_seen}
use Rattle.harmless_views.proofs.Covers.{triangles-more, triangles-all, triangles-add, triangles-added, keeps-then}
use Rattle.harmless_views.proofs.covering.push_triangles.Goals as goal

pub loop-setup-preserved : goal.loop-setup-preserved
loop-setup-preserved c =
    let a = c.args in
    let l = c.loop-setup in
    record {
      keeps = keeps-then a.runs.now.items l.runs.items _ l.invariant.keeps c.in_ok-push_triangle.ensures.keeps;
      has = triangles-more l.runs.items _ a.coverer.key a.coverer.encoder a.triangles.now l.setup-index c.setup-item.result (rect_seen a.cut) a.width a.height c.loop-setup-test.true (sym c.setup-item.is) c.in_ok-push_triangle.ensures.keeps l.invariant.has c.in_ok-push_triangle.ensures.has;
      adds = triangles-add a.runs.now.items l.runs.items _ a.coverer.key a.coverer.encoder a.triangles.now l.setup-index c.setup-item.result (rect_seen a.cut) a.width a.height c.loop-setup-test.true (sym c.setup-item.is) l.invariant.adds c.in_ok-push_triangle.ensures.adds;
    }

pub returns-clause-has : goal.returns-clause-has
returns-clause-has c =
    let a = c.args in
    let l = c.loop-setup in
    triangles-all l.runs.items a.coverer.key a.coverer.encoder a.triangles.now l.setup-index (rect_seen a.cut) a.width a.height (omega arith) l.invariant.has

pub returns-clause-adds : goal.returns-clause-adds
returns-clause-adds c =
    let a = c.args in
    let l = c.loop-setup in
    triangles-added a.runs.now.items l.runs.items a.coverer.key a.coverer.encoder a.triangles.now l.setup-index (rect_seen a.cut) a.width a.height (omega arith) l.invariant.adds
