use Rattle.std.proofs.Common.{List, sym, subst, ◌∙◌}
use Rattle.covered_rows.specs.declared.runs.Run.{Run}
use Rattle.covered_rows.specs.Covering.{AddsOnly}
use Rattle.harmless_views.specs.Checked.{IsSomeRun}
use Rattle.harmless_views.specs.Seen.{entries_in, looked, recorded_in}
use Rattle.harmless_views.proofs.Mattering.{no-target, meet-matters}
use Rattle.harmless_views.proofs.judging.is_harmless.Goals as goal

pub returns-clause-judged : goal.returns-clause-judged
returns-clause-judged c = λ apart. (
  no-target c.args.scope.now.view.now.target (sym c.is_some.ensures ∙ c.if-is_some.false),
  (c.check_all.new.runs.items, (c.in_ok-fine.ensures.checked c.if-not-fine.false, c.in_ok-apart.ensures.apart apart)),
)

pub returns-clause-matters : goal.returns-clause-matters
returns-clause-matters c = λ meeting there.
    let s = c.args.scope.now in
    meet-matters (looked s) (recorded_in s) (entries_in s) c.check_all.new.runs.items
    (subst (λ (old : List Run). AddsOnly (IsSomeRun (looked s) (recorded_in s) (entries_in s)) old c.check_all.new.runs.items) c.new-runs.ensures.items (c.in_ok-fine.ensures.adds there))
    (c.in_ok-apart.ensures.meet meeting)
