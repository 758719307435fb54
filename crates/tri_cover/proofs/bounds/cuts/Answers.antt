use Rattle.std.proofs.Common.{subst, sym, arith}
use Rattle.tri_cover.specs.Bounded.{IsCut}
use Rattle.tri_cover.proofs.Shortened.{short_cut}
use Rattle.tri_cover.proofs.bounds.cuts.Goals as goal

pub returns-in-Some-clause-cuts : goal.returns-in-Some-clause-cuts
returns-in-Some-clause-cuts c k h =
    subst (λ s. IsCut s c.args.bounds.now c.args.first c.args.after k) (sym (c.short_spans.ensures.spans k h))
    (short_cut c.in-Some.shorts c.args.bounds.now c.args.first c.args.after k c.in-Some.ensures (omega (arith, h, c.requires.few)) (omega arith))
