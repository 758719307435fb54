use Rattle.std.proofs.Common.{Some, ap, ◌∙◌, ◌+◌}
use Rattle.picture_diff.specs.declared.difference.Spread.{Spread}
use Rattle.picture_diff.proofs.Spreads.{found-more}
use Rattle.picture_diff.proofs.found.Found.with.Goals as goal

pub returns-clause-found : goal.returns-clause-found
returns-clause-found c ps e = ap (λ (s : Spread). record { differ = c.args.self.differ + 1; spread = Some s }) c.widened.ensures ∙ found-more c.args.self ps c.args.place e
