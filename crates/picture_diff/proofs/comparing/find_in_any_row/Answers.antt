use Rattle.std.proofs.Common.{◌≡◌, ◌≤◌, ◌++◌, ap, sym, ◌∙◌, arith}
use Rattle.picture_diff.specs.Told.{found_of}
use Rattle.picture_diff.specs.Difference.{most_apart}
use Rattle.picture_diff.specs.declared.difference.Place.{Place}
use Rattle.std.specs.Prelude.{List, slice_range, ◌+◌, ◌*◌}
use Rattle.picture_diff.proofs.Rows.{near-row, none-found}
use Rattle.picture_diff.proofs.comparing.find_in_any_row.Goals as goal

pub returns-then-most_apart-pair-clause-found : goal.returns-then-most_apart-pair-clause-found
returns-then-most_apart-pair-clause-found c =
    let p = c.args.pair.now in
    let none = near-row p.near p.width c.args.y c.args.start p.one.now p.other.now c.requires.start c.requires.one c.requires.other (omega (arith, c.most_apart.ensures, c.if-most_apart-pair.true)) in
    λ ps e. none-found ps _ e ∙ ap (λ (qs : List Place). found_of (ps ++ qs)) (sym none)
