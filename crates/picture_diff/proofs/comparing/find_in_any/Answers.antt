use Rattle.std.proofs.Common.{ap, sym, ◌∙◌, arith}
use Rattle.picture_diff.specs.Told.{found_of}
use Rattle.picture_diff.proofs.Rows.{none-apart}
use Rattle.picture_diff.proofs.comparing.find_in_any.Goals as goal

pub returns-then-most-pair : goal.returns-then-most-pair
returns-then-most-pair c =
    let p = c.args.pair.now in
    c.none.ensures ∙ ap found_of (sym (none-apart p.near p.width c.args.height p.one.now p.other.now (c.requires.one ∙ sym c.requires.other) (omega (arith, c.requires.most, c.if-most-pair.true))))
