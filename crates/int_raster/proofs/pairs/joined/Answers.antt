use Rattle.std.proofs.Common.{rules, ◌≡◌, min, max, sym, subst}
use Rattle.int_raster.specs.Joined.{IsJoined}
use Rattle.int_raster.proofs.Two.{both_joined}
use Rattle.int_raster.proofs.pairs.joined.Goals as goal

pub returns : goal.returns
returns c =
    let least : c.min.result ≡ min c.args.a.0 c.args.b.0 = search rules in
    let most : c.max.result ≡ max c.args.a.1 c.args.b.1 = search rules in
    subst (λ r. IsJoined r c.args.a c.args.b) (λ i. (sym least i, sym most i)) (both_joined c.args.a c.args.b c.requires)
