use Rattle.std.proofs.Common.{◌∙◌, ◌++◌, ap, take, arith}
use Rattle.std.proofs.lemmas.List.{length-append, length-take-le}
use Rattle.io_edge.specs.Edge.{with_front}
use Rattle.io_whole.proofs.Pieces.{with_front-with_front}
use Rattle.io_whole.proofs.reading.read_all.Goals as goal

-- what was read before, and the piece that was too many
pub returns-then-n-limit-clause-too_long : goal.returns-then-n-limit-clause-too_long
returns-then-n-limit-clause-too_long g c =
    let piece = take c.in_ok-n.n c.take.new.room in
    λ e. record {
      bytes = c.loop-all.all.items ++ piece;
      rest = g.S.Source.left c.take.new.self;
      given = c.loop-all.invariant.left ∙ ap (with_front c.loop-all.all.items) c.in_ok-n.ensures.taken ∙ with_front-with_front c.loop-all.all.items piece (g.S.Source.left c.take.new.self);
      many = omega (arith, length-append c.loop-all.all.items piece, length-take-le c.in_ok-n.n c.take.new.room (omega (arith, c.take.auto.room, c.in_ok-n.ensures.fits)));
    }
