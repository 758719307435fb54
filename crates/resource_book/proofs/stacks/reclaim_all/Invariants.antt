use Rattle.std.proofs.Common.{◌≡◌}
use Rattle.gfx_model.proofs.PartlyMapped.{partly}
use Rattle.resource_book.specs.Stacks.{reclaimed}
use Rattle.resource_book.proofs.stacks.reclaim_all.Given as goal

abbrev pub invariant-loop-i : goal.invariant-loop-i
invariant-loop-i l = l.stacks ≡ partly (λ k s. reclaimed l.latency l.frame s) 0 l.i l.initial.stacks
