use Rattle.std.proofs.Common.{[], ◌∷◌}
use Rattle.resource_book.proofs.opening.first_stacks.Goals as goal

pub returns : goal.returns
returns c = λ j. c.in_ok-stack_of.ensures j ∷ c.in_ok-stack_of-2.ensures j ∷ c.in_ok-stack_of-3.ensures j ∷ c.in_ok-stack_of-4.ensures j ∷ []
