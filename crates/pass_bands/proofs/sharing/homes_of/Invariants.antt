use Rattle.std.proofs.Common.{◌≡◌, All, length}
use Rattle.pass_bands.proofs.sharing.homes_of.Given as goal

abbrev pub invariant-loop : goal.invariant-loop
invariant-loop l = record {
  of : All (λ t. t ≡ l.fn.task) l.homes.items;
  count : length l.homes.items ≡ l.counter;
}
