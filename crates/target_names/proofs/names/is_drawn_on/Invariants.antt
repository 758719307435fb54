use Rattle.std.proofs.Common.{◌≡◌, drop}
use Rattle.std.specs.List.{list_any}
use Rattle.target_laws.specs.Names.{is_drawn_on}
use Rattle.target_laws.specs.Targets.{is_target}
use Rattle.target_names.proofs.names.is_drawn_on.Given as goal

abbrev pub invariant-loop-view : goal.invariant-loop-view
invariant-loop-view l = list_any (λ v. is_target l.target v.target) (drop l.view l.views.settings) ≡ is_drawn_on l.views l.target
