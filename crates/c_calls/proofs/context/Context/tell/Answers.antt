use Rattle.std.proofs.Common.{refl, sym, ◌∙◌}
use Rattle.c_calls.proofs.context.Context.tell.Goals as goal

pub returns-then-not-is_shown : goal.returns-then-not-is_shown
returns-then-not-is_shown c = λ frame before number shows. record { wants = refl; shows = shows; not_shown = sym c.is_shown.ensures ∙ c.if-not-is_shown.true; same = refl }

pub returns : goal.returns
returns c = λ frame before number shows. record { number = number; dropped_is = refl; shows = shows; shown = sym c.is_shown.ensures ∙ c.if-not-is_shown.false; none = refl }
