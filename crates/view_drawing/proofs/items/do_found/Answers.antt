use Rattle.std.proofs.Common.{ap}
use Rattle.std.specs.Prelude.{option_map}
use Rattle.std.proofs.lemmas.Result.{on_err_weaker}
use Rattle.view_drawing.specs.Entries.{found_seen}
use Rattle.view_drawing.proofs.items.do_found.Goals as goal

pub returns-in-Some-clause-needs : goal.returns-in-Some-clause-needs
returns-in-Some-clause-needs c =
    on_err_weaker c.do_item.result (λ draws. (found_seen (c.in-Some.recording, c.in-Some.item), (ap (option_map found_seen) c.in-Some.is, draws))) c.do_item.ensures.needs
