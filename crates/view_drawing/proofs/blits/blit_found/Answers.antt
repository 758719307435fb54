use Rattle.std.proofs.Common.{◌≡◌, Some, rules}
use Rattle.std.specs.Prelude.{option_map, option_and_then}
use Rattle.std.proofs.lemmas.Result.{on_err_weaker}
use Rattle.draw_encoder.specs.Seen.{blit_seen}
use Rattle.view_drawing.specs.Entries.{blit_of, found_seen}
use Rattle.view_drawing.proofs.blits.blit_found.Goals as goal

pub returns-in-Some-default-Blit-clause-needs : goal.returns-in-Some-default-Blit-clause-needs
returns-in-Some-default-Blit-clause-needs c =
    let item = c.in-Some-default-Blit.item in
    let is : option_and_then blit_of (option_map found_seen c.args.found) ≡ Some (blit_seen item) = search rules in
    on_err_weaker c.blit.result (λ within. (blit_seen item, (is, within item.view))) c.blit.ensures.needs
