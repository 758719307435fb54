use Rattle.frame_swap.proofs.WholeSeat.{all_came}
use Rattle.render_core.proofs.in_place.InPlaceLink.into_renderer.Goals as goal

pub returns-clause-all_back : goal.returns-clause-all_back
returns-clause-all_back g c = λ same. all_came _ _ _ c.args.self.all_rendered.1 same c.args.self.back_is
