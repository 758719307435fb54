use Rattle.draw_encoder.specs.Seen.{draw_seen}
use Rattle.recorded_keys.proofs.KeyLaws.{draw-marked, none-some}
use Rattle.recorded_keys.proofs.marking.draw_mark.Goals as goal

pub returns-in_err-key : goal.returns-in_err-key
returns-in_err-key c = λ bytes sets there. none-some _ (c.in_err-key.ensures bytes sets there)

pub returns : goal.returns
returns c = λ bytes sets there. draw-marked c.args.views.now c.args.encoder c.in_ok-key.key (draw_seen bytes sets c.args.draw.now) (c.in_ok-key.ensures bytes sets there)
