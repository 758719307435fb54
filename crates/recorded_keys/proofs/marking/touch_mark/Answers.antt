use Rattle.std.proofs.Common.{sym}
use Rattle.draw_encoder.specs.Seen.{touch_seen}
use Rattle.recorded_keys.proofs.KeyLaws.{touch-marked, none-some}
use Rattle.recorded_keys.proofs.marking.touch_mark.Goals as goal

pub returns-in_err-key : goal.returns-in_err-key
returns-in_err-key c = λ bytes there. none-some _ (c.in_err-key.ensures bytes c.args.sets.now there)

pub returns : goal.returns
returns c = λ bytes there.
    touch-marked c.args.views.now c.args.encoder c.in_ok-key.key (touch_seen c.args.sets.now c.args.touch.now) (sym c.if-not-carries.ensures) (c.in_ok-key.ensures bytes c.args.sets.now there)
