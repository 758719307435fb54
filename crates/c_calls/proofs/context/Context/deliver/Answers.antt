use Rattle.std.proofs.Common.{refl, sym, ◌∙◌}
use Rattle.c_calls.proofs.Frames.{handed}
use Rattle.c_calls.proofs.context.Context.deliver.Goals as goal

pub returns-then-not-is_shown : goal.returns-then-not-is_shown
returns-then-not-is_shown c = λ frame before number shows. record { wants = refl; shows = shows; not_shown = sym c.is_shown.ensures ∙ c.if-not-is_shown.true; same = refl }

pub returns : goal.returns
returns c = λ frame before number shows.
    let shown = sym c.is_shown.ensures ∙ c.if-not-is_shown.false in
    let h = handed frame before c.args.self.now c.hand_out-picture.result c.args.buffer.now c.hand_out-picture.new.buffer shows shown c.hand_out-picture.ensures in
    record { number = number; dropped_is = refl; shows = shows; shown = shown; bytes = h.0; fits = h.1; picture = h.2 }
